-- The accesses that a run makes, in order.
use Rattle.std.specs.Prelude.{ℕ, zero, suc, ◌<◌, List, [], ◌∷◌, ◌++◌}
use Rattle.memory.specs.World.{World, byte_at, seen, kept}
use Rattle.memory.specs.Access.{Access, Outcome, perform}
use Rattle.memory.specs.Access.Access.{done, read_at, store_at}
use Rattle.runs.specs.Run.{Progress}

-- a read of an address, a store of a byte at an address
pub data Event : Type 0 where
  read : ℕ → Event
  store : ℕ → ℕ → Event

-- the address of an access
abbrev pub address_of : Event → ℕ
address_of (read a) = a
address_of (store a byte) = a

-- accesses that are all below 65,536
abbrev pub InMemory : List Event → Type 0
InMemory [] = Unit
InMemory (e ∷ t) = (address_of e < 65536) × InMemory t

-- the accesses that performing makes, in order
unfoldable pub events : {R : Type 0} → Access R → World → List Event
events (done x) w = []
events (read_at a p) w = read a ∷ events (p (byte_at a w)) (seen a w)
events (store_at a byte p) w = store a byte ∷ events p (kept a byte w)

module _ {Regs : Type 0} (turn : Regs → Access (Progress Regs)) where
  -- a turn by its accesses
  abbrev pub taken : Regs → World → Outcome World (Progress Regs)
  taken r w = perform (turn r) w

  -- the accesses of each turn, one after the other
  unfoldable pub trace : ℕ → Regs → World → List Event
  trace zero r w = []
  trace (suc budget) r w = let o = taken r w in events (turn r) w ++ trace budget o.result.regs o.left
