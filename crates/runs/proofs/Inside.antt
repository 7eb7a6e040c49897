-- Where every turn of a run stays inside the memory and leaves what the next one needs for that, all accesses of the run do.
-- Assumes nothing.
use Prim.Native.Nat.{ℕ, zero, suc}
use mathlib.Core.List.{List, [], ◌∷◌, ◌++◌}
use Rattle.memory.specs.World.{World, byte_at, seen, kept}
use Rattle.memory.specs.Access.{Access}
use Rattle.memory.specs.Access.Access.{done, read_at, store_at}
use Rattle.memory.specs.Inside.{Bytes, Inside}
use Rattle.memory.proofs.Inside.{bytes_kept}
use Rattle.runs.specs.Run.{Progress}
use Rattle.runs.specs.Trace.{Event, InMemory, events, taken, trace}

append : (s t : List Event) → InMemory s → InMemory t → InMemory (s ++ t)
append [] t i j = j
append (e ∷ s) t i j = (i.0, append s t i.1 j)

events_inside : {R : Type 0} (p : Access R) (w : World) → Inside p → Bytes w → InMemory (events p w)
unfolding events
events_inside (done x) w i m = tt
events_inside (read_at a p) w i m =
    (i.0, events_inside (p (byte_at a w)) (seen a w) (i.1 (byte_at a w) (m.below a)) (record { below = m.below }))
events_inside (store_at a byte p) w i m = (i.0, events_inside p (kept a byte w) i.2 (bytes_kept a byte w i.1 m))

module _ {Regs : Type 0} (turn : Regs → Access (Progress Regs)) (Good : Regs → Type 0)
    (each : (r : Regs) → Good r → Inside (turn r))
    (next : (r : Regs) (w : World) → Good r → Bytes w → Good (taken turn r w).result.regs × Bytes (taken turn r w).left) where
  pub run_inside : (n : ℕ) (r : Regs) (w : World) → Good r → Bytes w → InMemory (trace turn n r w)
  unfolding trace
  run_inside zero r w g m = tt
  run_inside (suc n) r w g m =
      let o = taken turn r w in let more = next r w g m in
      append (events (turn r) w) _ (events_inside (turn r) w (each r g) m) (run_inside n o.result.regs o.left more.0 more.1)
