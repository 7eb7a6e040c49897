-- Two images played side by side.
use Rattle.std.specs.Prelude.{ℕ, zero, suc, ◌+◌, Bool, true, cond, ◌&&◌, ◌||◌, List, eqb, get_or}
use Rattle.waking.specs.States.{number_of}
use Rattle.psw.specs.Status.{byte_of}
use Rattle.processor.specs.declared.Processor.{Processor}
use Rattle.devices.specs.declared.Devices.{Devices}
use Rattle.editions.specs.declared.Edition.{Edition}
use Rattle.host.specs.Turn.{Playing, turn_of}
use Rattle.host.specs.Play.{goes_on}
use Rattle.host.specs.declared.Player.{Player}

-- Whether two records are the same, register by register, and in the same state.
abbrev pub same_registers : Processor → Processor → Bool
same_registers a b =
    eqb a.pc b.pc
    && eqb a.a b.a
    && eqb a.x b.x
    && eqb a.y b.y
    && eqb a.sp b.sp
    && eqb (byte_of a.psw) (byte_of b.psw)
    && eqb (number_of a.state) (number_of b.state)

-- Whether two memories have equal bytes at so many addresses from `at` on.
unfoldable pub same_bytes : ℕ → ℕ → List ℕ → List ℕ → Bool
same_bytes zero at memory other = true
same_bytes (suc n) at memory other = eqb (get_or memory at 0) (get_or other at 0) && same_bytes n (at + 1) memory other

-- Whether both have come to the same cycle, and their last step has stored to the same device addresses, if to any, the same bytes.
unfoldable pub same_stores : Devices → Devices → List ℕ → List ℕ → Bool
same_stores c d memory other =
    eqb c.cycles d.cycles && eqb c.last d.last && (eqb c.last 0 || same_bytes 16 0xF0 memory other)

-- Alike, by the last step: the same registers, and the same stores to devices at the same cycle.
abbrev pub alike : Player → Player → List ℕ → List ℕ → Bool
alike a b memory other = same_registers a.cpu b.cpu && same_stores a.devices b.devices memory other

abbrev pub are_alike : Playing → Playing → Bool
are_alike p q = alike p.player q.player p.world.memory q.world.memory

-- both playings, how many steps each has taken, and whether they are alike
pub record Pair : Type 0 where
  pub first : Playing
  pub second : Playing
  pub steps : ℕ
  pub alike : Bool

abbrev pub pair : Playing → Playing → ℕ → Pair
pair p q steps = record { first = p; second = q; steps = steps; alike = are_alike p q }

-- Steps of both, as long as they are alike, each has one to take, and budget is left: so they stop behind the first step that parts them.
unfoldable pub beside_of : Edition → ℕ → ℕ → Playing → Playing → Pair
beside_of edition until zero p q = pair p q 0
beside_of edition until (suc budget) p q =
    let more = beside_of edition until budget (turn_of edition p) (turn_of edition q) in
    cond (are_alike p q && goes_on until p.player && goes_on until q.player)
    (record { first = more.first; second = more.second; steps = more.steps + 1; alike = more.alike })
    (pair p q 0)
