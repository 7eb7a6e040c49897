-- What an instruction leaves of the record's state. That a step does so is a theorem of crate engine, specs/Rest.
use Rattle.std.specs.Prelude.{ℕ, cond, eqb}
use Rattle.waking.specs.declared.State.{State}
use Rattle.waking.specs.declared.State.TheVariants.{Slept, Stopped}

-- SLEEP is EF and STOP is FF: each leaves its own state, and every other opcode the one that was.
abbrev pub state_after : ℕ → State → State
state_after opcode s = cond (eqb opcode 0xEF) Slept (cond (eqb opcode 0xFF) Stopped s)
