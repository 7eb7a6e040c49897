-- The public step and run: what is refused, and else what the definition gives (`counted_step` and `run_of`, of crate instructions).
use Rattle.std.specs.Prelude.{ℕ, cond, eqb, length, Option, Some, None, Result, Ok, Err}
use Rattle.refusals.specs.declared.Refusal.{Refusal}
use Rattle.refusals.specs.declared.Refusal.TheVariants as reason
use Rattle.memory.specs.World.{World}
use Rattle.memory.specs.Access.{Outcome, perform}
use Rattle.editions.specs.Editions.{is_edition, edition_of}
use Rattle.processor.specs.declared.Processor.{Processor}
unfoldable pub use Rattle.instructions.specs.Runs.{counted_step}
pub use Rattle.instructions.specs.Runs.{run_of}
use Rattle.runs.specs.Run.{Progress}
use Rattle.engine.specs.declared.Ran.{Ran}

abbrev pub ran : Processor → ℕ → Ran
ran cpu steps = record { cpu = cpu; steps = steps }

-- What the definition gives, as the code gives it: the record and the steps. The number of the state that the record is in is the stop: 1
-- where SLEEP, 2 where STOP has ended its steps, and 0 where it is awake, so that only the budget did.
abbrev pub answer_of : Progress Processor → Ran
answer_of p = ran p.regs p.steps

abbrev pub told : Outcome World (Progress Processor) → Outcome World Ran
told o = record { result = answer_of o.result; left = o.left }

-- Accepted.
abbrev pub accepted : Outcome World (Progress Processor) → Outcome World (Result Ran Refusal)
accepted o = record { result = Ok (answer_of o.result); left = o.left }

-- Refused: nothing changes, and no step is taken.
abbrev pub refused : Refusal → World → Outcome World (Result Ran Refusal)
refused r w = record { result = Err r; left = w }

-- Edition exactly if the number of the edition is neither 1 nor 2; then Memory exactly if memory is not 65,536 bytes; then Map exactly if a
-- map is not 8,192 bytes; else there is no refusal.
unfoldable pub refusal_of : ℕ → World → Option Refusal
refusal_of number w =
    cond (is_edition number)
    (cond (eqb (length w.memory) 65536)
    (cond (eqb (length w.reads) 8192) (cond (eqb (length w.writes) 8192) None (Some reason.Map)) (Some reason.Map))
    (Some reason.Memory))
    (Some reason.Edition)

-- What a call answers, and what it leaves, by its refusal and by what the definition gives.
abbrev pub answered : Option Refusal → World → Outcome World (Progress Processor) → Outcome World (Result Ran Refusal)
answered None w o = accepted o
answered (Some r) w o = refused r w

-- What the public step and the public run answer, and what they leave. They are given the number of the edition.
abbrev pub step_answer : ℕ → Processor → World → Outcome World (Result Ran Refusal)
step_answer number cpu w = answered (refusal_of number w) w (perform (counted_step (edition_of number) cpu) w)

abbrev pub run_answer : ℕ → ℕ → Processor → World → Outcome World (Result Ran Refusal)
run_answer number budget cpu w = answered (refusal_of number w) w (run_of (edition_of number) budget cpu w)
