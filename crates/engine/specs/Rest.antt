-- SLEEP and STOP put a record to rest, and nothing else does. There it stays, whatever step or run is called, until it is woken.
-- Assumes nothing.
use Rattle.std.specs.Prelude.{ℕ, ◌+◌, ◌≡◌, refl, true, false, Option, Some, None, Result, Ok, IfOk}
use Rattle.refusals.specs.declared.Refusal.{Refusal}
use Rattle.std.proofs.Common.{ap, ◌∙◌, add-zero, ne_eqb}
use Rattle.waking.specs.States.{number_of, is_awake}
use Rattle.waking.specs.Theorems.{awake_is_zero}
use Rattle.memory.specs.World.{World, byte_at, seen}
use Rattle.memory.specs.Access.{Outcome, outcome, perform}
use Rattle.memory.specs.Inside.{Bytes}
use Rattle.editions.specs.Editions.{is_edition, edition_of}
use Rattle.editions.specs.declared.Edition.{Edition}
use Rattle.processor.specs.declared.Processor.{Processor}
use Rattle.instructions.specs.Order.{after_opcode, opcode_first}
use Rattle.instructions.specs.States.{state_after}
use Rattle.instructions.specs.Step.{step_of}
use Rattle.instructions.proofs.States.{ends_performed, after_opcode_lem}
use Rattle.runs.specs.Run.{Progress, rested, joined}
use Rattle.runs.specs.Trace.{taken}
use Rattle.runs.proofs.Run.{run_rests}
use Rattle.engine.specs.Entry.{ran, refusal_of, answered, counted_step, run_of, run_answer}
use Rattle.engine.specs.Accepted.{accepts, sized}
use Rattle.engine.specs.Theorems.{no_step, in_parts, run_keeps}
use Rattle.engine.specs.declared.Ran.{Ran}

-- Which instructions put a record to rest: by the opcode that a step reads at PC, on a memory of bytes.
pub state_after_step : (edition : Edition) (cpu : Processor) (w : World) → Bytes w
    → (perform (step_of edition cpu) w).result.state ≡ state_after (byte_at cpu.pc w) cpu.state
unfolding perform
state_after_step edition cpu w bytes =
    let opcode = byte_at cpu.pc w in
    rw (opcode_first edition cpu)
    (ends_performed (λ (next : Processor). next.state ≡ state_after opcode cpu.state) (after_opcode edition cpu opcode) (seen cpu.pc w)
    (after_opcode_lem edition cpu opcode (bytes.below cpu.pc)))

-- A run of any budget on a record that is not awake is the identity: the record as given, no step, memory and maps as they were.
pub identity : (edition : Edition) (budget : ℕ) (cpu : Processor) (w : World) → is_awake cpu.state ≡ false
    → run_of edition budget cpu w ≡ rested cpu w
identity edition budget cpu w rest = run_rests (taken (counted_step edition)) cpu w (no_step edition cpu w rest) budget

-- As it is called, it answers the record as given, whose state says the stop, and no step.
pub identity_called : (number budget : ℕ) (cpu : Processor) (w : World) → refusal_of number w ≡ None → is_awake cpu.state ≡ false
    → run_answer number budget cpu w ≡ outcome (Ok (ran cpu 0)) w
identity_called number budget cpu w z rest = rw (z, identity (edition_of number) budget cpu w rest)

-- A run that ends with the record at rest is the run of every larger budget, too.
pub larger_budget : (edition : Edition) (m n : ℕ) (cpu : Processor) (w : World)
    → is_awake (run_of edition m cpu w).result.regs.state ≡ false → run_of edition (m + n) cpu w ≡ run_of edition m cpu w
larger_budget edition m n cpu w rest =
    let o = run_of edition m cpu w in
    in_parts edition m n cpu w ∙ ap (joined o) (identity edition n o.result.regs o.left rest) ∙ rw add-zero

-- Let a run be accepted and answer a stop other than 0. Called again on what it left, with any budget and in either edition, it answers that
-- stop and 0 steps, and changes nothing.
module _ (number budget : ℕ) (cpu : Processor) (w : World) where
  abbrev pub first : Outcome World (Result Ran Refusal)
  first = run_answer number budget cpu w

  -- what is said of its answer
  abbrev pub StaysAtRest : World → Ran → Type 0
  StaysAtRest left r =
      (number_of r.cpu.state ≡ 0 → ⊥) → (again more : ℕ) → is_edition again ≡ true
      → run_answer again more r.cpu left ≡ outcome (Ok (ran r.cpu 0)) left

  pub called_again : IfOk first.result (StaysAtRest first.left)
  called_again = go (refusal_of number w) refl
    where
      o : Outcome World (Progress Processor)
      o = run_of (edition_of number) budget cpu w

      go : (r : Option Refusal) → refusal_of number w ≡ r → IfOk (answered r w o).result (StaysAtRest (answered r w o).left)
      go (Some r) e = tt
      go None z = λ stops again more named.
          let rest : is_awake o.result.regs.state ≡ false = awake_is_zero o.result.regs.state ∙ ne_eqb _ _ stops in
          let size = (run_keeps (edition_of number) budget cpu w (sized number w z)).sized in
          identity_called again more o.result.regs o.left (accepts again o.left named size) rest
