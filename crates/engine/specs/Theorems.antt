-- What holds of every step and of every run.
-- Assumes nothing.
use Rattle.std.specs.Prelude.{ℕ, ◌+◌, ◌≤◌, ◌<◌, Bool, true, false, ◌≡◌}
use Rattle.std.proofs.Common.{ap, sym}
use Rattle.memory.specs.World.{World, Sized}
use Rattle.memory.specs.Access.{perform}
use Rattle.memory.specs.Theorems.{Kept, marks_stay, kept_itself, kept_trans}
use Rattle.memory.proofs.Laws.{perform_then}
use Rattle.waking.specs.States.{is_awake}
use Rattle.editions.specs.Editions.{edition_of}
use Rattle.editions.specs.declared.Edition.{Edition}
use Rattle.processor.specs.declared.Processor.{Processor}
use Rattle.instructions.specs.Order.{ReadsFirst, after_opcode}
use Rattle.instructions.proofs.Order as order
use Rattle.instructions.proofs.SoFar as loop
use Rattle.runs.specs.Run.{rested, joined}
use Rattle.runs.specs.Trace.{taken}
use Rattle.runs.proofs.Run as runs
use Rattle.engine.specs.Entry.{answered, refusal_of, counted_step, run_of, step_answer, run_answer}

abbrev awake : Processor → Bool
awake cpu = is_awake cpu.state

-- In either edition.
module _ (edition : Edition) where
  -- A record that is awake takes one step,
  pub one_step : (cpu : Processor) (w : World) → is_awake cpu.state ≡ true → (perform (counted_step edition cpu) w).result.steps ≡ 1
  unfolding counted_step perform
  one_step cpu w e = rw (e, perform_then)

  -- and one that is not takes none, and nothing changes.
  pub no_step : (cpu : Processor) (w : World) → is_awake cpu.state ≡ false → perform (counted_step edition cpu) w ≡ rested cpu w
  no_step = loop.no_step edition

  -- A run takes no more steps than its budget, and all of it where it leaves the record awake.
  pub within_budget : (budget : ℕ) (cpu : Processor) (w : World) → (run_of edition budget cpu w).result.steps ≤ budget
  within_budget = runs.within_budget (taken (counted_step edition)) awake one_step no_step

  pub budget_spent : (budget : ℕ) (cpu : Processor) (w : World) → is_awake (run_of edition budget cpu w).result.regs.state ≡ true
      → (run_of edition budget cpu w).result.steps ≡ budget
  budget_spent = runs.budget_spent (taken (counted_step edition)) awake one_step no_step

  -- A run of m, and then one of n from what it left, is a run of m + n: the same record, memory and maps, and the steps of both.
  pub in_parts : (m n : ℕ) (cpu : Processor) (w : World)
      → let o = run_of edition m cpu w in run_of edition (m + n) cpu w ≡ joined o (run_of edition n o.result.regs o.left)
  in_parts = runs.in_parts (taken (counted_step edition))

  -- A step leaves memory and maps their lengths, and clears no mark; so does a run.
  pub step_keeps : (cpu : Processor) (w : World) → Sized w → Kept w (perform (counted_step edition cpu) w).left
  step_keeps cpu w s = marks_stay (counted_step edition cpu) w s

  pub run_keeps : (budget : ℕ) (cpu : Processor) (w : World) → Sized w → Kept w (run_of edition budget cpu w).left
  run_keeps =
      runs.run_keeps (taken (counted_step edition)) (λ v w. Sized v → Kept v w) kept_itself (λ u v w f g s. kept_trans (f s) (g (f s).sized)) step_keeps

  -- Whatever the opcode, but for DBNZ d,rel, what follows its fetch reads all that it reads before it stores anything.
  pub reads_first : (cpu : Processor) (opcode : ℕ) → opcode < 256 → (opcode ≡ 0x6E → ⊥) → ReadsFirst (after_opcode edition cpu opcode)
  reads_first = order.reads_first edition

-- A step answers what a run of budget 1 answers, refused or not, whatever number it is given for an edition, and leaves the same.
pub step_is_run_of_one : (number : ℕ) (cpu : Processor) (w : World) → step_answer number cpu w ≡ run_answer number 1 cpu w
step_is_run_of_one number cpu w = ap (answered (refusal_of number w) w) (sym (runs.run_one (taken (counted_step (edition_of number))) cpu w))
