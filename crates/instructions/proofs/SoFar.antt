-- The invariant of a step loop: what it has done so far is the run of as many steps.
-- Assumes nothing.
use Prim.Native.Nat.{ℕ, ◌+◌, ◌-◌, ◌<◌, ◌≤◌}
use mathlib.Core.Path.{◌≡◌, ap, sym, ◌∙◌}
use mathlib.Core.Bool.{Bool, true, false}
use native.Mathlib.Omega.{arith}
use Rattle.waking.specs.States.{is_awake}
use Rattle.memory.specs.World.{World}
use Rattle.memory.specs.Access.{Outcome, outcome, perform, Does}
use Rattle.memory.proofs.Laws.{chain, ends}
use Rattle.editions.specs.declared.Edition.{Edition}
use Rattle.processor.specs.declared.Processor.{Processor}
use Rattle.runs.specs.Run.{progress, rested, run}
use Rattle.runs.specs.Trace.{taken}
use Rattle.runs.proofs.Run.{run_next, run_ended}
use Rattle.instructions.specs.Step.{step_of}
use Rattle.instructions.specs.Runs.{counted_step, run_of}

-- Of a run in an edition with a budget, from a record and a world, so much of the budget is left; the steps so far gave this record, and
-- left this world.
pub record SoFar (edition : Edition) (budget : ℕ) (cpu : Processor) (w : World) (next : Processor) (left : ℕ) (now : World) : Type 0 where
  pub within : left ≤ budget
  pub is : run_of edition (budget - left) cpu w ≡ outcome (progress next (budget - left)) now

-- a step that the code took, counted
counted : (edition : Edition) (cpu : Processor) (w : World) {o : Outcome World Processor} → is_awake cpu.state ≡ true
    → Does (step_of edition cpu) w o → outcome (progress o.result 1) o.left ≡ perform (counted_step edition cpu) w
unfolding counted_step
counted edition cpu w awake d = rw awake (chain _ d ends).is

-- a record that is not awake takes no step, and nothing changes
pub no_step : (edition : Edition) (cpu : Processor) (w : World) → is_awake cpu.state ≡ false
    → perform (counted_step edition cpu) w ≡ rested cpu w
unfolding counted_step perform
no_step edition cpu w e = rw e

-- nothing is done yet
pub begun : {edition : Edition} {budget : ℕ} {cpu : Processor} {w : World} → SoFar edition budget cpu w cpu budget w
unfolding run
begun {budget = budget} = record { within = omega arith; is = let none : budget - budget ≡ 0 = omega arith in rw none }

module _ {edition : Edition} {budget : ℕ} {cpu : Processor} {w : World} {next : Processor} {left : ℕ} {now : World}
    (sofar : SoFar edition budget cpu w next left now) where
  -- one step more
  pub one_more : {awake : Bool} {stepped : Processor} {after : World}
      → 0 < left → awake ≡ is_awake next.state → awake ≡ true → Does (step_of edition next) now (outcome stepped after)
      → SoFar edition budget cpu w stepped (left - 1) after
  one_more more tested t does =
      let one : budget - (left - 1) ≡ budget - left + 1 = omega (arith, sofar.within) in record {
        within = omega (arith, sofar.within);
        is = rw one (run_next (taken (counted_step edition)) _ _ _ _ _ sofar.is (counted edition _ _ (sym tested ∙ t) does));
      }

  -- the record is no longer awake: a larger budget changes nothing
  pub resting : {awake : Bool} → awake ≡ is_awake next.state → awake ≡ false
      → outcome (progress next (budget - left)) now ≡ run_of edition budget cpu w
  resting tested t =
      sym (run_ended (taken (counted_step edition)) _ _ _ _ _ (omega arith) sofar.is (no_step edition next now (sym tested ∙ t)))

  -- the budget is spent
  pub spent : left ≤ 0 → outcome (progress next (budget - left)) now ≡ run_of edition budget cpu w
  spent none =
      let all : budget - left ≡ budget = omega arith in sym sofar.is ∙ ap (λ (n : ℕ). run_of edition n cpu w) all
