-- The invariant of the loop: what it has done so far is the run of as many steps, and it has told what that run reads of the device
-- addresses.
-- Assumes nothing.
use Prim.Native.Nat.{ℕ, ◌+◌, ◌-◌, ◌<◌, ◌≤◌}
use mathlib.Core.Path.{◌≡◌, refl, ap, sym, ◌∙◌}
use mathlib.Core.Bool.{Bool, true, false}
use native.Mathlib.Omega.{arith}
use lib.Bits.{bit_or, or_zero_r}
use Rattle.waking.specs.States.{is_awake}
use Rattle.memory.specs.World.{World}
use Rattle.memory.specs.Access.{Outcome, outcome}
use Rattle.editions.specs.declared.Edition.{Edition}
use Rattle.processor.specs.declared.Processor.{Processor}
use Rattle.instructions.proofs.SoFar as loop
use Rattle.runs.specs.Trace.{taken}
use Rattle.runs.proofs.Run.{run_next}
use Rattle.engine.specs.Entry.{ran, told, counted_step, run_of}
use Rattle.engine.specs.Theorems.{one_step}
use Rattle.engine.specs.declared.Ran.{Ran}
use Rattle.engine.proofs.SoFar as engine
use Rattle.watch.specs.Calls.{watched, watching}
use Rattle.watch.specs.Devices.{devices_read}
use Rattle.watch.specs.Theorems.{devices_in_parts, devices_at_rest}
use Rattle.watch.specs.declared.Watched.{Watched}
use Rattle.watch.proofs.Step.{watched_one}

-- Of a watched run with a budget, from a record and a world: so much of the budget is left, the steps so far gave this record, told these
-- device addresses, and left this world.
pub record SoFar (edition : Edition) (budget : ℕ) (cpu : Processor) (w : World) (next : Processor) (left devices : ℕ) (now : World) : Type 0 where
  pub steps : loop.SoFar edition budget cpu w next left now
  pub told : devices ≡ devices_read edition (budget - left) cpu w.memory

-- nothing is done yet
pub begun : {edition : Edition} {budget : ℕ} {cpu : Processor} {w : World} → SoFar edition budget cpu w cpu budget 0 w
unfolding devices_read
begun {budget = budget} = record { steps = loop.begun; told = let none : budget - budget ≡ 0 = omega arith in rw none }

module _ {edition : Edition} {budget : ℕ} {cpu : Processor} {w : World} {next : Processor} {left devices : ℕ} {now : World}
    (sofar : SoFar edition budget cpu w next left devices now) where
  -- one step more
  pub one_more : {awake : Bool} {turned : Watched} {after : World} → 0 < left → awake ≡ is_awake next.state → awake ≡ true
      → outcome turned after ≡ watching edition 1 next now
      → SoFar edition budget cpu w turned.ran.cpu (left - 1) (bit_or devices turned.devices) after
  unfolding devices_read
  one_more more tested t e =
      let is = e ∙ watched_one edition next now in
      let result = ap (λ (q : Outcome World Watched). q.result.ran) is in
      let devices_are = ap (λ (q : Outcome World Watched). q.result.devices) is in
      let world = ap (λ (q : Outcome World Watched). q.left) is in
      let one : budget - (left - 1) ≡ budget - left + 1 = omega (arith, sofar.steps.within) in
      let stepped = run_next (taken (counted_step edition)) _ _ _ _ _ sofar.steps.is refl in record {
        steps = record {
          within = omega (arith, sofar.steps.within);
          is = rw (one, result, world) (rw (one_step edition next now (sym tested ∙ t)) at stepped);
        };
        told = rw (one, devices_in_parts edition (budget - left) 1 cpu w, sofar.steps.is, sofar.told, devices_are, or_zero_r);
      }

  -- what is answered of the run
  ended : {r : Ran} → outcome r now ≡ told (run_of edition budget cpu w) → devices ≡ devices_read edition budget cpu w.memory
      → outcome (watched r devices) now ≡ watching edition budget cpu w
  ended e d = rw d (ap (λ (q : Outcome World Ran). outcome (watched q.result (devices_read edition budget cpu w.memory)) q.left) e)

  -- the budget is spent
  pub spent : left ≤ 0 → outcome (watched (ran next (budget - left)) devices) now ≡ watching edition budget cpu w
  spent none =
      let all : budget - left ≡ budget = omega arith in ended (engine.spent sofar.steps none) (rw all at sofar.told)

  -- The record is no longer awake: a larger budget changes nothing, and reads nothing.
  pub resting : {awake : Bool} → awake ≡ is_awake next.state → awake ≡ false
      → outcome (watched (ran next (budget - left)) devices) now ≡ watching edition budget cpu w
  resting tested t =
      let more = devices_in_parts edition (budget - left) left cpu w in
      let all : budget - left + left ≡ budget = omega (arith, sofar.steps.within) in
      ended (engine.resting sofar.steps tested t)
      (sofar.told ∙ sym (rw (all, sofar.steps.is, devices_at_rest edition left next now.memory (sym tested ∙ t), or_zero_r) at more))
