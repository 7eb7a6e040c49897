-- What the step loop answers, of what it has done so far.
-- Assumes nothing.
use Prim.Native.Nat.{ℕ, ◌-◌, ◌≤◌}
use mathlib.Core.Path.{◌≡◌, ap}
use mathlib.Core.Bool.{Bool, false}
use Rattle.waking.specs.States.{is_awake}
use Rattle.memory.specs.World.{World}
use Rattle.memory.specs.Access.{outcome}
use Rattle.editions.specs.declared.Edition.{Edition}
use Rattle.processor.specs.declared.Processor.{Processor}
use Rattle.instructions.proofs.SoFar as loop
use Rattle.instructions.proofs.SoFar.{SoFar}
use Rattle.engine.specs.Entry.{ran, told, run_of}

module _ {edition : Edition} {budget : ℕ} {cpu : Processor} {w : World} {next : Processor} {left : ℕ} {now : World}
    (sofar : SoFar edition budget cpu w next left now) where
  -- the record is no longer awake
  pub resting : {awake : Bool} → awake ≡ is_awake next.state → awake ≡ false
      → outcome (ran next (budget - left)) now ≡ told (run_of edition budget cpu w)
  resting tested t = ap told (loop.resting sofar tested t)

  -- the budget is spent
  pub spent : left ≤ 0 → outcome (ran next (budget - left)) now ≡ told (run_of edition budget cpu w)
  spent none = ap told (loop.spent sofar none)
