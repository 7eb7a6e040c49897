-- What the loop has done so far, on what registers and cells stand for, is the run of as many steps.
-- Assumes nothing.
use Rattle.std.proofs.Common.{◌≡◌, ℕ, zero, suc, ◌<◌, ◌≤◌, refl, arith}
use Rattle.instructions.proofs.SoFar.{begun, one_more, resting, spent}
use Rattle.long_runs.proofs.Laws.{is_awake_lem, is_resting}
use Rattle.long_runs.proofs.take_steps.Goals as goal

-- Where steps are over while budget is left, the record is not awake; else the budget is spent.
over_by : {P : Type 0} (left stop : ℕ) → (0 < left → stop ≡ 0 → ⊥) → ((stop ≡ 0 → ⊥) → P) → (left ≤ 0 → P) → P
over_by zero stop over f g = g (omega arith)
over_by (suc k) stop over f g = f (over (omega arith))

pub loop-left-init : goal.loop-left-init
loop-left-init c = begun

pub overflow_sub-left : goal.overflow_sub-left
overflow_sub-left c = omega (arith, c.loop-left-test.true)

pub loop-left-smaller : goal.loop-left-smaller
loop-left-smaller c = omega (arith, c.loop-left-test.true)

pub loop-left-preserved : goal.loop-left-preserved
loop-left-preserved c = let before = c.loop-left in
    one_more before.invariant c.loop-left-test.true (is_awake_lem before.next.stop (omega arith)) refl c.instruction-next.ensures

pub overflow_sub-result : goal.overflow_sub-result
overflow_sub-result c = omega (arith, c.loop-left.invariant.within)

pub returns : goal.returns
returns c = let before = c.loop-left in
    let over : 0 < before.left → before.next.stop ≡ 0 → ⊥ = λ h e. grind arith in
    over_by before.left before.next.stop over
    (λ n. resting before.invariant (is_resting before.next.stop n) refl)
    (λ none. spent before.invariant none)
