-- The row picks its operation from the list, and each arm calls that operation. The last arm is row 7.
-- Assumes nothing.
use Rattle.std.proofs.Common.{refl, ◌∙◌, arith, ◌≡◌}
use Rattle.instructions.specs.Effects.{effect_of}
use Rattle.by_column.proofs.Laws.{made_in_a}
use Rattle.by_column.proofs.families.accumulate.Goals as goal

pub returns-in-0 : goal.returns-in-0
unfolding effect_of
returns-in-0 c = rw c.in-0.is (λ _ _ _. c.load_a.ensures)

pub returns-in-1 : goal.returns-in-1
unfolding effect_of
returns-in-1 c = rw c.in-1.is (λ _ _ _. c.load_a-in-1.ensures)

pub returns-in-2 : goal.returns-in-2
unfolding effect_of
returns-in-2 c = rw c.in-2.is (λ _ _ _. c.load_a-in-2.ensures)

pub returns-in-3 : goal.returns-in-3
unfolding effect_of
returns-in-3 c = rw c.in-3.is (λ _ _ _. c.cmp.ensures)

pub returns-in-4 : goal.returns-in-4
unfolding effect_of
returns-in-4 c = rw c.in-4.is (λ _ _ _. c.in_a.ensures ∙ made_in_a c.adc.ensures)

pub returns-in-5 : goal.returns-in-5
unfolding effect_of
returns-in-5 c = rw c.in-5.is (λ _ _ _. c.in_a-in-5.ensures ∙ made_in_a c.sbc.ensures)

pub returns-in-6 : goal.returns-in-6
unfolding effect_of
returns-in-6 c = rw c.in-6.is (λ _ _ _. refl)

pub returns-in_default : goal.returns-in_default
unfolding effect_of
returns-in_default c = let row : c.args.row ≡ 7 = omega arith in rw row (λ _ _ _. c.load_a-in_default.ensures)
