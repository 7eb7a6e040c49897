-- The row picks its operation from the list, and each arm calls that operation. The last arm is row 5.
-- Assumes nothing.
use Rattle.std.proofs.Common.{◌≡◌, arith}
use Rattle.instructions.specs.Effects.{effect_of}
use Rattle.by_column.proofs.Grouped.{made_for}
use Rattle.by_column.proofs.families.combine.Goals as goal

pub returns-in-0 : goal.returns-in-0
unfolding effect_of
returns-in-0 c = rw c.in-0.is (record { leaves = λ _ _ _. c.nz.ensures.cpu; stores_byte = λ _ at. made_for c.nz.ensures at })

pub returns-in-1 : goal.returns-in-1
unfolding effect_of
returns-in-1 c = rw c.in-1.is (record { leaves = λ _ _ _. c.nz-in-1.ensures.cpu; stores_byte = λ _ at. made_for c.nz-in-1.ensures at })

pub returns-in-2 : goal.returns-in-2
unfolding effect_of
returns-in-2 c = rw c.in-2.is (record { leaves = λ _ _ _. c.nz-in-2.ensures.cpu; stores_byte = λ _ at. made_for c.nz-in-2.ensures at })

pub returns-in-4 : goal.returns-in-4
unfolding effect_of
returns-in-4 c = rw c.in-4.is (record { leaves = λ _ _ _. c.adc.ensures.cpu; stores_byte = λ _ at. made_for c.adc.ensures at })

pub returns-in_default : goal.returns-in_default
unfolding effect_of
returns-in_default c = let last : c.args.row ≡ 5 = omega arith in rw last (record { leaves = λ _ _ _. c.sbc.ensures.cpu; stores_byte = λ _ at. made_for c.sbc.ensures at })
