-- The row picks its operation from the list, and each arm calls that operation. The last arm is row 7.
-- Assumes nothing.
use Rattle.std.proofs.Common.{refl, arith, ◌≡◌}
use Rattle.instructions.specs.Effects.{effect_of}
use Rattle.by_column.proofs.Grouped.{made_for}
use Rattle.by_column.proofs.families.shift.Goals as goal

pub returns-in-0 : goal.returns-in-0
unfolding effect_of
returns-in-0 c = rw c.in-0.is (record { leaves = λ _ _ _. c.asl.ensures.cpu; stores_byte = λ _ _ at. made_for c.asl.ensures at })

pub returns-in-1 : goal.returns-in-1
unfolding effect_of
returns-in-1 c = rw c.in-1.is (record { leaves = λ _ _ _. c.rol.ensures.cpu; stores_byte = λ _ _ at. made_for c.rol.ensures at })

pub returns-in-2 : goal.returns-in-2
unfolding effect_of
returns-in-2 c = rw c.in-2.is (record { leaves = λ _ _ _. c.lsr.ensures.cpu; stores_byte = λ _ _ at. made_for c.lsr.ensures at })

pub returns-in-3 : goal.returns-in-3
unfolding effect_of
returns-in-3 c = rw c.in-3.is (record { leaves = λ _ _ _. c.ror.ensures.cpu; stores_byte = λ _ _ at. made_for c.ror.ensures at })

pub returns-in-4 : goal.returns-in-4
unfolding effect_of
returns-in-4 c = rw c.in-4.is (record { leaves = λ _ _ _. c.dec.ensures.cpu; stores_byte = λ _ _ at. made_for c.dec.ensures at })

pub returns-in-5 : goal.returns-in-5
unfolding effect_of
returns-in-5 c = rw c.in-5.is (record { leaves = λ _ _ _. c.inc.ensures.cpu; stores_byte = λ _ _ at. made_for c.inc.ensures at })

pub returns-in-6 : goal.returns-in-6
unfolding effect_of
returns-in-6 c = rw c.in-6.is (record { leaves = λ _ _ _. refl; stores_byte = λ h. absurd (omega arith) })

pub returns-in_default : goal.returns-in_default
unfolding effect_of
returns-in_default c = let row : c.args.row ≡ 7 = omega arith in rw row (record { leaves = λ _ _ _. c.load_y.ensures; stores_byte = λ h. absurd (omega arith) })
