-- Each row is an operation on A or Y.
-- Assumes nothing.
use Rattle.std.proofs.Common.{sym, ap, ◌∙◌, arith, ◌≡◌}
use Rattle.memory.specs.Access.Access.{done}
use Rattle.memory.specs.Access.{then}
use Rattle.instructions.specs.Effects.{effect_of}
use Rattle.instructions.specs.Gather.{gather_of, loaded}
use Rattle.instructions.specs.Rows.{rows}
use Rattle.instructions.specs.Step.{branch_of, commit_of, finish_of}
use Rattle.by_column.proofs.Laws.{made_in_a}
use Rattle.by_column.proofs.moves.column_1c.Goals as goal

pub returns-in-0 : goal.returns-in-0
unfolding rows gather_of loaded effect_of finish_of commit_of branch_of then
returns-in-0 c = λ edition. rw c.in-0.is (ap done (sym (c.in_a.ensures ∙ made_in_a c.asl.ensures)))

pub returns-in-1 : goal.returns-in-1
unfolding rows gather_of loaded effect_of finish_of commit_of branch_of then
returns-in-1 c = λ edition. rw c.in-1.is (ap done (sym (c.in_a-in-1.ensures ∙ made_in_a c.rol.ensures)))

pub returns-in-2 : goal.returns-in-2
unfolding rows gather_of loaded effect_of finish_of commit_of branch_of then
returns-in-2 c = λ edition. rw c.in-2.is (ap done (sym (c.in_a-in-2.ensures ∙ made_in_a c.lsr.ensures)))

pub returns-in-3 : goal.returns-in-3
unfolding rows gather_of loaded effect_of finish_of commit_of branch_of then
returns-in-3 c = λ edition. rw c.in-3.is (ap done (sym (c.in_a-in-3.ensures ∙ made_in_a c.ror.ensures)))

pub returns-in-4 : goal.returns-in-4
unfolding rows gather_of loaded effect_of finish_of commit_of branch_of then
returns-in-4 c = λ edition. rw c.in-4.is (ap done (sym (c.in_a-in-4.ensures ∙ made_in_a c.dec.ensures)))

pub returns-in-5 : goal.returns-in-5
unfolding rows gather_of loaded effect_of finish_of commit_of branch_of then
returns-in-5 c = λ edition. rw c.in-5.is (ap done (sym (c.in_a-in-5.ensures ∙ made_in_a c.inc.ensures)))

pub returns-in-6 : goal.returns-in-6
unfolding rows gather_of loaded effect_of finish_of commit_of branch_of then
returns-in-6 c = λ edition. rw c.in-6.is (ap done (sym (rw c.difference.ensures at c.load_y.ensures)))

pub returns-in_default : goal.returns-in_default
unfolding rows gather_of loaded effect_of finish_of commit_of branch_of then
returns-in_default c = λ edition. let row : c.args.row ≡ 7 = omega arith in rw row (ap done (sym (rw c.wrapping_add_u8.ensures.value at c.load_y-in_default.ensures)))
