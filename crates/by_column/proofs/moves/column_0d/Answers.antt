-- A push is one store and SP; NOTC inverts the bit that tells C.
-- Assumes nothing.
use Rattle.std.proofs.Common.{arith, ◌≡◌}
use Rattle.memory.proofs.Laws.{chain, ends}
use Rattle.memory.specs.Access.{then}
use Rattle.instructions.specs.Effects.{effect_of}
use Rattle.instructions.specs.Gather.{gather_of, loaded}
use Rattle.instructions.specs.Rows.{rows}
use Rattle.instructions.specs.Step.{branch_of, commit_of, finish_of}
use Rattle.by_column.proofs.Laws.{at_row, inverted}
use Rattle.by_column.proofs.moves.column_0d.Goals as goal

pub returns-in-0 : goal.returns-in-0
unfolding rows gather_of loaded effect_of finish_of commit_of branch_of then
returns-in-0 c = λ edition. at_row edition 0x0D 0 _ c.in-0.is (chain _ (rw c.status.ensures at c.push.ensures) ends)

pub returns-in-1 : goal.returns-in-1
unfolding rows gather_of loaded effect_of finish_of commit_of branch_of then
returns-in-1 c = λ edition. at_row edition 0x0D 1 _ c.in-1.is (chain _ c.push-in-1.ensures ends)

pub returns-in-2 : goal.returns-in-2
unfolding rows gather_of loaded effect_of finish_of commit_of branch_of then
returns-in-2 c = λ edition. at_row edition 0x0D 2 _ c.in-2.is (chain _ c.push-in-2.ensures ends)

pub returns-in-3 : goal.returns-in-3
unfolding rows gather_of loaded effect_of finish_of commit_of branch_of then
returns-in-3 c = λ edition. at_row edition 0x0D 3 _ c.in-3.is (chain _ c.push-in-3.ensures ends)

pub returns-in-4 : goal.returns-in-4
unfolding rows gather_of loaded effect_of finish_of commit_of branch_of then
returns-in-4 c = λ edition. at_row edition 0x0D 4 _ c.in-4.is (c.immediate_y.ensures edition)

pub returns-in-5 : goal.returns-in-5
unfolding rows gather_of loaded effect_of finish_of commit_of branch_of then
returns-in-5 c = λ edition. at_row edition 0x0D 5 _ c.in-5.is (c.compare_y.ensures edition)

pub returns-in-6 : goal.returns-in-6
unfolding rows gather_of loaded effect_of finish_of commit_of branch_of then
returns-in-6 c = λ edition. at_row edition 0x0D 6 _ c.in-6.is (c.immediate_x.ensures edition)

pub returns-in_default : goal.returns-in_default
unfolding rows gather_of loaded effect_of finish_of commit_of branch_of then
returns-in_default c = λ edition. let row : c.args.row ≡ 7 = omega arith in at_row edition 0x0D 7 _ row (rw (c.with_c.ensures, inverted) ends)
