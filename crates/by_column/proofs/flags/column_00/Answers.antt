-- The row picks the flag, and the byte that it is told by is made anew.
-- Assumes nothing.
use Rattle.std.proofs.Common.{◌≡◌, arith}
use Rattle.memory.specs.Access.{then}
use Rattle.instructions.specs.Effects.{effect_of}
use Rattle.instructions.specs.Gather.{gather_of}
use Rattle.instructions.specs.Rows.{rows}
use Rattle.instructions.specs.Step.{commit_of, branch_of, finish_of}
use Rattle.by_column.proofs.Valued.{with_i_lem, without_i}
use Rattle.by_column.proofs.flags.column_00.Goals as goal

pub returns-in-0 : goal.returns-in-0
unfolding rows gather_of effect_of finish_of commit_of branch_of then
returns-in-0 c = λ edition. rw c.in-0.is

pub returns-in-1 : goal.returns-in-1
unfolding rows gather_of effect_of finish_of commit_of branch_of then
returns-in-1 c = λ edition. rw (c.with_page.ensures, c.in-1.is)

pub returns-in-2 : goal.returns-in-2
unfolding rows gather_of effect_of finish_of commit_of branch_of then
returns-in-2 c = λ edition. rw (c.with_page-in-2.ensures, c.in-2.is)

pub returns-in-3 : goal.returns-in-3
unfolding rows gather_of effect_of finish_of commit_of branch_of then
returns-in-3 c = λ edition. rw (c.with_c.ensures, c.in-3.is)

pub returns-in-4 : goal.returns-in-4
unfolding rows gather_of effect_of finish_of commit_of branch_of then
returns-in-4 c = λ edition. rw (c.with_c-in-4.ensures, c.in-4.is)

pub returns-in-5 : goal.returns-in-5
unfolding rows gather_of effect_of finish_of commit_of branch_of then
returns-in-5 c = λ edition. rw (c.with_rest.ensures, c.in-5.is) (with_i_lem c.args.cpu)

pub returns-in-6 : goal.returns-in-6
unfolding rows gather_of effect_of finish_of commit_of branch_of then
returns-in-6 c = λ edition. rw (c.with_rest-in-6.ensures, c.in-6.is) (without_i c.args.cpu)

pub returns-in_default : goal.returns-in_default
unfolding rows gather_of effect_of finish_of commit_of branch_of then
returns-in_default c = λ edition. let row : c.args.row ≡ 7 = omega arith in rw
    (c.with_vh.ensures, row)
