-- Row 6 stores X unread; row 7 reads the byte and takes it into X.
-- Assumes nothing.
use Rattle.std.proofs.Common.{◌≡◌, arith}
use Rattle.memory.proofs.Laws.{read_then, put_then, ends, ends_at}
use Rattle.memory.specs.Access.{then}
use Rattle.instructions.specs.Effects.{effect_of}
use Rattle.instructions.specs.Gather.{loaded}
use Rattle.instructions.specs.Step.{commit_of, branch_of, finish_of}
use Rattle.by_column.proofs.pairs.move_x.Goals as goal

pub returns-then-row-eq6 : goal.returns-then-row-eq6
unfolding effect_of finish_of commit_of branch_of then
returns-then-row-eq6 c = rw c.if-row-eq6.true (put_then c.store.ensures ends)

pub returns : goal.returns
unfolding effect_of finish_of commit_of branch_of then loaded
returns c = let last : c.args.row ≡ 7 = omega arith in
    rw last (read_then c.read-v.ensures (ends_at c.load_x.ensures))
