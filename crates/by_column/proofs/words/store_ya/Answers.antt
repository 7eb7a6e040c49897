-- A and Y are stored, low byte first.
-- Assumes nothing.
use Rattle.memory.proofs.Laws.{chain, ends, put_at}
use Rattle.memory.specs.Access.{then}
use Rattle.modes.specs.Modes.{direct_word}
use Rattle.instructions.specs.Effects.{effect_of}
use Rattle.instructions.specs.Gather.{gather_of}
use Rattle.instructions.specs.Rows.{rows}
use Rattle.instructions.specs.Step.{commit_of, branch_of, finish_of}
use Rattle.by_column.proofs.Laws.{found_then}
use Rattle.by_column.proofs.words.store_ya.Goals as goal

pub returns : goal.returns
unfolding rows gather_of effect_of finish_of commit_of branch_of direct_word then
returns c = λ edition. rw c.past.ensures
    (found_then _ _ _
    (chain _
    c.fetch-byte.ensures ends)
    (put_at c.direct.ensures
    c.store.ensures
    (put_at c.direct-2.ensures c.store-2.ensures ends)))
