-- The word is read and stored, low byte first, with a number added; N and Z are those of the sum.
-- Assumes nothing.
use Rattle.std.proofs.Common.{ap, div-add-mod', rules}
use Rattle.memory.proofs.Laws.{chain, ends, ends_at, read_at_lem, put_at}
use Rattle.memory.specs.Access.{then}
use Rattle.modes.specs.Addresses.{onward}
use Rattle.modes.specs.Modes.{direct_word}
use Rattle.instructions.specs.Gather.{gather_of}
use Rattle.instructions.specs.Step.{commit_of, branch_of, finish_of}
use Rattle.by_column.proofs.Laws.{found_then}
use Rattle.by_column.proofs.words.step_word.Goals as goal

pub returns : goal.returns
unfolding gather_of finish_of commit_of branch_of direct_word then
returns c = rw c.past.ensures
    (found_then _ _ _
    (chain _
    c.fetch-byte.ensures ends)
    (read_at_lem
    c.direct-at.ensures
    c.read-low.ensures
    (read_at_lem
    c.direct-next.ensures
    c.read-high.ensures
    (rw (
      ← c.word.ensures,
      ← c.wrapping_add_u16-word.ensures.value,
    )
    (put_at
    c.direct-at.ensures
    c.store.ensures
    (put_at
    c.direct-next.ensures
    c.store-2.ensures
    (ends_at (rw div-add-mod' at (ap onward c.nz_word.ensures)))))))))
