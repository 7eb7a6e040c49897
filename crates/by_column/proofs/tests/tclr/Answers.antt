-- The byte is read and stored with A's bits cleared.
-- Assumes nothing.
use Rattle.std.proofs.Common.{ap, rules}
use Rattle.memory.proofs.Laws.{ends_at, put_then, read_then}
use Rattle.memory.specs.Access.{then}
use Rattle.modes.specs.Addresses.{onward}
use Rattle.instructions.specs.Effects.{effect_of}
use Rattle.instructions.specs.Gather.{gather_of, loaded}
use Rattle.instructions.specs.Rows.{rows}
use Rattle.instructions.specs.Step.{branch_of, commit_of, finish_of}
use Rattle.by_column.proofs.Laws.{found_then}
use Rattle.by_column.proofs.tests.tclr.Goals as goal

pub returns : goal.returns
unfolding rows gather_of loaded effect_of finish_of commit_of branch_of then
returns c = λ edition. rw (c.past-2.ensures, c.past.ensures)
    (found_then _ _ _ c.abs_off-at.ensures
    (read_then c.read-v.ensures
    (put_then c.store.ensures (ends_at (rw c.difference.ensures at (ap (λ p. onward (onward p)) c.nz.ensures.cpu))))))
