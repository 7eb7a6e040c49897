-- One read: its byte, and the mark that it leaves.
-- Assumes nothing.
use Rattle.std.proofs.Common.{rules}
use Rattle.memory.specs.Access.{perform}
use Rattle.memory.proofs.Laws.{performs, same_reading}
use Rattle.memory.proofs.Reading.read.Goals as goal

pub returns : goal.returns
unfolding perform
returns c = performs (record { is = rw c.mark_unless.ensures }) (search (rules, same_reading))
