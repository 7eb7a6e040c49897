-- One store: its byte, and the mark that `mark` leaves.
-- Assumes nothing.
use Rattle.std.proofs.Common.{rules}
use Rattle.memory.specs.Access.{perform}
use Rattle.memory.proofs.Laws.{performs, same_storing}
use Rattle.memory.proofs.Storing.store.Goals as goal

pub returns : goal.returns
unfolding perform
returns c = performs (record { is = rw c.mark.ensures }) (search (rules, same_storing))
