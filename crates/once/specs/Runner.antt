-- A session of the runner has one outcome.
-- Assumes nothing.
use Rattle.runner.proofs as runner
use Rattle.runner.proofs.Laws.{told_once}
use Rattle.once.specs.Law.{One, first}

pub session_once : One runner.session.Reads.Post (λ κ. first)
session_once = record { same = told_once }
