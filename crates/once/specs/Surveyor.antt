-- A session of the surveyor has one outcome.
-- Assumes nothing.
use Rattle.surveyor.proofs as surveyor
use Rattle.once.specs.Law.{One, second}
use Rattle.once.specs.Forms.{gives}

pub session_once : One surveyor.session.Reads.Post (λ κ. second)
session_once = record { same = gives }
