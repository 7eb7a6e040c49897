-- A session of the auditor has one outcome.
-- Assumes nothing.
use Rattle.auditor.proofs as auditor
use Rattle.once.specs.Law.{One, first}
use Rattle.once.specs.Forms.{fills}

pub session_once : One auditor.session.Reads.Post (λ κ. first)
session_once = record { same = fills }
