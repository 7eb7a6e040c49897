-- A step compared has one outcome.
-- Assumes nothing.
use Rattle.std.proofs.Common.{sym, ◌∙◌}
use Rattle.stepper.proofs as stepper
use Rattle.once.specs.Law.{One, first}

pub session_once : One stepper.session.Reads.Post (λ κ. first)
session_once = record { same = λ p q. (p.printed ∙ sym q.printed, p.left ∙ sym q.left) }
