-- What a step costs is one number.
-- Assumes nothing.
use Rattle.cycles.proofs as cycles
use Rattle.once.specs.Law.{Answers}
use Rattle.once.specs.Forms.{answers}

pub of_step_once : Answers cycles.of_step.Reads.Post
of_step_once = record { same = λ p q. answers p.0 q.0 }
