-- Each function on a displacement has one outcome.
-- Assumes nothing.
use Rattle.signed.proofs as signed
use Rattle.once.specs.Law.{Answers}
use Rattle.once.specs.Forms.{answers}

pub displacement_once : Answers signed.displacement.Reads.Post
displacement_once = record { same = answers }

pub branch_target_once : Answers signed.branch_target.Reads.Post
branch_target_once = record { same = answers }
