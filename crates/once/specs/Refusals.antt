-- A refusal has one number.
-- Assumes nothing.
use Rattle.refusals.proofs.U8FromRefusal as number_of
use Rattle.once.specs.Law.{Answers}
use Rattle.once.specs.Forms.{answers}

pub number_of_once : Answers number_of.from.Reads.Post
number_of_once = record { same = answers }
