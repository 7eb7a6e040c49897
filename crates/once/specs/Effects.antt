-- What an instruction makes of its operands has one outcome.
-- Assumes nothing.
use Rattle.effects.proofs as effects
use Rattle.once.specs.Law.{Answers}
use Rattle.once.specs.Forms.{answers}

pub effect_of_once : Answers effects.effect_of.Reads.Post
effect_of_once = record { same = answers }
