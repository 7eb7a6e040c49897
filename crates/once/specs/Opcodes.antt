-- Each look-up of an opcode by its place has one outcome.
-- Assumes nothing.
use Rattle.opcodes.proofs as opcodes
use Rattle.once.specs.Law.{Answers}
use Rattle.once.specs.Forms.{answers}

pub single_once : Answers opcodes.single.Reads.Post
single_once = record { same = answers }

pub family_once : Answers opcodes.family.Reads.Post
family_once = record { same = answers }
