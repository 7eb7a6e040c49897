-- An instruction's length and text, and a program's text, have one outcome each.
-- Assumes nothing.
use Rattle.listing.proofs as listing
use Rattle.once.specs.Law.{One, Answers, second}
use Rattle.once.specs.Forms.{answers, gives}

pub length_once : Answers listing.length.Reads.Post
length_once = record { same = answers }

pub instruction_once : One listing.instruction.Reads.Post (λ κ. second)
instruction_once = record { same = gives }

pub session_once : One listing.session.Reads.Post (λ κ. second)
session_once = record { same = gives }
