-- Each function on editions has one outcome.
-- Assumes nothing.
use Rattle.editions.proofs as editions
use Rattle.editions.proofs.EditionTryFromU8 as edition_named
use Rattle.once.specs.Law.{Answers}
use Rattle.once.specs.Forms.{answers}

pub is_edition_once : Answers editions.is_edition.Reads.Post
is_edition_once = record { same = answers }

pub edition_of_once : Answers editions.edition_of.Reads.Post
edition_of_once = record { same = answers }

pub second_at_once : Answers editions.second_at.Reads.Post
second_at_once = record { same = answers }

pub try_from_once : Answers edition_named.try_from.Reads.Post
try_from_once = record { same = answers }
