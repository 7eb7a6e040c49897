-- The function that answers the first bytes of a slice answers one content. `print` has no contract: what is written cannot be said in one.
-- Assumes nothing.
use Rattle.output.proofs as output
use Rattle.once.specs.Law.{Shows}
use Rattle.once.specs.Forms.{shows}

pub first_once : Shows output.first.Reads.Post
first_once = record { same = shows }
