-- To add one text and then another is to add both joined.
-- Assumes nothing.
use borrow.Author.Rules.{rules}
use Rattle.text.specs.Line.{adds}
use Rattle.text.proofs.Line.hex_word.Goals as goal

pub returns : goal.returns
unfolding adds
returns c = search rules
