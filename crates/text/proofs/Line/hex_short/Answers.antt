-- The code's test is the definition's own, and a push is one byte added.
-- Assumes nothing.
use Rattle.std.proofs.Common.{rules}
use Rattle.text.specs.Line.{adds}
use Rattle.text.proofs.Line.hex_short.Goals as goal

pub returns-then-byte-lt16 : goal.returns-then-byte-lt16
unfolding adds
returns-then-byte-lt16 c = search rules
