-- Two pushes are the two bytes added in order.
-- Assumes nothing.
use Rattle.std.proofs.Common.{rules}
use Rattle.text.specs.Line.{adds}
use Rattle.text.proofs.Line.hex_byte.Goals as goal

pub returns : goal.returns
unfolding adds
returns c = search rules
