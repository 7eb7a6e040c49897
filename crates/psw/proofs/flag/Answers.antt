-- Four bytes, pushed one after the other, are the definition's four.
-- Assumes nothing.
use Rattle.std.proofs.Common.{rules}
use Rattle.text.specs.Line.{adds}
use Rattle.psw.proofs.flag.Goals as goal

pub returns : goal.returns
unfolding adds
returns c = search rules
