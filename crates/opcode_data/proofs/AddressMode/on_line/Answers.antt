-- Each arm adds its mode's pieces in the definition's order: byte by byte, that is the definition's text.
-- Assumes nothing.
use Rattle.text.specs.Line.{adds}
use Rattle.opcode_data.proofs.AddressMode.on_line.Goals as goal

pub returns-in-Idx : goal.returns-in-Idx
unfolding adds
returns-in-Idx c = rw c.in-Idx.is (cc)

pub returns-in-Idy : goal.returns-in-Idy
unfolding adds
returns-in-Idy c = rw c.in-Idy.is (cc)
