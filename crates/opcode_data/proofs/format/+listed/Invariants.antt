-- The measure is how many modes there are.
use Rattle.std.proofs.Common.{length}
use Rattle.opcode_data.proofs.format.+listed.Given as goal

abbrev pub decreases-listed : goal.decreases-listed
decreases-listed l = length l.modes.now
