-- So many bytes are put back, and the others are as they were.
-- Assumes nothing.
use Rattle.boot_rom.specs.Inside.{read_back}
use Rattle.boot_rom.proofs.Laid.{Laid}
use Rattle.boot_rom.proofs.put_reads_back.Given as goal

abbrev pub invariant-loop-i : goal.invariant-loop-i
invariant-loop-i l = Laid l.initial.byte-items (read_back l.initial.byte-items l.read l.stored) l.byte-items l.i
