-- A and Y are set first, and their change leaves N and Z to `nz_word`.
-- Assumes nothing.
use Rattle.registers.proofs.Registers.load_ya.Goals as goal

pub returns : goal.returns
returns c = rw (c.with_y.ensures, c.with_a.ensures) at c.nz_word.ensures
