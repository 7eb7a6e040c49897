-- The product that `times` gives, its low byte in A and its high byte in Y; N and Z are set of the high byte.
-- Assumes nothing.
use Rattle.registers.proofs.Registers.mul.Goals as goal

pub returns : goal.returns
returns c = rw (c.with_a.ensures, c.times-product.ensures) at c.load_y.ensures
