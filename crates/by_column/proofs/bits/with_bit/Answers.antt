-- A branch of the test says which the byte is.
-- Assumes nothing.
use Rattle.by_column.proofs.bits.with_bit.Goals as goal

pub returns-then-on : goal.returns-then-on
returns-then-on c = rw c.if-on.true

pub returns-else-on : goal.returns-else-on
returns-else-on c = rw c.if-on.false
