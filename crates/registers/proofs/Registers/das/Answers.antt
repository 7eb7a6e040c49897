-- From the record that `reduce_high` gives, the code's test and branches are those of the definition.
-- Assumes nothing.
use Rattle.registers.proofs.Registers.das.Goals as goal

pub returns-then-cpu : goal.returns-then-cpu
returns-then-cpu c = rw (
  ← c.reduce_high-cpu.ensures,
  c.if-cpu.true,
  ← c.difference.ensures,
)
    c.load_a.ensures

pub returns-else-cpu : goal.returns-else-cpu
returns-else-cpu c = rw (← c.reduce_high-cpu.ensures, c.if-cpu.false) c.load_a-else-cpu.ensures
