-- A branch that is passed by has two cycles to leave out. An opcode, which is a byte that was read, is below 256.
-- Assumes nothing.
use Rattle.std.proofs.Common.{rules}
use Rattle.cycles.proofs.Entries.{two_less, passed_by, whole}
use Rattle.cycles.proofs.of_step.Goals as goal

pub overflow_sub-result : goal.overflow_sub-result
overflow_sub-result c = search (rules, two_less)

pub returns-then-is_passed_by : goal.returns-then-is_passed_by
returns-then-is_passed_by c = passed_by _ _ _ _ c.of_opcode-most.ensures c.is_passed_by.ensures c.if-is_passed_by.true

pub returns-else-is_passed_by : goal.returns-else-is_passed_by
returns-else-is_passed_by c = whole _ _ _ _ c.of_opcode-most.ensures c.is_passed_by.ensures c.if-is_passed_by.false
