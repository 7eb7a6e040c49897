-- X
-- Assumes nothing.
use Rattle.std.proofs.Common.{rules, le-ltb, lt-ltb}
use Rattle.processor.proofs.Bounds.{rest_fits, odd_quotient, odd_rest_fits}
use Rattle.registers.proofs.Registers.div.Goals as goal

pub overflow_cast-ya-then-self-x-2 : goal.overflow_cast-ya-then-self-x-2
overflow_cast-ya-then-self-x-2 c = search (rules, rest_fits)

pub overflow_sub-quotient-else-self-x : goal.overflow_sub-quotient-else-self-x
overflow_sub-quotient-else-self-x c = search (rules, odd_quotient)

pub overflow_add-rest : goal.overflow_add-rest
overflow_add-rest c = search (rules, odd_rest_fits)

pub overflow_cast-rest : goal.overflow_cast-rest
overflow_cast-rest c = search (rules, odd_rest_fits)

pub returns-then-self-x : goal.returns-then-self-x
returns-then-self-x c = search (rules, lt-ltb)

pub returns-else-self-x : goal.returns-else-self-x
returns-else-self-x c = search (rules, le-ltb)
