-- What passes between the phases is the same where its fields are.
-- Assumes nothing.
use mathlib.Core.Path.{◌≡◌}
use Rattle.instructions.specs.declared.Operands.{Operands}

pub same_operands : {p q : Operands} → p.cpu ≡ q.cpu → p.at ≡ q.at → p.next ≡ q.next → p.low ≡ q.low → p.high ≡ q.high → p ≡ q
same_operands cpu at next low high = rw (cpu, at, next, low, high)
