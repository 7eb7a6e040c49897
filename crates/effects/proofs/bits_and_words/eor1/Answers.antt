-- The definition goes by C as the code does.
-- Assumes nothing.
use Rattle.std.proofs.Common.{◌≡◌, Bool, true, false, not, rules}
use Rattle.instructions.specs.Effects.{effect_of, carry_into, differs}
use Rattle.instructions.specs.declared.Operands.{Operands}
use Rattle.instructions.specs.declared.Effect.{Effect}
use Rattle.effects.proofs.bits_and_words.eor1.Goals as goal

-- C and the bit, where C is set; where it is not
with_c_lem : (c named : Bool) (o : Operands) {bit : Bool} {r : Effect}
    → c ≡ true → bit ≡ named → r ≡ carry_into (not bit) o → r ≡ carry_into (differs c named) o
with_c_lem c named o e f g = rw (e, ← f) g

without_c : (c named : Bool) (o : Operands) {bit : Bool} {r : Effect}
    → c ≡ false → bit ≡ named → r ≡ carry_into bit o → r ≡ carry_into (differs c named) o
without_c c named o e f g = rw (e, ← f) g

pub returns-then-cpu : goal.returns-then-cpu
unfolding effect_of
returns-then-cpu c = search with_c_lem

pub returns-else-cpu : goal.returns-else-cpu
unfolding effect_of
returns-else-cpu c = search without_c
