-- C says whether the difference stays above zero: `bit_if` stores the definition's own test.
-- Assumes nothing.
use Rattle.std.proofs.Common.{◌%◌, eqb, leb, refl}
use Rattle.registers.proofs.Laws.{told, carried}
use Rattle.registers.proofs.Registers.cmp.Goals as goal

pub returns : goal.returns
returns c = let flag = leb c.args.r c.args.l in
    carried c.nz.result flag
    (rw c.difference.ensures at c.nz.ensures.cpu)
    c.with_c.ensures
    (rw c.bit_if.ensures.0 (told (λ n. eqb (n % 2) 1) 1 flag refl refl))
