-- Each flag as a number, times the value of its bit, is the code's term for it.
-- Assumes nothing.
use Rattle.std.proofs.Common.{◌≡◌, ◌*◌, ◌/◌, Bool, true, false, cond, eqb, refl, arith}
use Rattle.psw.specs.Status.{one_if, byte_of}
use Rattle.registers.proofs.Laws.{bit_number_lem, top_number}
use Rattle.registers.proofs.Registers.status.Goals as goal

-- a bit of value 2, by a flag
twice : (flag : Bool) → cond flag 2 0 ≡ 2 * one_if flag
twice true = refl
twice false = refl

pub returns : goal.returns
unfolding byte_of
returns c = let r = c.args.self in
    omega (
      arith,
      top_number r.n (omega arith),
      top_number r.v (omega arith),
      bit_number_lem (r.page / 256),
      bit_number_lem (r.rest / 16),
      bit_number_lem (r.h / 16),
      bit_number_lem (r.rest / 4),
      twice (eqb r.z 0),
      bit_number_lem r.c,
      c.bit_if.ensures.0,
    )
