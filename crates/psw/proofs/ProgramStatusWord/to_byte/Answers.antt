-- The code's sum is the definition's, a term for each flag.
-- Assumes nothing.
use Rattle.std.proofs.Common.{◌≡◌, Bool, true, false, refl, arith}
use mir.Val.{bool_byte}
use Rattle.psw.specs.Status.{one_if, byte_of}
use Rattle.psw.proofs.ProgramStatusWord.to_byte.Goals as goal

-- a flag as the code's number
number : (flag : Bool) → bool_byte flag ≡ one_if flag
number true = refl
number false = refl

pub returns : goal.returns
unfolding byte_of
returns c = omega (arith, number)
