-- Each flag is the definition's test of its bit; bit 0 has the value 1, by which the code need not divide.
-- Assumes nothing.
use native.Mathlib.Nat.{div-one}
use Rattle.psw.specs.Status.{flags_of}
use Rattle.psw.proofs.ProgramStatusWord.from_byte.Goals as goal

pub returns : goal.returns
unfolding flags_of
returns c = rw div-one
