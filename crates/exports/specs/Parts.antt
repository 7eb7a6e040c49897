-- An answer's parts can be told from its number, as include/spc700.h does.
-- Assumes nothing.
use Rattle.std.specs.Prelude.{ℕ, ◌/◌, ◌%◌, ◌^◌, ◌<◌, ◌≡◌, refl, Result, Ok, Err}
use Rattle.std.proofs.Common.{arith}
use Rattle.refusals.specs.Numbers.{number_of}
use Rattle.refusals.specs.declared.Refusal.{Refusal}
use Rattle.refusals.specs.declared.Refusal.TheVariants.{Memory, Map, Room, Operands, Count, Form, File, Signature, Edition, Unnamed, Asleep}
use Rattle.exports.specs.Calls.{packed, refused_with, refusal_number}

module _ (refusal stop number : ℕ) (byte : stop < 2 ^ 8) (word : number < 2 ^ 32) where
  pub refusal_part : packed refusal stop number / 2 ^ 40 ≡ refusal
  refusal_part = omega arith

  pub stop_part : packed refusal stop number / 2 ^ 32 % 2 ^ 8 ≡ stop
  stop_part = omega arith

  pub number_part : packed refusal stop number % 2 ^ 32 ≡ number
  number_part = omega arith

-- No refusal has the number 0,
pub not_zero : (refusal : Refusal) → number_of refusal ≡ 0 → ⊥
not_zero Memory e = omega arith
not_zero Map e = omega arith
not_zero Room e = omega arith
not_zero Operands e = omega arith
not_zero Count e = omega arith
not_zero Form e = omega arith
not_zero File e = omega arith
not_zero Signature e = omega arith
not_zero Edition e = omega arith
not_zero Unnamed e = omega arith
not_zero Asleep e = omega arith

-- so no refused call answers 0.
pub refused_tells : (refusal : Refusal) → refused_with refusal ≡ 0 → ⊥
refused_tells refusal e = not_zero refusal (omega arith)

pub none_refused : (r : Result Unit Refusal) → refusal_number r ≡ 0 → r ≡ Ok tt
none_refused (Ok x) e = refl
none_refused (Err refusal) e = absurd (refused_tells refusal e)
