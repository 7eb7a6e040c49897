-- How many bytes an answer has.
-- Assumes nothing.
use Rattle.std.specs.Prelude.{ℕ, ◌+◌, ◌*◌, Bool, ◌≡◌, refl, List, [], ◌∷◌, length}
use Rattle.std.proofs.Common.{arith}
use Rattle.differences.specs.declared.Stretch.{Stretch}
use Rattle.differences.specs.Calls.{numbers_of}
use Rattle.surveyor.specs.Survey.{in_bytes, answer}

-- Two numbers for each stretch, two bytes for each number,
pub length_numbers : (stretches : List Stretch) → length (numbers_of stretches) ≡ 2 * length stretches
unfolding numbers_of
length_numbers [] = refl
length_numbers (s ∷ rest) = omega (arith, length_numbers rest)

pub length_bytes : (numbers : List ℕ) → length (in_bytes numbers) ≡ 2 * length numbers
unfolding in_bytes
length_bytes [] = refl
length_bytes (n ∷ rest) = omega (arith, length_bytes rest)

-- and the byte of the touch.
pub length_answer : (touch : Bool) (stretches : List Stretch) → length (answer touch stretches) ≡ 4 * length stretches + 1
length_answer touch stretches = omega (arith, length_bytes (numbers_of stretches), length_numbers stretches)
