-- Laws of `|` on numbers, by their binary digits.
-- Assumes nothing.
use Rattle.std.specs.Prelude.{ℕ, zero, suc, ◌+◌, ◌-◌, ◌/◌, ◌%◌, ◌^◌, ◌<◌, ◌≤◌, ◌≡◌, refl, Bool, eqb}
use Rattle.std.proofs.Common.{arith, shr-shr}
use Rattle.std.proofs.Math.Arith.{bin_ind}
use Rattle.std.specs.Int.Bits.{bit_and, bit_or}
use Rattle.std.proofs.lemmas.Nat.{and_shr, and_mod, or_shr, or_mod}
use Rattle.std.proofs.Math.Pow.{field, mod-mod-pow}
use Rattle.laws.specs.Table.{same_grid}

-- Whether the bit of value 2^j is set.
abbrev pub is_set : ℕ → ℕ → Bool
is_set n j = eqb (n / 2 ^ j % 2) 1

-- Numbers with the same half and the same last digit are equal.
same : (a b : ℕ) → a / 2 ≡ b / 2 → a % 2 ≡ b % 2 → a ≡ b
same a b half last = omega arith

half_or : (a b : ℕ) → bit_or a b / 2 ≡ bit_or (a / 2) (b / 2)
half_or a b = or_shr a b 1

last_or : (a b : ℕ) → bit_or a b % 2 ≡ bit_or (a % 2) (b % 2)
last_or a b = or_mod a b 1

half_and : (a b : ℕ) → bit_and a b / 2 ≡ bit_and (a / 2) (b / 2)
half_and a b = and_shr a b 1

last_and : (a b : ℕ) → bit_and a b % 2 ≡ bit_and (a % 2) (b % 2)
last_and a b = and_mod a b 1

-- ---- the bits of two bytes as one number

-- those of the low byte
pub low_bits : (n j : ℕ) → j < 8 → is_set n j ≡ is_set (n % 256) j
low_bits n j h =
    let all : 7 - j + 1 + j ≡ 8 = omega arith in
    let byte : n % 256 / 2 ^ j ≡ n / 2 ^ j % 2 ^ (7 - j + 1) = rw all at (field n (7 - j + 1) j) in
    rw (byte, mod-mod-pow (n / 2 ^ j) (7 - j) 1)

-- and those of the high one
pub high_bits : (n j : ℕ) → 8 ≤ j → is_set n j ≡ is_set (n / 256) (j - 8)
high_bits n j h = let all : 8 + (j - 8) ≡ j = omega arith in rw (shr-shr n 8 (j - 8), all)

-- ---- single digits

or_digits : (x y z : ℕ) → x < 2 → y < 2 → z < 2 → bit_or (bit_or x y) z ≡ bit_or x (bit_or y z)
or_digits zero y z f g h = refl
or_digits (suc zero) y z f g h = same_grid 2 2 (λ y z. bit_or (bit_or 1 y) z) (λ y z. bit_or 1 (bit_or y z)) refl y z g h
or_digits (suc (suc x)) y z f g h = absurd (omega arith)

and_digits : (x y z : ℕ) → x < 2 → y < 2 → z < 2 → bit_and (bit_or x y) z ≡ bit_or (bit_and x z) (bit_and y z)
and_digits zero y z f g h = refl
and_digits (suc zero) y z f g h = same_grid 2 2 (λ y z. bit_and (bit_or 1 y) z) (λ y z. bit_or (bit_and 1 z) (bit_and y z)) refl y z g h
and_digits (suc (suc x)) y z f g h = absurd (omega arith)

-- ---- numbers

-- In which order three numbers are joined does not matter.
pub or_assoc : (a b c : ℕ) → bit_or (bit_or a b) c ≡ bit_or a (bit_or b c)
or_assoc =
    bin_ind (λ (a : ℕ). (b c : ℕ) → bit_or (bit_or a b) c ≡ bit_or a (bit_or b c)) (λ b c. refl)
    (λ a more b c.
    same _ _
    (rw (half_or (bit_or a b) c, half_or a b, half_or a (bit_or b c), half_or b c) (more (b / 2) (c / 2)))
    (rw (last_or (bit_or a b) c, last_or a b, last_or a (bit_or b c), last_or b c)
    (or_digits (a % 2) (b % 2) (c % 2) (omega arith) (omega arith) (omega arith))))

-- What a number shares with two joined ones is what it shares with each, joined.
pub and_or : (a b c : ℕ) → bit_and (bit_or a b) c ≡ bit_or (bit_and a c) (bit_and b c)
and_or =
    bin_ind (λ (a : ℕ). (b c : ℕ) → bit_and (bit_or a b) c ≡ bit_or (bit_and a c) (bit_and b c)) (λ b c. refl)
    (λ a more b c.
    same _ _
    (rw (half_and (bit_or a b) c, half_or a b, half_or (bit_and a c) (bit_and b c), half_and a c, half_and b c) (more (b / 2) (c / 2)))
    (rw (last_and (bit_or a b) c, last_or a b, last_or (bit_and a c) (bit_and b c), last_and a c, last_and b c)
    (and_digits (a % 2) (b % 2) (c % 2) (omega arith) (omega arith) (omega arith))))
