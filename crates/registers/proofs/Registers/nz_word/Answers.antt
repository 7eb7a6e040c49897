-- A word's top bit is its high byte's, and a word is zero where no bit of either byte is set.
-- Assumes nothing.
use Rattle.std.proofs.Common.{◌≡◌, ℕ, ◌+◌, ◌*◌, ◌<◌, Bool, true, false, eqb, leb, refl, arith, eq-eqb, ne_eqb, eqb-true, le-leb, leb-false, leb-true}
use lib.Bits.{bit_or, or_add_and, and_le_l, and_le_r}
use borrow.Author.Tests.{lt-leb, eqb-false}
use Rattle.registers.proofs.Registers.nz_word.Goals as goal

top : (low high : ℕ) → low < 256 → leb 128 high ≡ leb 32768 (high * 256 + low)
top low high h = go (leb 32768 (high * 256 + low)) refl
  where
    go : (b : Bool) → leb 32768 (high * 256 + low) ≡ b → leb 128 high ≡ b
    go true e = le-leb 128 high (omega (arith, leb-true 32768 (high * 256 + low) e))
    go false e = lt-leb 128 high (omega (arith, leb-false 32768 (high * 256 + low) e))

none : (low high : ℕ) → eqb (bit_or low high) 0 ≡ eqb (high * 256 + low) 0
none low high = go (eqb (high * 256 + low) 0) refl
  where
    go : (b : Bool) → eqb (high * 256 + low) 0 ≡ b → eqb (bit_or low high) 0 ≡ b
    go true e =
        let zero = eqb-true (high * 256 + low) 0 e in
        eq-eqb (bit_or low high) 0 (omega (arith, or_add_and low high, and_le_l low high, and_le_r low high))
    go false e =
        ne_eqb (bit_or low high) 0
        (λ z. omega (arith, eqb-false (high * 256 + low) 0 e, or_add_and low high, and_le_l low high, and_le_r low high))

pub returns : goal.returns
returns c = let given = c.args in
    rw (c.with_nz.ensures, top given.low given.high (omega arith), none given.low given.high)
