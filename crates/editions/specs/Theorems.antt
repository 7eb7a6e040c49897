-- What the two editions share, and how they are numbered.
-- Assumes nothing.
use Rattle.std.specs.Prelude.{◌≡◌, ℕ, ◌/◌, ◌%◌, ◌<◌, Bool, true, false, cond, ◌||◌, ◌==◌, ◌≢◌, refl}
use Rattle.std.proofs.Common.{true≢false, sym, arith, eqb-true}
use Rattle.editions.specs.Editions.{second_at, number_of, is_edition, edition_of}
use Rattle.editions.specs.declared.Edition.{Edition}
use Rattle.editions.specs.declared.Edition.TheVariants.{First, Second}

-- An edition's number names it, and a number that names one is its number.
pub named : (e : Edition) → is_edition (number_of e) ≡ true
named First = refl
named Second = refl

pub number_and_back : (e : Edition) → edition_of (number_of e) ≡ e
number_and_back First = refl
number_and_back Second = refl

pub edition_and_back : (n : ℕ) → is_edition n ≡ true → number_of (edition_of n) ≡ n
edition_and_back n = go (n == 1) (n == 2) refl refl
  where
    go : (b c : Bool) → (n == 1) ≡ b → (n == 2) ≡ c → (b || c) ≡ true → number_of (cond c Second First) ≡ n
    go b true one two t = sym (eqb-true n 2 two)
    go true false one two t = sym (eqb-true n 1 one)
    go false false one two t = absurd (true≢false (sym t))

-- In edition 2 a pointer does not leave its page.
pub stays_in_page : (at : ℕ) → second_at Second at / 256 ≡ at / 256
stays_in_page at = omega arith

-- The editions part only where a pointer begins at the last byte of a page.
pub apart_only_at_the_end : (at : ℕ) → at < 65536 → (at % 256 ≢ 255) → second_at First at ≡ second_at Second at
apart_only_at_the_end at h other = omega arith
