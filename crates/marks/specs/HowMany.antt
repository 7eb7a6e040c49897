-- The laws of `how_many`, for the theorems and proofs on counts: where it may be taken apart, and that the ones of a number are its places
-- with a set bit.
-- Assumes nothing.
use Rattle.std.specs.Prelude.{ℕ, zero, suc, ◌+◌, ◌/◌, ◌%◌, ◌^◌, ◌<◌, ◌≤◌, ◌≡◌, refl, Bool, true, false, cond, eqb}
use Rattle.std.proofs.Common.{◌∙◌, add-zero, add-suc, div-one, one-add, arith, lit≤, shr-shr}
use Rattle.std.specs.Int.Count.{ones, ones_step}
use Rattle.marks.specs.Counts.{how_many}

-- tests that agree below n pass as often
pub same_tests : (n : ℕ) (f g : ℕ → Bool) → ((k : ℕ) → k < n → f k ≡ g k) → how_many n f ≡ how_many n g
unfolding how_many
same_tests zero f g e = refl
same_tests (suc n) f g e = rw (e n (omega arith), same_tests n f g (λ k h. e k (omega arith)))

-- the first a numbers, and the n from there on, are counted apart
pub apart : (a n : ℕ) (f : ℕ → Bool) → how_many (a + n) f ≡ how_many a f + how_many n (λ k. f (a + k))
unfolding how_many
apart a zero f = simp add-zero
apart a (suc n) f = rw add-suc (omega (arith, apart a n f))

-- what passes f or g, and never both, passes h: then the two counts add up
pub in_parts : (n : ℕ) (f g h : ℕ → Bool) → ((k : ℕ) → cond (f k) 1 0 + cond (g k) 1 0 ≡ cond (h k) 1 0)
    → how_many n f + how_many n g ≡ how_many n h
unfolding how_many
in_parts zero f g h e = refl
in_parts (suc n) f g h e = omega (arith, e n, in_parts n f g h e)

-- no more numbers pass than there are
pub at_most : (n : ℕ) (test : ℕ → Bool) → how_many n test ≤ n
unfolding how_many
at_most zero test = lit≤ tt
at_most (suc n) test = go (test n) (at_most n test)
  where
    go : {m : ℕ} (b : Bool) → m ≤ n → cond b 1 0 + m ≤ suc n
    go true h = omega arith
    go false h = omega arith

-- and where the test is always passed, so many do
pub all_pass : (n : ℕ) → how_many n (λ k. true) ≡ n
unfolding how_many
all_pass zero = refl
all_pass (suc n) = omega (arith, all_pass n)

one_or_none : (x : ℕ) → x < 2 → x ≡ cond (eqb x 1) 1 0
one_or_none zero h = refl
one_or_none (suc zero) h = refl
one_or_none (suc (suc x)) h = absurd (omega arith)

-- the ones of a number of d bits are its places with a set bit
pub ones_are : (d n : ℕ) → n < 2 ^ d → ones n ≡ how_many d (λ j. eqb (n / 2 ^ j % 2) 1)
unfolding how_many ones
ones_are zero n h = let none : n ≡ 0 = omega arith in rw none
ones_are (suc d) n h =
    let lowest : n % 2 ≡ cond (eqb (n / 2 ^ 0 % 2) 1) 1 0 = rw div-one (one_or_none (n % 2) (omega arith)) in
    let higher : ones (n / 2) ≡ how_many d (λ j. eqb (n / 2 ^ (1 + j) % 2) 1) =
    ones_are d (n / 2) (omega arith) ∙ same_tests d _ _ (λ j q. rw (shr-shr n 1 j)) in
    omega (arith, rw (one-add d) at (apart 1 d (λ j. eqb (n / 2 ^ j % 2) 1)), ones_step n)
