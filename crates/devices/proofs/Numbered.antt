-- A loop that changes things in a row, one after the other: of `numbered`, as far as it has come.
-- Assumes nothing.
use Rattle.std.proofs.Common.{◌≡◌, ℕ, zero, suc, ◌+◌, ◌<◌, ◌≤◌, List, [], ◌∷◌, length, get_or, set, refl, ap, arith, add-zero}
use Rattle.devices.specs.Devices.{numbered}

-- the first n of a row, changed by a function of their numbers, and the others as they are
abbrev pub below : {A : Type 0} → ℕ → ℕ → (ℕ → A → A) → List A → List A
below zero k f xs = xs
below (suc n) k f [] = []
below (suc n) k f (x ∷ xs) = f k x ∷ below n (k + 1) f xs

-- one more
pub one_more : {A : Type 0} (n k : ℕ) (f : ℕ → A → A) (xs : List A) (d : A) → n < length xs
    → set (below n k f xs) n (f (k + n) (get_or (below n k f xs) n d)) ≡ below (suc n) k f xs
one_more n k f [] d h = absurd (omega arith)
one_more zero k f (x ∷ xs) d h = rw add-zero
one_more (suc n) k f (x ∷ xs) d h =
    let same : k + suc n ≡ (k + 1) + n = omega arith in
    rw same (ap (λ ys. f k x ∷ ys) (one_more n (k + 1) f xs d (omega arith)))

-- all of them
pub all_done : {A : Type 0} (n k : ℕ) (f : ℕ → A → A) (xs : List A) → length xs ≤ n → below n k f xs ≡ numbered k f xs
all_done zero k f [] h = refl
all_done (suc n) k f [] h = refl
all_done zero k f (x ∷ xs) h = absurd (omega arith)
all_done (suc n) k f (x ∷ xs) h = ap (λ ys. f k x ∷ ys) (all_done n (k + 1) f xs (omega arith))

-- a function that changes nothing
pub numbered_none : {A : Type 0} (k : ℕ) (f : ℕ → A → A) (xs : List A) → ((j : ℕ) (x : A) → f j x ≡ x) → numbered k f xs ≡ xs
numbered_none k f [] e = refl
numbered_none k f (x ∷ xs) e = rw (e k x, numbered_none (k + 1) f xs e)
