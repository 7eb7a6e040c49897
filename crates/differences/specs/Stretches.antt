-- The maximal stretches of the addresses that pass a test.
use Rattle.std.specs.Prelude.{ℕ, zero, suc, ◌-◌, Bool, false, cond, ◌||◌, List, [], ◌∷◌, eqb}
use Rattle.differences.specs.declared.Stretch.{Stretch}

-- A stretch of addresses, by its first and its last. One address is a stretch, too.
abbrev pub stretch : ℕ → ℕ → Stretch
stretch first last = record { first = first; last = last }

-- One address more, in front of all stretches: it lengthens the one that begins right behind it, or is a stretch by itself.
unfoldable pub with_address : ℕ → List Stretch → List Stretch
with_address at [] = stretch at at ∷ []
with_address at (s ∷ rest) = cond (eqb s.first (suc at)) (stretch at s.last ∷ rest) (stretch at at ∷ s ∷ rest)

-- Of n addresses, from `at` on, those that pass a test: in stretches, each as long as possible, ascending.
unfoldable pub stretches_from : (ℕ → Bool) → ℕ → ℕ → List Stretch
stretches_from test at zero = []
stretches_from test at (suc n) = let behind = stretches_from test (suc at) n in cond (test at) (with_address at behind) behind

-- Whether one of n addresses, from `at` on, passes a test.
unfoldable pub some_from : (ℕ → Bool) → ℕ → ℕ → Bool
some_from test at zero = false
some_from test at (suc n) = test at || some_from test (suc at) n

-- Whether a stretch touches a mark: whether one of its addresses is marked. Whether one of some stretches does.
abbrev pub touches : (ℕ → Bool) → Stretch → Bool
touches mark s = some_from mark s.first (suc s.last - s.first)

unfoldable pub touched : (ℕ → Bool) → List Stretch → Bool
touched mark [] = false
touched mark (s ∷ rest) = touches mark s || touched mark rest
