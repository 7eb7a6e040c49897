-- What the marks of the two maps are to mean, of a list of accesses.
use Rattle.std.specs.Prelude.{ℕ, ◌≡◌, Bool, false, ◌||◌, List, [], ◌∷◌, ◌++◌, eqb}
use Rattle.runs.specs.Trace.{Event}
use Rattle.runs.specs.Trace.Event.{read, store}

-- whether an access stores at k, and whether one of a list does
abbrev pub stores_at : ℕ → Event → Bool
stores_at k (read a) = false
stores_at k (store a byte) = eqb a k

abbrev pub stored : ℕ → List Event → Bool
stored k [] = false
stored k (e ∷ t) = stores_at k e || stored k t

-- k is read before any store there: the list splits at a read of k, and nothing before it stores at k
pub record ReadFirst (k : ℕ) (t : List Event) : Type 0 where
  pub before : List Event
  pub after : List Event
  pub split : t ≡ before ++ read k ∷ after
  pub first : stored k before ≡ false

-- something is stored at k: the list splits at a store there
pub record StoredAt (k : ℕ) (t : List Event) : Type 0 where
  pub before : List Event
  pub byte : ℕ
  pub after : List Event
  pub split : t ≡ before ++ store k byte ∷ after
