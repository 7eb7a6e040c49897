-- What a call promises that gives an answer and writes to one lent slice.
use Rattle.std.specs.Prelude.{ℕ, ◌≡◌, List}
use Rattle.laws.specs.Lent.{Lent}

-- the answer, and what is left in the slice
pub record Filled (R : Type 0) : Type 0 where
  pub answer : R
  pub left : List ℕ

abbrev pub filled : {R : Type 0} → R → List ℕ → Filled R
filled answer left = record { answer = answer; left = left }

-- It answers and leaves what `call` makes of what the slice held before.
abbrev pub Fills : {R : Type 0} → (List ℕ → Filled R) → Lent → R → Type 0
Fills call slice r = filled r slice.exit ≡ call slice.entry
