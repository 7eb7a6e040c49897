-- The one number of a call that fills what it is lent.
-- Assumes nothing.
use Rattle.std.specs.Prelude.{ℕ, ◌≡◌, List}
use Rattle.laws.specs.Filled.{Filled, filled}
use Rattle.exports.specs.Calls.{numbered_by}

module _ {R : Type 0} (number : R → ℕ) where
  -- The call's own answer goes into its number, and what is left stays.
  pub in_number : {o : Filled R} {x : R} {r : ℕ} {after : List ℕ} → filled x after ≡ o → r ≡ number x → filled r after ≡ numbered_by number o
  in_number e p = rw (p, ← e)
