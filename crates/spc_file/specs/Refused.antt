-- A call that may be refused: its answer tells whether it was, and so what it leaves.
-- Assumes nothing.
use Rattle.std.specs.Prelude.{◌≡◌, refl, ℕ, List, Result, Ok, Err}
use Rattle.laws.specs.Filled.{filled}
use Rattle.refusals.specs.declared.Refusal.{Refusal}
use Rattle.spc_file.specs.Calls.{unless_refused}

module _ {T : Type 0} where
  pub not_refused : (result : Result T Refusal) (new old : List ℕ) {answer : T} → result ≡ Ok answer
      → unless_refused result new old ≡ filled (Ok answer) new
  not_refused result new old z = rw z

  pub refused : (result : Result T Refusal) (new old : List ℕ) {refusal : Refusal} → result ≡ Err refusal
      → unless_refused result new old ≡ filled (Err refusal) old
  refused result new old z = rw z

  -- It answers what the test gives, whatever that is.
  pub answers : (result : Result T Refusal) (new old : List ℕ) → (unless_refused result new old).answer ≡ result
  answers (Ok answer) new old = refl
  answers (Err refusal) new old = refl
