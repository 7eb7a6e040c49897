-- No line that is printed is ever too long for a line of 80 bytes, so nothing of it is lost.
-- Assumes nothing.
use Rattle.std.specs.Prelude.{ℕ, ◌≤◌, ◌≡◌, Bool, cond, List, ◌++◌, eqb, drop}
use Rattle.std.proofs.Math.Bool.{true, false}
use native.Mathlib.Omega.{arith}
use Rattle.std.proofs.Math.ListN.{length}
use Rattle.std.proofs.Common.{length-append, length-take}
use Rattle.text.specs.Digits.{decimal}
use Rattle.text.specs.Line.{shown}
use Rattle.text.specs.Quoted.{text}
use Rattle.text.specs.declared.Line.{Line}
use Rattle.text.proofs.Laws.{length_decimal, shown_adds}
use Rattle.editions.specs.Editions.{is_edition}
use Rattle.stepper.specs.Alike.{alike}
use Rattle.stepper.specs.Session.{comparison_text, edition_byte, outcome_of, second_of, compared, refused, session_of}
use Rattle.stepper.specs.Told.{Told}
use Rattle.stepper.specs.Theorems.{at_most_second}

-- an offset has at most five digits
short : (at : ℕ) → at ≤ 65543 → length (comparison_text at) ≤ 6
short at h = go (eqb at 65543)
  where
    go : (b : Bool) → length (cond b (text "same\n") (decimal at ++ text "\n")) ≤ 6
    go true = omega arith
    go false = simp length-append (omega (arith, length_decimal 4 at (omega arith)))

module _ (input : List ℕ) where
  few : alike (outcome_of input) (second_of input) ≤ 65543
  few = omega (arith, at_most_second (outcome_of input) (second_of input), length-take 65543 (drop 65544 input))

  pub fits : length (session_of input).printed ≤ 80
  unfolding session_of compared
  fits = go (eqb (length input) 131087) (is_edition (edition_byte input))
    where
      go : (b c : Bool)
          → length (cond b (cond c (compared input) (refused (text "refused 9\n") input)) (refused (text "refused 6\n") input)).printed ≤ 80
      go true true = omega (arith, short (alike (outcome_of input) (second_of input)) few)
      go true false = omega arith
      go false c = omega arith

  -- So the line that is answered shows all of it.
  pub shows_all : {r : Line} {after : List ℕ} → Told (session_of input) r after → shown r ≡ (session_of input).printed
  shows_all t = rw t.printed (shown_adds _ fits)
