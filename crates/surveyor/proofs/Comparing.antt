-- A comparison into a row of 65,536 numbers: it is not refused, and what the row begins with are the numbers of the stretches.
-- Assumes nothing.
use Rattle.std.proofs.Common.{ℕ, ◌*◌, ◌≤◌, true, cond, ◌≡◌, ap, ◌∙◌, List, ◌∷◌, Option, Result, Ok, Err, length, take, drop, length-append, length-drop, take_at, arith}
use Rattle.std.proofs.lemmas.List.{length-replicate}
use Rattle.std.specs.Prelude.{replicate}
use Rattle.laws.specs.Filled.{Filled, filled}
use Rattle.refusals.specs.declared.Refusal.{Refusal}
use Rattle.text.specs.Given.{Given, says}
use Rattle.differences.specs.declared.Stretch.{Stretch}
use Rattle.differences.specs.Calls.{stretches_of, memories_right, map_right, marks_of, numbers_of, written, accepted, differences_of}
use Rattle.differences.proofs.Refusals.{room_enough}
use Rattle.differences.proofs.Theorems.{few}
use Rattle.differences.specs.declared.Differences.{Differences}
use Rattle.surveyor.specs.Survey.{in_bytes}
use Rattle.surveyor.specs.Compared.{compared}
use Rattle.surveyor.specs.Lengths.{length_numbers}

module _ (first second : List ℕ) (map : Option (List ℕ)) (right : memories_right first second ≡ true) (usable : map_right map ≡ true)
    (n : ℕ) (all : n ≡ 65536) where
  -- the row before the comparison
  abbrev row : List ℕ
  row = replicate n 0

  module _ {told : Result Differences Refusal} {left : List ℕ} (is : filled told left ≡ differences_of first second map row) where
    abbrev stretches : List Stretch
    stretches = stretches_of first second

    all_told : filled told left ≡ filled (Ok (accepted stretches (marks_of map))) (written stretches row)
    all_told = is ∙ rw (room_enough first second map row right usable (rw length-replicate (omega arith)))

    pub not_refused : {refusal : Refusal} → told ≡ Err refusal → ⊥
    not_refused e = let o = ap (λ (f : Filled (Result Differences Refusal)). f.answer) all_told in cc

    in_row : left ≡ written stretches row
    in_row = ap (λ (f : Filled (Result Differences Refusal)). f.left) all_told

    module _ {found : Differences} (e : told ≡ Ok found) where
      how_many : found ≡ accepted stretches (marks_of map)
      how_many = let o = ap (λ (f : Filled (Result Differences Refusal)). f.answer) all_told in cc

      pub within_row : 2 * found.stretches ≤ length left
      unfolding written
      within_row = rw (how_many, in_row, length-append, length_numbers stretches, length-drop) (omega arith)

      numbers_first : take (2 * found.stretches) left ≡ numbers_of stretches
      unfolding written
      numbers_first = rw (how_many, in_row) (take_at (numbers_of stretches) (drop (2 * length stretches) row) _ (length_numbers stretches))

      pub given_compared : {before after : List ℕ} {r : Result ℕ Refusal}
          → Given (says (cond found.touched 1 0 ∷ in_bytes (take (2 * found.stretches) left))) before after r
          → Given (says (compared (marks_of map) first second)) before after r
      given_compared g = rw (numbers_first, how_many) at g
