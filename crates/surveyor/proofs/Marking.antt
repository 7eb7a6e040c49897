-- The stretches at which zeros that a map blanked with ones differ from ones: they are the map's, and without a map none is touched.
-- Assumes nothing.
use Rattle.std.proofs.Common.{ℕ, false, ◌≡◌, refl, sym, ap, ◌∙◌, List, [], ◌∷◌, None, Result, Err, length}
use Rattle.std.proofs.lemmas.List.{length-replicate}
use Rattle.std.specs.Prelude.{replicate}
use Rattle.laws.specs.Filled.{Filled, filled}
use Rattle.refusals.specs.declared.Refusal.{Refusal}
use Rattle.text.specs.Given.{Given, says}
use Rattle.blanking.specs.Calls.{blank_of}
use Rattle.blanking.specs.Theorems.{not_refused}
use Rattle.differences.specs.declared.Stretch.{Stretch}
use Rattle.differences.specs.Stretches.{touched}
use Rattle.differences.specs.Calls.{stretches_of, marks_of}
use Rattle.differences.proofs.Looks.{no_map}
use Rattle.surveyor.specs.Survey.{marked_stretches, of_map}
use Rattle.surveyor.specs.Compared.{compared}
use Rattle.surveyor.specs.AsMemories.{zeros, ones, as_memories}

pub no_touch : (stretches : List Stretch) → touched (marks_of None) stretches ≡ false
unfolding touched
no_touch [] = refl
no_touch (s ∷ rest) = rw (← no_map s) (no_touch rest)

module _ (map : List ℕ) (size : length map ≡ 8192) (n : ℕ) (all : n ≡ 65536)
    {told : Result ℕ Refusal} {first : List ℕ} (is : filled told first ≡ blank_of map 1 (replicate n 0)) where
  pub accepted : {refusal : Refusal} → told ≡ Err refusal → ⊥
  accepted e = let o = ap (λ (f : Filled (Result ℕ Refusal)). f.answer) (is ∙ not_refused map 1 (replicate n 0) size (length-replicate n 0 ∙ all)) in cc

  first_blanked : first ≡ zeros map n
  first_blanked =
      ap (λ (f : Filled (Result ℕ Refusal)). f.left) (is ∙ not_refused map 1 (replicate n 0) size (length-replicate n 0 ∙ all))

  marks_found : stretches_of first (ones n) ≡ marked_stretches map
  marks_found = rw first_blanked (sym (as_memories map n all))

  pub given_marks : {before after : List ℕ} {r : Result ℕ Refusal} → Given (says (compared (marks_of None) first (ones n))) before after r
      → Given (says (of_map map)) before after r
  given_marks g = rw (no_touch (stretches_of first (ones n)), marks_found) at g
