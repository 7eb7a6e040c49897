-- What stays is as large as a map, so nothing is refused.
-- Assumes nothing.
use Rattle.std.specs.Prelude.{ℕ, List, length, Result, Ok, IsOk}
use Rattle.std.proofs.Common.{◌≡◌, refl, ap, ◌∙◌, arith}
use Rattle.refusals.specs.declared.Refusal.{Refusal}
use Rattle.laws.specs.Filled.{Filled, filled}
use Rattle.blanking.specs.Calls.{unmarked, blanked_image, blank_of}
use Rattle.blanking.specs.Theorems.{not_refused}
use Rattle.blanking.specs.Together.{together, together_size}
use Rattle.auditor.specs.Inside.{Keeping}
use Rattle.auditor.proofs.keep.Goals as goal

module _ (reads kept image : List ℕ) (byte : ℕ) (r : length reads ≡ 8192) (k : length kept ≡ 8192) (i : length image ≡ 65536)
    {both given : List ℕ} {answer : Result ℕ Refusal} (j : both ≡ together reads kept) (e : filled answer given ≡ blank_of both byte image) where
  blanked : filled answer given ≡ filled (Ok (unmarked (together reads kept))) (blanked_image (together reads kept) byte image)
  blanked = rw j at e ∙ not_refused (together reads kept) byte image (together_size reads kept r k) i

  answered : answer ≡ Ok (unmarked (together reads kept))
  answered = ap (λ (f : Filled (Result ℕ Refusal)). f.answer) blanked

  taken : IsOk answer
  taken = rw answered refl

  keeping : {n : ℕ} → answer ≡ Ok n → Keeping reads kept image byte both given n
  keeping is = record { stays = j; left = ap (λ (f : Filled (Result ℕ Refusal)). f.left) blanked; count = grind (arith, answered, is) }

pub unwrap-requires : goal.unwrap-requires
unwrap-requires c = taken _ _ _ _ c.told-reads c.told-kept c.told-image c.join.ensures c.blank.ensures

pub returns : goal.returns
returns c = keeping _ _ _ _ c.told-reads c.told-kept c.told-image c.join.ensures c.blank.ensures c.unwrap.ensures
