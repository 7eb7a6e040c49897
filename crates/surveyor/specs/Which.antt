-- Which answer an input gets, by its length.
-- Assumes nothing.
use Rattle.std.specs.Prelude.{ℕ, ◌≡◌, List, length}
use Rattle.std.proofs.Common.{arith}
use borrow.Author.Tests.{eq-eqb, ne_eqb}
use Rattle.text.specs.Quoted.{text}
use Rattle.surveyor.specs.Survey.{of_map, of_memories, of_all, survey_of}

module _ (input : List ℕ) where
  -- 8,192 bytes: the map's,
  pub is_map : length input ≡ 8192 → survey_of input ≡ of_map input
  unfolding survey_of
  is_map size = rw (eq-eqb _ _ size)

  -- 131,072 bytes: that of two memories,
  pub is_two : length input ≡ 131072 → survey_of input ≡ of_memories input
  unfolding survey_of
  is_two size = rw (ne_eqb (length input) 8192 (λ e. omega arith), eq-eqb _ _ size)

  -- 139,264 bytes: that of a map and two memories,
  pub is_all : length input ≡ 139264 → survey_of input ≡ of_all input
  unfolding survey_of
  is_all size = rw (ne_eqb (length input) 8192 (λ e. omega arith), ne_eqb (length input) 131072 (λ e. omega arith), eq-eqb _ _ size)

  -- any other: the line.
  pub is_none : (length input ≡ 8192 → ⊥) → (length input ≡ 131072 → ⊥) → (length input ≡ 139264 → ⊥) → survey_of input ≡ text "refused 6\n"
  unfolding survey_of
  is_none n m k = rw (ne_eqb _ _ n, ne_eqb _ _ m, ne_eqb _ _ k)
