-- Rows whose numbers a function gives: their lengths and their numbers, and that a row with these numbers is that row.
-- Assumes nothing.
use Rattle.std.proofs.Common.{◌≡◌, ℕ, ◌<◌, ◌≤◌, List, length, get_or, zero-add, ⊎_elim}
use Rattle.std.proofs.lemmas.List.{get_or_past}
use Rattle.std.proofs.lemmas.List.FromFn.{length-map-range_with_len, get_or-map-range_with_len, fill_by_all}
use Rattle.std.proofs.lemmas.Bool.{cases_lt}
use Rattle.cells.specs.Cells.{values}

module _ (n : ℕ) (f : ℕ → ℕ) where
  -- There are n values.
  pub length_values : length (values n f) ≡ n
  unfolding values
  length_values = length-map-range_with_len f 0 n

  -- Each stands at its place.
  pub value_at : (i : ℕ) → i < n → get_or (values n f) i 0 ≡ f i
  unfolding values
  value_at i h = get_or-map-range_with_len f 0 n i i 0 h (zero-add i)

  -- A row of n numbers that has the value at each place is the row of values.
  pub are_values : (row : List ℕ) → length row ≡ n → ((i : ℕ) → i < n → get_or row i 0 ≡ f i) → row ≡ values n f
  unfolding values
  are_values row size each = fill_by_all f row n 0 size each

  -- Where every value is below a bound, so is whatever stands in the row or is read behind its end.
  pub values_below : (b : ℕ) → 0 < b → ((k : ℕ) → f k < b) → (i : ℕ) → get_or (values n f) i 0 < b
  values_below b some small i =
      ⊎_elim (λ h. rw (value_at i h) (small i)) (λ past. let end : length (values n f) ≤ i = rw length_values past in rw (get_or_past (values n f) i 0 end) some)
      (cases_lt i n)
