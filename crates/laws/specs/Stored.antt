-- Numbers that are stored one after the other, from a place of a row on (`sets`): what then stands where; and a part of a row that is
-- copied into, or put back.
-- Assumes nothing.
use Rattle.std.specs.Prelude.{ℕ, zero, suc, ◌+◌, ◌<◌, ◌≤◌, ◌≡◌, refl, List, [], ◌∷◌, ◌++◌, length, get_or, set, take, drop}
use Rattle.std.proofs.Common.{ap, ◌∙◌, append-nil, append_assoc, zero-add, add-zero, suc-add, add-suc, arith, length-set, length-drop, take-append-drop, drop-drop, get_or-set_same, get_or-set_other, take-add, take_at, drop_at, length-take-le}
use Rattle.std.proofs.lemmas.List.Edits.{sets, sets-eq}
use Rattle.std.proofs.Math.Seq.{take-length, drop-length}
use Rattle.std.proofs.lemmas.List.{set-get_or, take-set-le}
use borrow.Rule.Slice.PartMut.{put_mid}

-- As many as a row has places leave nothing of what it held.
pub all_stored : (xs row : List ℕ) → length row ≡ length xs → sets row 0 xs ≡ xs
all_stored xs row h = sets-eq xs row 0 (omega arith) ∙ rw (zero-add, ← h, drop-length row, append-nil xs)

-- Another place keeps its number.
pub other_place : (xs row : List ℕ) (from at : ℕ) → ((i : ℕ) → i < length xs → at ≡ from + i → ⊥)
    → get_or (sets row from xs) at 0 ≡ get_or row at 0
other_place [] row from at other = refl
other_place (x ∷ xs) row from at other =
    other_place xs (set row from x) (suc from) at (λ i h e. other (suc i) (omega arith) (omega arith))
    ∙ get_or-set_other row from at x 0 (λ e. other 0 (omega arith) (omega arith))

-- The places that were stored to have the numbers.
pub stored_place : (xs row : List ℕ) (from i : ℕ) → from + length xs ≤ length row → i < length xs
    → get_or (sets row from xs) (from + i) 0 ≡ get_or xs i 0
stored_place [] row from i room h = absurd (omega arith)
stored_place (x ∷ xs) row from zero room h =
    rw add-zero (other_place xs (set row from x) (suc from) from (λ i k e. omega arith) ∙ get_or-set_same row from x 0 (omega arith))
stored_place (x ∷ xs) row from (suc i) room h =
    rw add-suc (simp suc-add at (stored_place xs (set row from x) (suc from) i (rw length-set (omega arith)) (omega arith)))

-- The first places, before the one where storing begins, have what they had.
pub before_stored : (n : ℕ) (xs row : List ℕ) (from : ℕ) → n ≤ from → take n (sets row from xs) ≡ take n row
before_stored n [] row from h = refl
before_stored n (x ∷ xs) row from h = before_stored n xs (set row from x) (suc from) (omega arith) ∙ take-set-le n row from x h

-- The part that was stored is what was stored.
pub stored_part : (xs row : List ℕ) (from : ℕ) → from + length xs ≤ length row → take (length xs) (drop from (sets row from xs)) ≡ xs
stored_part xs row from room =
    let behind = drop (from + length xs) row in
    rw (sets-eq xs row from room, append_assoc, drop_at (take from row) (xs ++ behind) from (length-take-le from row (omega arith)))
    (take_at xs behind (length xs) refl)

-- the numbers at n places of a row, from one on
abbrev pub standing : ℕ → ℕ → List ℕ → List ℕ
standing zero from row = []
standing (suc n) from row = get_or row from 0 ∷ standing n (suc from) row

-- Stored there again, they change nothing,
pub standing_stays : (n from : ℕ) (row : List ℕ) → sets row from (standing n from row) ≡ row
standing_stays zero from row = refl
standing_stays (suc n) from row =
    ap (λ (l : List ℕ). sets l (suc from) (standing n (suc from) row)) (set-get_or row from 0) ∙ standing_stays n (suc from) row

-- and no more does a part of the row.
pub stored_again : (n : ℕ) (row : List ℕ) (from : ℕ) → from + n ≤ length row → sets row from (take n (drop from row)) ≡ row
stored_again n row from room =
    let size = length-take-le n (drop from row) (rw length-drop (omega arith)) in
    sets-eq (take n (drop from row)) row from (rw size room) ∙ rw (size, ← take-add from n row) (take-append-drop (from + n) row)

-- ---- parts of a row

-- What is copied into a part of its own length is all that the part then holds.
pub whole_part : (from part : List ℕ) → length from ≡ length part → take (length from) from ++ drop (length from) part ≡ from
whole_part from part e = rw (take-length from, e, drop-length part, append-nil from)

-- A part that is put back changed is stored there.
pub put_stored : (row part : List ℕ) (at : ℕ) {n : ℕ} → length part ≡ n → at + n ≤ length row → put_mid at n row part ≡ sets row at part
put_stored row part at {n} size room =
    let laid = sets-eq part row at (omega arith) in rw (laid, size, append_assoc, drop-drop n at row)
