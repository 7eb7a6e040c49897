-- That document 01's count is the number of marked addresses, and that the three numbers of a count add up to it.
-- Assumes nothing.
use Rattle.std.specs.Prelude.{ℕ, suc, ◌+◌, ◌*◌, ◌/◌, ◌%◌, ◌^◌, ◌<◌, ◌≡◌, refl, List, [], ◌∷◌, eqb, length, IsOkAnd}
use Rattle.std.proofs.Common.{sym, ◌∙◌, arith, eq-eqb}
use Rattle.std.specs.Int.Count.{ones}
use Rattle.laws.specs.Bytes.{Bytes}
use Rattle.marks.specs.Maps.{is_marked}
use Rattle.marks.specs.Counts.{how_many, counts_of}
use Rattle.marks.specs.HowMany.{same_tests, apart, ones_are}
use Rattle.marks.specs.Sums.{marks_in, read_in_parts, stored_in_parts, Sums}

-- Document 01's count is the number of marked addresses: in a map of 8,192 bytes as many ones stand as addresses below 65,536 are marked.
pub marks_in_is : (map : List ℕ) → length map ≡ 8192 → Bytes map → marks_in map ≡ how_many 65536 (λ k. is_marked map k)
unfolding how_many marks_in
marks_in_is map size bytes = let all : 8 * length map ≡ 65536 = omega arith in rw all at (whole map bytes)
  where
    -- the eight addresses of the first byte, and the addresses after them
    here : (byte k : ℕ) (map : List ℕ) → k < 8 → eqb (byte / 2 ^ k % 2) 1 ≡ is_marked (byte ∷ map) k
    here byte k map h = let e : k / 8 ≡ 0 = omega arith in let f : k % 8 ≡ k = omega arith in rw (e, f)

    after : (byte k : ℕ) (map : List ℕ) → is_marked map k ≡ is_marked (byte ∷ map) (8 + k)
    after byte k map = let e : (8 + k) / 8 ≡ suc (k / 8) = omega arith in let f : (8 + k) % 8 ≡ k % 8 = omega arith in rw (e, f)

    whole : (map : List ℕ) → Bytes map → marks_in map ≡ how_many (8 * length map) (λ k. is_marked map k)
    whole [] h = refl
    whole (byte ∷ map) h =
        let first : ones byte ≡ how_many 8 (λ k. is_marked (byte ∷ map) k) =
        ones_are 8 byte (h 0) ∙ same_tests 8 _ _ (λ k q. here byte k map q) in
        let rest : marks_in map ≡ how_many (8 * length map) (λ k. is_marked (byte ∷ map) (8 + k)) =
        whole map (λ i. h (suc i)) ∙ same_tests (8 * length map) _ _ (λ k q. after byte k map) in
        let split : 8 * suc (length map) ≡ 8 + 8 * length map = omega arith in
        rw (split, apart 8 (8 * length map) (λ k. is_marked (byte ∷ map) k), first, rest)

-- So of two maps of 8,192 bytes, which are counted, the three numbers are these two counts.
pub sums : (reads writes : List ℕ) → length reads ≡ 8192 → length writes ≡ 8192 → Bytes reads → Bytes writes
    → IsOkAnd (counts_of reads writes) (Sums reads writes)
sums reads writes r w p q =
    rw (eq-eqb _ _ r, eq-eqb _ _ w)
    (record {
      read = read_in_parts reads writes ∙ sym (marks_in_is reads r p);
      stored = stored_in_parts reads writes ∙ sym (marks_in_is writes w q);
    })
