-- A map is told by its marks. The map of one bit of the cells marks the addresses whose cells have that bit. To mark an address marks it,
-- and no other.
-- Assumes nothing.
use Rattle.std.proofs.Common.{◌≡◌, ◌≢◌, ℕ, zero, suc, ◌+◌, ◌-◌, ◌*◌, ◌/◌, ◌%◌, ◌^◌, ◌<◌, Bool, true, false, cond, List, eqb, length, get_or, refl, sym, ◌∙◌, arith, eq-eqb, ne_eqb}
use Rattle.std.proofs.Math.Decide.{ℕ_discrete}
use Rattle.std.proofs.Math.Seq.{ext_get_or}
use Rattle.std.specs.Int.{bit_at}
use Rattle.std.proofs.lemmas.Nat.Bits.{same_from_bits_below, bit_at_lowest, bit_at_cat_low, bit_at_cat_high}
use Rattle.laws.specs.Bytes.{Bytes}
use Rattle.marks.specs.Maps.{is_marked, marked, marked_unless}
use Rattle.marks.proofs.Laws.{marked_is, length_marked, bytes_marked}
use Rattle.cells.specs.Cells.{mark_of, marks_of, eight_of, values}
use Rattle.cells.proofs.Values.{length_values, value_at, values_below}

-- ---- a map is told by its marks

-- Two bits that pass the test of a mark alike are one bit.
same_bit : (x y : ℕ) → x < 2 → y < 2 → eqb x 1 ≡ eqb y 1 → x ≡ y
same_bit x y g h e = by_test x g ∙ rw e (sym (by_test y h))
  where
    by_test : (x : ℕ) → x < 2 → x ≡ cond (eqb x 1) 1 0
    by_test zero h = refl
    by_test (suc zero) h = refl
    by_test (suc (suc x)) h = absurd (omega arith)

-- Two maps of 8,192 bytes that mark the same addresses are one map.
pub same_map : (m n : List ℕ) → length m ≡ 8192 → length n ≡ 8192 → Bytes m → Bytes n
    → ((k : ℕ) → k < 65536 → is_marked m k ≡ is_marked n k) → m ≡ n
same_map m n s t p q e = ext_get_or 0 m n (s ∙ sym t) (λ i h. same_from_bits_below 8 _ _ (p i) (q i) (λ j g. bits i j (omega arith) g))
  where
    bits : (i j : ℕ) → i < 8192 → j < 8 → get_or m i 0 / 2 ^ j % 2 ≡ get_or n i 0 / 2 ^ j % 2
    bits i j h g =
        let which : (i * 8 + j) / 8 ≡ i = omega arith in
        let place : (i * 8 + j) % 8 ≡ j = omega arith in
        same_bit _ _ (omega arith) (omega arith) (rw (which, place) at (e (i * 8 + j) (omega arith)))

-- ---- the map of one bit of the cells

module _ (bit : ℕ) (cells : List ℕ) where
  -- n marks are a number of n bits,
  pub marks_small : (at n : ℕ) → marks_of bit cells at n < 2 ^ n
  marks_small at zero = omega arith
  marks_small at (suc n) = let mark : mark_of bit cells (at + n) < 2 = omega arith in room (mark_of bit cells (at + n)) mark (marks_small at n)
    where
      room : (mark : ℕ) {marks : ℕ} → mark < 2 → marks < 2 ^ n → mark * 2 ^ n + marks < 2 ^ suc n
      room zero h g = omega arith
      room (suc zero) h g = omega arith
      room (suc (suc mark)) h g = absurd (omega arith)

  -- whose bits they are.
  bit_of_marks : (at n j : ℕ) → j < n → bit_at (marks_of bit cells at n) j ≡ mark_of bit cells (at + j)
  bit_of_marks at zero j h = absurd (omega arith)
  bit_of_marks at (suc n) j h = go (ℕ_discrete j n) (λ (below : j < n). bit_of_marks at n j below)
    where
      go : Dec (j ≡ n) → (j < n → bit_at (marks_of bit cells at n) j ≡ mark_of bit cells (at + j))
          → bit_at (marks_of bit cells at (suc n)) j ≡ mark_of bit cells (at + j)
      go (yes e) below =
          let first : bit_at (mark_of bit cells (at + n)) (n - n) ≡ mark_of bit cells (at + n) =
          let none : n - n ≡ 0 = omega arith in rw (none, bit_at_lowest (mark_of bit cells (at + n))) (omega arith) in
          rw e (bit_at_cat_high (mark_of bit cells (at + n)) n (marks_of bit cells at n) n (marks_small at n) (omega arith) ∙ first)
      go (no other) below =
          bit_at_cat_low (mark_of bit cells (at + n)) n (marks_of bit cells at n) j (omega arith) ∙ below (omega arith)

  -- The map marks an address where the cell has the bit.
  pub map_marks : (k : ℕ) → k < 65536 → is_marked (values 8192 (eight_of bit cells)) k ≡ eqb (mark_of bit cells k) 1
  map_marks k h =
      let whole : k / 8 * 8 + k % 8 ≡ k = omega arith in
      let mark = bit_of_marks (k / 8 * 8) 8 (k % 8) (omega arith) in
      rw (value_at 8192 (eight_of bit cells) (k / 8) (omega arith), mark, whole)

  -- It is a map of bytes.
  pub map_bytes : Bytes (values 8192 (eight_of bit cells))
  map_bytes = values_below 8192 (eight_of bit cells) 256 (omega arith) (λ i. marks_small (i * 8) 8)

  -- So a map of bytes that marks those addresses is that map.
  pub map_is : (map : List ℕ) → length map ≡ 8192 → Bytes map → ((k : ℕ) → k < 65536 → eqb (mark_of bit cells k) 1 ≡ is_marked map k)
      → values 8192 (eight_of bit cells) ≡ map
  map_is map size bytes e =
      same_map _ map (length_values 8192 (eight_of bit cells)) size map_bytes bytes (λ k h. map_marks k h ∙ e k h)

-- ---- one address more marked

module _ (m : List ℕ) (size : length m ≡ 8192) (a : ℕ) where
  -- To mark an address marks it,
  pub marked_here : a < 65536 → is_marked (marked m a) a ≡ true
  marked_here h = marked_is m a a size h ∙ rw (eq-eqb a a refl)

  -- and every other mark stays as it is.
  pub marked_elsewhere : (k : ℕ) → k < 65536 → k ≢ a → is_marked (marked m a) k ≡ is_marked m k
  marked_elsewhere k h other = marked_is m a k size h ∙ rw (ne_eqb a k (λ e. other (sym e)))

  module _ (other : List ℕ) where
    -- So it is unless another map marks the address, and then nothing changes.
    pub unless_here : a < 65536 → is_marked (marked_unless m other a) a ≡ cond (is_marked other a) (is_marked m a) true
    unless_here h = go (is_marked other a)
      where
        go : (b : Bool) → is_marked (cond b m (marked m a)) a ≡ cond b (is_marked m a) true
        go true = refl
        go false = marked_here h

    pub unless_elsewhere : (k : ℕ) → k < 65536 → k ≢ a → is_marked (marked_unless m other a) k ≡ is_marked m k
    unless_elsewhere k h q = go (is_marked other a)
      where
        go : (b : Bool) → is_marked (cond b m (marked m a)) k ≡ is_marked m k
        go true = refl
        go false = marked_elsewhere k h q

    pub unless_length : length (marked_unless m other a) ≡ 8192
    unless_length = go (is_marked other a)
      where
        go : (b : Bool) → length (cond b m (marked m a)) ≡ 8192
        go true = size
        go false = length_marked m a ∙ size

    pub unless_bytes : Bytes m → Bytes (marked_unless m other a)
    unless_bytes bytes = go (is_marked other a)
      where
        go : (b : Bool) → Bytes (cond b m (marked m a))
        go true = bytes
        go false = bytes_marked m a bytes
