-- One byte of each map more: where some byte has the bits that these two have in one way, alone or in common, its ones are how many of
-- their addresses are marked in that way.
-- Assumes nothing.
use Prim.Native.Nat.{ℕ, ◌+◌, ◌-◌, ◌*◌, ◌/◌, ◌%◌, ◌^◌, ◌<◌, ◌≤◌}
use mathlib.Core.Path.{◌≡◌, refl, sym, ◌∙◌}
use mathlib.Core.Bool.{Bool, ◌&&◌, not}
use mathlib.Core.List.{List}
use native.Mathlib.Omega.{arith}
use lib.Bits.{bit_and, and_shr, and_mod, and_lt, and_le_l}
use lib.Count.{ones, ones-le}
use lib.Dec.{eqb}
use lib.ListN.{length, get_or}
use mir.Syntax.{w32}
use mir.Val.{Fits}
use Rattle.laws.specs.Table.{same_grid}
use Rattle.marks.specs.Maps.{is_marked}
use Rattle.marks.specs.Counts.{how_many, read_only, stored_only, read_and_stored, marked_so}
use Rattle.marks.specs.declared.Counted.{Counted}
use Rattle.marks.specs.HowMany.{same_tests, apart, at_most, ones_are}

-- ---- bits of a byte

-- whether bit j of a number is set
abbrev bit : ℕ → ℕ → Bool
bit n j = eqb (n / 2 ^ j % 2) 1

and_bit : (a b j : ℕ) → bit (bit_and a b) j ≡ (bit a j && bit b j)
and_bit a b j =
    rw (and_shr, and_mod (a / 2 ^ j) (b / 2 ^ j) 1)
    (same_grid 2 2 (λ x y. eqb (bit_and x y) 1) (λ x y. eqb x 1 && eqb y 1) refl (a / 2 ^ j % 2) (b / 2 ^ j % 2) (omega arith) (omega arith))

not_bit : (a j : ℕ) → a < 256 → j < 8 → bit (255 - a) j ≡ not (bit a j)
not_bit = same_grid 256 8 (λ a j. bit (255 - a) j) (λ a j. not (bit a j)) refl

-- what a number has and a byte lacks
alone : (a b j : ℕ) → b < 256 → j < 8 → bit (bit_and a (255 - b)) j ≡ (bit a j && not (bit b j))
alone a b j h q = rw (and_bit, not_bit b j h q)

-- the eight addresses of byte i
bit_at : (map : List ℕ) (i j : ℕ) → j < 8 → is_marked map (8 * i + j) ≡ bit (get_or map i 0) j
bit_at map i j h =
    let e : (8 * i + j) / 8 ≡ i = omega arith in
    let f : (8 * i + j) % 8 ≡ j = omega arith in
    rw (e, f)

-- ---- one byte more

-- the number of addresses below 8 i that the two maps mark so
abbrev up_to : (Bool → Bool → Bool) → List ℕ → List ℕ → ℕ → ℕ
up_to so reads writes i = how_many (8 * i) (marked_so so reads writes)

-- ---- the loop's invariant

-- After i bytes of each map the three sums are the numbers of addresses in these bytes.
pub record SoFar (reads writes : List ℕ) (counted : Counted) (i : ℕ) : Type 0 where
  pub within : i ≤ length reads
  pub read_only : counted.read_only ≡ up_to read_only reads writes i
  pub stored_only : counted.stored_only ≡ up_to stored_only reads writes i
  pub both : counted.both ≡ up_to read_and_stored reads writes i

-- A turn has byte i of each map.
pub record Turn (reads writes : List ℕ) (i read stored : ℕ) : Type 0 where
  pub within : i < length reads
  pub of_reads : read ≡ get_or reads i 0
  pub of_writes : stored ≡ get_or writes i 0
  pub read_fits : read < 256
  pub stored_fits : stored < 256

module _ (reads writes : List ℕ) where
  pub at_first : {c : Counted} → c.read_only ≡ 0 → c.stored_only ≡ 0 → c.both ≡ 0 → SoFar reads writes c 0
  unfolding how_many
  at_first r w b = record { within = omega arith; read_only = r; stored_only = w; both = b }

  module _ {i read stored : ℕ} (turn : Turn reads writes i read stored) where
    -- Such a sum is small, and so it fits also with the ones more that a byte shares with any number.
    pub room : (so : Bool → Bool → Bool) {sum x : ℕ} (y : ℕ) → sum ≡ up_to so reads writes i → length reads ≡ 8192 → x < 256
        → Fits w32 (sum + ones (bit_and x y))
    room so {x = x} y e size h =
        let few = ones-le 8 (bit_and x y) (omega (arith, and_le_l x y)) in
        omega (arith, at_most (8 * i) (marked_so so reads writes), turn.within)

    -- Where a byte has the bits that the turn's two have so, its ones are what a sum up to there lacks.
    byte_more : (so : Bool → Bool → Bool) {sum x : ℕ} → sum ≡ up_to so reads writes i → x < 256
        → ((j : ℕ) → j < 8 → bit x j ≡ so (bit read j) (bit stored j)) → sum + ones x ≡ up_to so reads writes (i + 1)
    byte_more so {x = x} e fits bits =
        let next : 8 * (i + 1) ≡ 8 * i + 8 = omega arith in
        let here : (j : ℕ) → j < 8 → bit x j ≡ marked_so so reads writes (8 * i + j) =
        λ j h. bits j h ∙ rw (bit_at reads i j h, bit_at writes i j h, turn.of_reads, turn.of_writes) in
        let eight : ones x ≡ how_many 8 (λ j. marked_so so reads writes (8 * i + j)) = ones_are 8 x fits ∙ same_tests 8 _ _ here in
        rw (e, next, eight) (sym (apart (8 * i) 8 (marked_so so reads writes)))

    pub one_more : {c : Counted} → SoFar reads writes c i
        → SoFar reads writes (record {
          read_only = c.read_only + ones (bit_and read (255 - stored));
          stored_only = c.stored_only + ones (bit_and stored (255 - read));
          both = c.both + ones (bit_and read stored);
        }) (i + 1)
    one_more so = record {
      within = omega (arith, turn.within);
      read_only = byte_more read_only so.read_only (and_lt 8 _ _ turn.read_fits (omega arith)) (λ j. alone _ _ j turn.stored_fits);
      stored_only = byte_more stored_only so.stored_only (and_lt 8 _ _ turn.stored_fits (omega arith)) (λ j. alone _ _ j turn.read_fits);
      both = byte_more read_and_stored so.both (and_lt 8 _ _ turn.read_fits turn.stored_fits) (λ j h. and_bit _ _ j);
    }
