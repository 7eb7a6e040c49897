-- One count over both maps: how many addresses are marked as read only, as stored to only, and as both.
use Rattle.std.specs.Prelude.{ℕ, zero, suc, ◌+◌, Bool, ◌&&◌, cond, not, List, eqb, length, Result, Ok, Err}
use Rattle.marks.specs.Maps.{is_marked}
use Rattle.refusals.specs.declared.Refusal.{Refusal}
use Rattle.refusals.specs.declared.Refusal.TheVariants.{Map}
use Rattle.marks.specs.declared.Counted.{Counted}

-- How many numbers below n pass a test.
unfoldable pub how_many : ℕ → (ℕ → Bool) → ℕ
how_many zero test = 0
how_many (suc n) test = cond (test n) 1 0 + how_many n test

-- The three ways in which an address can be marked: in the read map alone, in the written map alone, in both.
abbrev pub read_only : Bool → Bool → Bool
read_only read stored = read && not stored

abbrev pub stored_only : Bool → Bool → Bool
stored_only read stored = stored && not read

abbrev pub read_and_stored : Bool → Bool → Bool
read_and_stored read stored = read && stored

-- Whether the two maps mark an address so.
abbrev pub marked_so : (Bool → Bool → Bool) → List ℕ → List ℕ → ℕ → Bool
marked_so so reads writes k = so (is_marked reads k) (is_marked writes k)

-- How many of the 65,536 addresses they mark so.
abbrev pub addresses : (Bool → Bool → Bool) → List ℕ → List ℕ → ℕ
addresses so reads writes = how_many 65536 (marked_so so reads writes)

-- The three numbers.
abbrev pub three_counts : List ℕ → List ℕ → Counted
three_counts reads writes = record {
  read_only = addresses read_only reads writes;
  stored_only = addresses stored_only reads writes;
  both = addresses read_and_stored reads writes;
}

-- Refused exactly if either map is not 8,192 bytes.
abbrev pub counts_of : List ℕ → List ℕ → Result Counted Refusal
counts_of reads writes = cond (eqb (length reads) 8192 && eqb (length writes) 8192) (Ok (three_counts reads writes)) (Err Map)
