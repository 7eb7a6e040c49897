-- What the three numbers of a count add up to: document 01's count of each map. Below the theorems stand their proofs.
-- Assumes nothing.
use Rattle.std.specs.Prelude.{ℕ, ◌+◌, ◌≤◌, ◌≡◌, refl, Bool, true, false, cond, List, [], ◌∷◌}
use Rattle.std.proofs.Common.{arith}
use Rattle.std.specs.Int.Count.{ones}
use Rattle.marks.specs.Maps.{is_marked}
use Rattle.marks.specs.Counts.{how_many, read_only, stored_only, read_and_stored, addresses, three_counts}
use Rattle.marks.specs.HowMany.{in_parts, at_most}
use Rattle.marks.specs.declared.Counted.{Counted}

-- Document 01's count of the marks of one map: the ones of its bytes, summed. No function counts so any more.
unfoldable pub marks_in : List ℕ → ℕ
marks_in [] = 0
marks_in (byte ∷ map) = ones byte + marks_in map

-- Whatever the maps hold, the addresses that are read only and those that are both are those that the read map marks; likewise of the
-- written map.
module _ (reads writes : List ℕ) where
  pub read_in_parts : addresses read_only reads writes + addresses read_and_stored reads writes ≡ how_many 65536 (λ k. is_marked reads k)
  read_in_parts = in_parts 65536 _ _ _ (λ k. go (is_marked reads k) (is_marked writes k))
    where
      go : (r w : Bool) → cond (read_only r w) 1 0 + cond (read_and_stored r w) 1 0 ≡ cond r 1 0
      go true true = refl
      go true false = refl
      go false w = refl

  pub stored_in_parts : addresses stored_only reads writes + addresses read_and_stored reads writes ≡ how_many 65536 (λ k. is_marked writes k)
  stored_in_parts = in_parts 65536 _ _ _ (λ k. go (is_marked reads k) (is_marked writes k))
    where
      go : (r w : Bool) → cond (stored_only r w) 1 0 + cond (read_and_stored r w) 1 0 ≡ cond w 1 0
      go true true = refl
      go true false = refl
      go false true = refl
      go false false = refl

-- So neither sum passes the number of addresses, whatever the maps hold.
pub record Few (counted : Counted) : Type 0 where
  pub read : counted.read_only + counted.both ≤ 65536
  pub stored : counted.stored_only + counted.both ≤ 65536

pub few : (reads writes : List ℕ) → Few (three_counts reads writes)
few reads writes = record {
  read = omega (arith, read_in_parts reads writes, at_most 65536 (λ k. is_marked reads k));
  stored = omega (arith, stored_in_parts reads writes, at_most 65536 (λ k. is_marked writes k));
}

-- Of two maps that are not refused, read only plus both is 01's count of the read map, stored only plus both that of the written map.
pub record Sums (reads writes : List ℕ) (counted : Counted) : Type 0 where
  pub read : counted.read_only + counted.both ≡ marks_in reads
  pub stored : counted.stored_only + counted.both ≡ marks_in writes
