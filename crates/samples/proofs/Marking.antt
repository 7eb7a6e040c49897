-- The invariant of the loop that marks addresses: to mark what is left from here on gives what marking all of it gives.
-- Assumes nothing.
use Rattle.std.proofs.Common.{◌≡◌, ℕ, suc, ◌+◌, ◌-◌, ◌%◌, ◌<◌, ◌≤◌, List, arith}
use Rattle.marks.specs.Maps.{marked_unless}
use Rattle.samples.specs.Fetched.{fetched}

module _ (n at : ℕ) (writes before : List ℕ) where
  -- where the first `place` addresses are marked
  pub record Marking (map : List ℕ) (place : ℕ) : Type 0 where
    pub same : fetched (n - place) ((at + place) % 65536) writes map ≡ fetched n at writes before

  pub begun : at < 65536 → Marking before 0
  begun h = record { same = let all : n - 0 ≡ n = omega arith in let first : (at + 0) % 65536 ≡ at = omega arith in rw (all, first) }

  module _ {map : List ℕ} {place : ℕ} (so : Marking map place) where
    pub one_marked : place < n → {after : List ℕ} → after ≡ marked_unless map writes ((at + place) % 65536) → Marking after (place + 1)
    unfolding fetched
    one_marked h e = record {
      same =
          let one : n - place ≡ suc (n - (place + 1)) = omega arith in
          let next : (at + (place + 1)) % 65536 ≡ ((at + place) % 65536 + 1) % 65536 = omega arith in
          rw (e, next) (rw one at so.same);
    }

    pub all_marked : n ≤ place → map ≡ fetched n at writes before
    unfolding fetched
    all_marked h = let none : n - place ≡ 0 = omega arith in rw none at so.same
