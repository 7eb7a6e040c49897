-- The invariant of the loop over blocks: to mark the blocks that are left from here on gives what marking all of them gives.
-- Assumes nothing.
use Rattle.std.proofs.Common.{◌≡◌, ℕ, suc, ◌+◌, ◌-◌, ◌%◌, ◌<◌, ◌≤◌, List, get_or, arith, eq-eqb, ne_eqb}
use Rattle.samples.specs.Fetched.{fetched, blocks}

-- `total` blocks: a number like any other here, so that none is written out.
module _ (total start : ℕ) (memory writes before : List ℕ) where
  -- where so many blocks are marked, none of them a last one, and the next is here
  pub record Stepping (map : List ℕ) (done at : ℕ) : Type 0 where
    pub within : at < 65536
    pub same : blocks (total - done) at memory writes map ≡ blocks total start memory writes before

  pub begun : start < 65536 → Stepping before 0 start
  begun h = record { within = h; same = let all : total - 0 ≡ total = omega arith in rw all }

  module _ {map : List ℕ} {done at : ℕ} (so : Stepping map done at) {after : List ℕ} (nine : after ≡ fetched 9 at writes map) where
    pub one_block : done < total → (get_or memory at 0 % 2 ≡ 1 → ⊥) → {next : ℕ} → next ≡ (at + 9) % 65536 → Stepping after (done + 1) next
    unfolding blocks
    one_block h other t = record {
      within = omega arith;
      same =
          let one : total - done ≡ suc (total - (done + 1)) = omega arith in
          rw (nine, t) (rw (one, ne_eqb _ _ other) at so.same);
    }

    pub last_met : done < total → get_or memory at 0 % 2 ≡ 1 → after ≡ blocks total start memory writes before
    unfolding blocks
    last_met h last =
        let one : total - done ≡ suc (total - (done + 1)) = omega arith in
        rw nine (rw (one, eq-eqb _ _ last) at so.same)

  pub none_left : {map : List ℕ} {done at : ℕ} → Stepping map done at → total ≤ done → map ≡ blocks total start memory writes before
  unfolding blocks
  none_left {done = done} so h = let none : total - done ≡ 0 = omega arith in rw none at so.same
