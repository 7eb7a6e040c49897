-- The stretches of a map are those at which two memories differ: zeros blanked with ones by the map, and ones. So all that is known of
-- differing addresses is known of marked ones.
-- Assumes nothing.
use Rattle.std.specs.Prelude.{ℕ, zero, suc, ◌+◌, ◌<◌, ◌≤◌, Bool, true, false, cond, not, ◌≡◌, refl, List, eqb, replicate}
use Rattle.std.proofs.Common.{sym, arith}
use Rattle.std.proofs.lemmas.List.{length-replicate, get_or-replicate}
use Rattle.marks.specs.Maps.{is_marked}
use Rattle.blanking.specs.Calls.{blanked_image}
use Rattle.blanking.specs.Image.{get_blanked}
use Rattle.differences.specs.Stretches.{stretches_from}
use Rattle.differences.specs.Calls.{differ, stretches_of}
use Rattle.surveyor.specs.Survey.{marked_stretches}

-- Tests that agree at each of n addresses, from one on, have the same stretches among them.
same_stretches : (one other : ℕ → Bool) (n at : ℕ) → ((k : ℕ) → at ≤ k → k < at + n → one k ≡ other k)
    → stretches_from one at n ≡ stretches_from other at n
unfolding stretches_from
same_stretches one other zero at agree = refl
same_stretches one other (suc n) at agree =
    rw (agree at (omega arith) (omega arith), same_stretches one other n (suc at) (λ k a b. agree k (omega arith) (omega arith)))

-- The memories, of so many bytes: a number like any other here, so that none is written out.
abbrev pub zeros : List ℕ → ℕ → List ℕ
zeros map n = blanked_image map 1 (replicate n 0)

abbrev pub ones : ℕ → List ℕ
ones n = replicate n 1

module _ (map : List ℕ) (n : ℕ) (all : n ≡ 65536) where
  -- Where the map marks an address, they differ; elsewhere they do not.
  pub differ_as_marked : (k : ℕ) → k < 65536 → differ (zeros map n) (ones n) k ≡ is_marked map k
  differ_as_marked k h =
      rw (
        get_blanked map 1 (replicate n 0) k (rw length-replicate (omega arith)),
        get_or-replicate {A = ℕ} n k 0 0 (omega arith),
        get_or-replicate {A = ℕ} n k 1 0 (omega arith),
      )
      (go (is_marked map k))
    where
      go : (b : Bool) → not (eqb (cond b 0 1) 1) ≡ b
      go true = refl
      go false = refl

  pub as_memories : marked_stretches map ≡ stretches_of (zeros map n) (ones n)
  as_memories = sym (same_stretches (differ (zeros map n) (ones n)) (is_marked map) 65536 0 (λ k a b. differ_as_marked k (omega arith)))
