-- The count, one stretch at a time: together with the stretches that are left it is that of all, and likewise what was touched.
-- Assumes nothing.
use Rattle.std.proofs.Common.{ℕ, ◌+◌, ◌≤◌, Bool, false, ◌||◌, ◌≡◌, refl, List, [], ◌∷◌, length, zero-add, add-zero, Fits, w32, arith}
use Rattle.std.proofs.Math.Bool.{or-false, or_assoc}
use Rattle.differences.specs.declared.Stretch.{Stretch}
use Rattle.differences.specs.Stretches.{touches, touched}
use Rattle.differences.specs.Calls.{accepted}
use Rattle.differences.specs.declared.Differences.{Differences}

module _ (mark : ℕ → Bool) (all : List Stretch) where
  pub record Counting (found : Differences) (left : List Stretch) : Type 0 where
    pub counted : found.stretches + length left ≡ length all
    pub touch : found.touched || touched mark left ≡ touched mark all

  pub begin_count : Counting (record { stretches = 0; touched = false }) all
  begin_count = record { counted = zero-add _; touch = refl }

  module _ {found : Differences} {left : List Stretch} (c : Counting found left) where
    pub all_counted : left ≡ [] → found ≡ accepted all mark
    unfolding touched
    all_counted none = let c = rw none at c in rw (← c.counted, ← c.touch, add-zero, or-false)

    module _ {s : Stretch} {rest : List Stretch} (one : left ≡ s ∷ rest) where
      pub countable : length all ≤ 32768 → Fits w32 (found.stretches + 1)
      countable few = let c = rw one at c in omega (arith, c.counted)

      -- Where something was touched before, it stays so; else the stretch decides.
      pub one_counted : {now : Bool} → now ≡ found.touched || touches mark s
          → Counting (record { stretches = found.stretches + 1; touched = now }) rest
      unfolding touched
      one_counted e =
          let c = rw one at c in
          record { counted = omega (arith, c.counted); touch = rw (e, or_assoc) c.touch }
