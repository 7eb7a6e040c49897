-- The look for a mark, one address of a stretch at a time.
-- Assumes nothing.
use Rattle.std.proofs.Common.{ℕ, zero, suc, ◌+◌, ◌-◌, ◌<◌, ◌≤◌, Bool, true, false, ◌||◌, ◌≡◌, refl, sym, arith}
use Rattle.std.specs.Prelude.{None}
use Rattle.differences.specs.declared.Stretch.{Stretch}
use Rattle.differences.specs.Stretches.{some_from, touches}
use Rattle.differences.specs.Calls.{marks_of}

-- Without a map nothing is touched.
pub no_map : (s : Stretch) → false ≡ touches (marks_of None) s
unfolding some_from
no_map s = sym (none s.first (suc s.last - s.first))
  where
    none : (at n : ℕ) → some_from (marks_of None) at n ≡ false
    none at zero = refl
    none at (suc n) = none (suc at) n

module _ (mark : ℕ → Bool) (s : Stretch) where
  -- From here on as much is touched as by the whole stretch.
  pub record Looking (at : ℕ) : Type 0 where
    pub same : some_from mark at (suc s.last - at) ≡ touches mark s

  pub look : Looking s.first
  look = record { same = refl }

  pub none_marked : {at : ℕ} → Looking at → s.last < at → false ≡ touches mark s
  unfolding some_from
  none_marked {at} l h = let none : suc s.last - at ≡ 0 = omega arith in rw none at l.same

  module _ {at : ℕ} (l : Looking at) where
    module _ (h : at ≤ s.last) where
      step : mark at || some_from mark (at + 1) (suc s.last - (at + 1)) ≡ touches mark s
      unfolding some_from
      step =
          let more : suc s.last - at ≡ suc (suc s.last - suc at) = omega arith in
          let one : at + 1 ≡ suc at = omega arith in
          rw one (rw more at l.same)

      pub a_mark : true ≡ mark at → true ≡ touches mark s
      a_mark e = rw (← e) at step

      pub not_marked : false ≡ mark at → Looking (at + 1)
      not_marked e = record { same = rw (← e) at step }

    pub last_not_marked : at ≤ s.last → s.last ≤ at → false ≡ mark at → false ≡ touches mark s
    last_not_marked h k e = none_marked (not_marked h e) (omega arith)
