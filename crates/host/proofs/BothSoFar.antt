-- The invariant of the loop of `play_both`: what is left to do from here gives what all of it gives from the start.
-- Assumes nothing.
use Prim.Native.Nat.{ℕ, suc, ◌+◌, ◌-◌, ◌<◌, ◌≤◌}
use mathlib.Core.Path.{◌≡◌, ap, sym, ◌∙◌}
use mathlib.Core.Bool.{Bool, true, false, and-false}
use native.Mathlib.Nat.{zero-add}
use native.Mathlib.Omega.{arith}
use Rattle.editions.specs.declared.Edition.{Edition}
use Rattle.host.specs.Turn.{Playing, turn_of}
use Rattle.host.specs.Play.{goes_on}
use Rattle.host.specs.Beside.{are_alike, Pair, pair, beside_of}
use Rattle.host.specs.Theorems.{both_go, no_budget, parted, together}

-- what two playings have come to, with so many steps more
abbrev with_steps : Pair → ℕ → Pair
with_steps b n = record { first = b.first; second = b.second; steps = b.steps + n; alike = b.alike }

-- Of two playings with a budget, from p and q, so much of the budget is left, and the steps so far gave these two, alike or not.
pub record BothSoFar
    (edition : Edition) (until budget : ℕ) (p q : Playing) (left : ℕ) (first second : Playing) (alike : Bool) : Type 0 where
  pub within : left ≤ budget
  pub told : alike ≡ are_alike first second
  pub is : beside_of edition until budget p q ≡ with_steps (beside_of edition until left first second) (budget - left)

-- nothing is done yet
pub begun : {edition : Edition} {until budget : ℕ} {p q : Playing} {alike : Bool} → alike ≡ are_alike p q
    → BothSoFar edition until budget p q budget p q alike
begun {edition} {until} {budget} {p} {q} told =
    let rest = beside_of edition until budget p q in
    let none : rest.steps + (budget - budget) ≡ rest.steps = omega arith in
    record { within = omega arith; told = told; is = rw none }

module _ {edition : Edition} {until budget : ℕ} {p q : Playing} {left : ℕ} {first second : Playing} {alike : Bool}
    (sofar : BothSoFar edition until budget p q left first second alike) where
  -- one step more of each
  pub next : {after after₂ : Playing} {so : Bool} → 0 < left → alike ≡ true → goes_on until first.player ≡ true
      → goes_on until second.player ≡ true → after ≡ turn_of edition first → after₂ ≡ turn_of edition second → so ≡ are_alike after after₂
      → BothSoFar edition until budget p q (left - 1) after after₂ so
  next more t goes goes₂ e e₂ told =
      let rest = beside_of edition until (left - 1) (turn_of edition first) (turn_of edition second) in
      let less : left ≡ suc (left - 1) = omega arith in
      let go : both_go edition until first second ≡ true = rw (← sofar.told, t, goes, goes₂) in
      let steps : rest.steps + 1 + (budget - left) ≡ rest.steps + (budget - (left - 1)) = omega (arith, sofar.within) in record {
        within = omega (arith, sofar.within);
        told = told;
        is =
            rw (e, e₂, ← steps)
            (sofar.is
            ∙ ap (λ (b : Pair). with_steps b (budget - left))
            (ap (λ (n : ℕ). beside_of edition until n first second) less ∙ together edition until (left - 1) first second go));
      }

  -- what is answered, where nothing is left to do
  abbrev answer : Pair
  answer = record { first = first; second = second; steps = budget - left; alike = alike }

  ended : beside_of edition until left first second ≡ pair first second 0 → answer ≡ beside_of edition until budget p q
  ended e = rw sofar.told (sym (rw (e, zero-add) at sofar.is))

  pub spent : left ≤ 0 → answer ≡ beside_of edition until budget p q
  spent none = let all : left ≡ 0 = omega arith in ended (rw all (no_budget edition until first second))

  -- they are not alike, or one of them has no step to take
  stopped : both_go edition until first second ≡ false → answer ≡ beside_of edition until budget p q
  stopped stop = ended (parted edition until left first second stop)

  pub unlike : alike ≡ false → answer ≡ beside_of edition until budget p q
  unlike t = stopped (rw (← sofar.told, t))

  pub first_rests : goes_on until first.player ≡ false → answer ≡ beside_of edition until budget p q
  first_rests rest = stopped (rw (rest, and-false (are_alike first second)))

  pub second_rests : goes_on until second.player ≡ false → answer ≡ beside_of edition until budget p q
  second_rests rest = stopped (rw (rest, and-false _))
