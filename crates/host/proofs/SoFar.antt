-- The invariant of the loop of `play`: what is left to do from here gives what all of it gives from the start.
-- Assumes nothing.
use Prim.Native.Nat.{ℕ, suc, ◌+◌, ◌-◌, ◌<◌, ◌≤◌}
use mathlib.Core.Path.{◌≡◌, ap, sym, ◌∙◌}
use mathlib.Core.Bool.{true, false}
use native.Mathlib.Nat.{zero-add}
use native.Mathlib.Omega.{arith}
use lib.Dec.{ltb}
use borrow.Author.Tests.{ltb-true}
use Rattle.waking.specs.States.{is_awake}
use Rattle.editions.specs.declared.Edition.{Edition}
use Rattle.host.specs.Turn.{Playing, turn_of}
use Rattle.host.specs.Play.{goes_on, Progress, progress, play_of}
use Rattle.host.specs.Theorems.{at_rest, one_more}
use Rattle.host.specs.declared.Player.{Player}
use Rattle.host.proofs.And.{first_held}

-- Of a playing with a budget, from p, so much of the budget is left, and the steps so far gave q.
pub record SoFar (edition : Edition) (until budget : ℕ) (p : Playing) (left : ℕ) (q : Playing) : Type 0 where
  pub within : left ≤ budget
  pub is :
      let rest = play_of edition until left q in play_of edition until budget p ≡ progress rest.playing (rest.steps + (budget - left))

-- Where there is a step to take, the cycles are fewer than so many.
pub unspent : (until : ℕ) (player : Player) {most : ℕ} → goes_on until player ≡ true → until ≤ most → player.devices.cycles ≤ most
unspent until player goes h =
    let cycles = player.devices.cycles in
    omega (arith, ltb-true cycles until (first_held (ltb cycles until) (is_awake player.cpu.state) goes))

-- nothing is done yet
pub begun : {edition : Edition} {until budget : ℕ} {p : Playing} → SoFar edition until budget p budget p
begun {edition} {until} {budget} {p} =
    let rest = play_of edition until budget p in
    let none : rest.steps + (budget - budget) ≡ rest.steps = omega arith in
    record { within = omega arith; is = rw none }

module _ {edition : Edition} {until budget : ℕ} {p : Playing} {left : ℕ} {q : Playing} (sofar : SoFar edition until budget p left q) where
  -- one step more
  pub next : {after : Playing} → 0 < left → goes_on until q.player ≡ true → after ≡ turn_of edition q
      → SoFar edition until budget p (left - 1) after
  next more goes e =
      let rest = play_of edition until (left - 1) (turn_of edition q) in
      let one : left ≡ suc (left - 1) = omega arith in
      let steps : rest.steps + 1 + (budget - left) ≡ rest.steps + (budget - (left - 1)) = omega (arith, sofar.within) in record {
        within = omega (arith, sofar.within);
        is =
            rw (e, ← steps)
            (sofar.is
            ∙ ap (λ (o : Progress). progress o.playing (o.steps + (budget - left)))
            (ap (λ (n : ℕ). play_of edition until n q) one ∙ one_more edition until (left - 1) q goes));
      }

  -- nothing is left to do
  ended : play_of edition until left q ≡ progress q 0 → progress q (budget - left) ≡ play_of edition until budget p
  ended e = sym (rw (e, zero-add) at sofar.is)

  pub spent : left ≤ 0 → progress q (budget - left) ≡ play_of edition until budget p
  unfolding play_of
  spent none = let all : left ≡ 0 = omega arith in ended (rw all)

  pub resting : goes_on until q.player ≡ false → progress q (budget - left) ≡ play_of edition until budget p
  resting rest = ended (at_rest edition until left q rest)
