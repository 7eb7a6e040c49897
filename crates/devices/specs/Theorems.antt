-- What ticks do to a timer, one after the other, and how many there are in a step.
-- Assumes nothing.
use Rattle.std.specs.Prelude.{◌≡◌, ℕ, zero, suc, ◌+◌, ◌-◌, ◌/◌, ◌%◌, ◌<◌, ◌≤◌, Bool, true, false, cond, ◌==◌, ◌≢◌, refl}
use Rattle.std.proofs.Common.{ap, ◌∙◌, arith, eqb-true, eq-eqb, ne_eqb}
use Rattle.std.proofs.lemmas.Bool.{eqb-false}
use Rattle.devices.specs.declared.timer.Timer.{Timer}
use Rattle.devices.specs.Timers.{timer, ticked, ticks}
use Rattle.devices.specs.Devices.{ticked_between}

-- A timer that is off is as it was after any number of ticks.
pub off_stays : (t : Timer) → t.on ≡ false → (n : ℕ) → ticks n t ≡ t
unfolding ticked
off_stays t off zero = refl
off_stays t off (suc n) = ap ticked (off_stays t off n) ∙ rw off

-- The ticks that it takes to come to a target, from zero: 256 to a target of 0.
abbrev pub due : ℕ → ℕ
due target = cond (target == 0) 256 target

-- what is so of that number
record Due (target n : ℕ) : Type 0 where
  some : 1 ≤ n
  most : n ≤ 256
  same : n % 256 ≡ target

due_is : (target : ℕ) → target < 256 → Due target (due target)
due_is target h = go (target == 0) refl
  where
    go : (b : Bool) → (target == 0) ≡ b → Due target (cond b 256 target)
    go true e = let zero-target = eqb-true target 0 e in record { some = omega arith; most = omega arith; same = omega arith }
    go false e = let other = eqb-false target 0 e in record { some = omega arith; most = omega arith; same = omega arith }

-- a tick of a timer that is on, before its target and at it
counts : (target n count : ℕ) → n < 255 → (n + 1 ≢ target) → ticked (timer true target n count) ≡ timer true target (suc n) count
unfolding ticked
counts target n count h other =
    let next : (n + 1) % 256 ≡ suc n = omega arith in rw (next, ne_eqb (suc n) target (λ e. other (omega arith)))

rises : (target n count : ℕ) → (n + 1) % 256 ≡ target → ticked (timer true target n count) ≡ timer true target 0 ((count + 1) % 16)
unfolding ticked
rises target n count e = rw (eq-eqb ((n + 1) % 256) target e)

module _ (t : Timer) (on : t.on ≡ true) (fresh : t.ticks ≡ 0) (small : t.target < 256) where
  counted : (n : ℕ) → n < due t.target → ticks n t ≡ timer true t.target n t.count
  counted zero h = rw (← on, ← fresh)
  counted (suc n) h =
      let d = due_is t.target small in
      ap ticked (counted n (omega arith)) ∙ counts t.target n t.count (omega arith) (λ e. omega arith)

  last : (n : ℕ) → n ≡ due t.target → ticks n t ≡ timer true t.target 0 ((t.count + 1) % 16)
  last zero e = let d = due_is t.target small in absurd (omega arith)
  last (suc n) e =
      let d = due_is t.target small in
      ap ticked (counted n (omega arith)) ∙ rises t.target n t.count (omega arith)

  -- A timer that is on and whose ticks are zero, as after it was switched on or after its counter went up: after n ticks, fewer than it
  -- takes to come to its target, its ticks are n and its counter is the same. With the last of them its ticks are zero again, and its
  -- counter is one higher, modulo 16.
  pub rises_after_target :
      ((n : ℕ) → n < due t.target → ticks n t ≡ timer true t.target n t.count)
      × (ticks (due t.target) t ≡ timer true t.target 0 ((t.count + 1) % 16))
  rises_after_target = (counted, last (due t.target) refl)

-- In at most 15 cycles one multiple of 16 is reached at most, and one of 128.
pub one_tick_at_most : (c n : ℕ) → n ≤ 15 → ((c + n) / 16 ≤ c / 16 + 1) × ((c + n) / 128 ≤ c / 128 + 1)
one_tick_at_most c n h = (omega arith, omega arith)

-- two quotients that differ by one at most: the choice by whether they are equal is as many ticks as they differ by
reached : (a b : ℕ) (t : Timer) → a ≤ b → b ≤ a + 1 → cond (a == b) t (ticked t) ≡ ticks (b - a) t
reached a b t h k = go (a == b) refl
  where
    go : (same : Bool) → (a == b) ≡ same → cond same t (ticked t) ≡ ticks (b - a) t
    go true e = let none : b - a ≡ 0 = omega (arith, eqb-true a b e) in rw none
    go false e = let one : b - a ≡ 1 = omega (arith, eqb-false a b e) in rw one

-- So the one tick of `ticked_between`, or none, is a tick for each multiple that is reached.
pub ticks_reached : (c n : ℕ) (t : Timer) → n ≤ 15 →
    (ticked_between 16 c (c + n) t ≡ ticks ((c + n) / 16 - c / 16) t)
    × (ticked_between 128 c (c + n) t ≡ ticks ((c + n) / 128 - c / 128) t)
ticks_reached c n t h =
    let most = one_tick_at_most c n h in
    (reached (c / 16) ((c + n) / 16) t (omega arith) most.0, reached (c / 128) ((c + n) / 128) t (omega arith) most.1)
