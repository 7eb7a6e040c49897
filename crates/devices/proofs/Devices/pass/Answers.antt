-- Where no multiple of 16 is reached, none of 128 is; and the three timers are ticked by themselves.
-- Assumes nothing.
use Rattle.std.proofs.Common.{◌≡◌, ℕ, ◌/◌, false, cond, List, [], ◌∷◌, length, get_or, set, arith, eqb, eq-eqb, ne_eqb}
use Rattle.devices.specs.declared.timer.Timer.{Timer}
use Rattle.devices.specs.Timers.{timer, ticked}
use Rattle.devices.specs.Devices.{numbered, ticked_between, passed}
use Rattle.devices.proofs.Devices.pass.Goals as goal

-- timer k ticked, in a row of them
abbrev tick_one : ℕ → List Timer → List Timer
tick_one k ts = set ts k (ticked (get_or ts k (timer false 0 0 0)))

-- what holds of any three timers holds of a row of three
of_three : (P : List Timer → Type 0) → ((a b c : Timer) → P (a ∷ b ∷ c ∷ [])) → (ts : List Timer) → length ts ≡ 3 → P ts
of_three P p (a ∷ b ∷ c ∷ []) h = p a b c
of_three P p [] h = absurd (omega arith)
of_three P p (a ∷ []) h = absurd (omega arith)
of_three P p (a ∷ b ∷ []) h = absurd (omega arith)
of_three P p (a ∷ b ∷ c ∷ d ∷ ts) h = absurd (omega arith)

-- between two cycles
module _ (before after : ℕ) where
  abbrev all : List Timer → List Timer
  all ts = numbered 0 (λ k t. ticked_between (cond (eqb k 2) 16 128) before after t) ts

  none : before / 16 ≡ after / 16 → (ts : List Timer) → length ts ≡ 3 → ts ≡ all ts
  none e =
      let slow : before / 128 ≡ after / 128 = omega (arith, e) in
      of_three (λ ts. ts ≡ all ts) (λ a b c. rw (eq-eqb _ _ e, eq-eqb _ _ slow))

  fast : (before / 16 ≡ after / 16 → ⊥) → before / 128 ≡ after / 128 → (ts : List Timer) → length ts ≡ 3 → tick_one 2 ts ≡ all ts
  fast e f = of_three (λ ts. tick_one 2 ts ≡ all ts) (λ a b c. rw (ne_eqb _ _ e, eq-eqb _ _ f))

  each : (before / 16 ≡ after / 16 → ⊥) → (before / 128 ≡ after / 128 → ⊥) → (ts : List Timer) → length ts ≡ 3
      → tick_one 1 (tick_one 0 (tick_one 2 ts)) ≡ all ts
  each e f = of_three (λ ts. tick_one 1 (tick_one 0 (tick_one 2 ts)) ≡ all ts) (λ a b c. rw (ne_eqb _ _ e, ne_eqb _ _ f))

pub returns-then-before-self : goal.returns-then-before-self
unfolding passed
returns-then-before-self c = rw (← none _ _ c.if-before-self.true c.args.self.timers (omega arith))

pub returns-then-before-self-2 : goal.returns-then-before-self-2
unfolding passed
returns-then-before-self-2 c = rw (
  ← each _ _ c.if-before-self.false c.if-before-self-2.true c.args.self.timers (omega arith),
  c.tick-then-before-self-2-2.ensures,
  c.tick-then-before-self-2.ensures,
  c.tick.ensures,
)

pub returns-else-before-self-2 : goal.returns-else-before-self-2
unfolding passed
returns-else-before-self-2 c = rw (← fast _ _ c.if-before-self.false c.if-before-self-2.false c.args.self.timers (omega arith), c.tick.ensures)
