-- The invariant of a loop over the timers: those below k are changed where a test of their numbers says so, and nothing else is.
-- Assumes nothing.
use Rattle.std.proofs.Common.{◌≡◌, ℕ, ◌+◌, ◌<◌, ◌≤◌, Bool, true, false, cond, List, length, set, refl, ap, ◌∙◌, add-one}
use Rattle.std.proofs.Math.Nat.{zero-div}
use Rattle.std.proofs.lemmas.List.{set-get_or}
use Rattle.devices.specs.declared.timer.Timer.{Timer}
use Rattle.devices.specs.declared.Devices.{Devices}
use Rattle.devices.specs.Devices.{bit, timer_at, numbered}
use Rattle.devices.proofs.Numbered.{below, one_more, all_done, numbered_none}

-- the same devices with another timer k
abbrev with_timer : Devices → ℕ → Timer → Devices
with_timer d k t = record d { timers = set d.timers k t }

module _ (first : ℕ) (test : ℕ → Bool) (change : ℕ → Timer → Timer) (d : Devices) where
  abbrev each : ℕ → Timer → Timer
  each j t = cond (test j) (change j t) t

  pub record Changing (now : Devices) (k : ℕ) : Type 0 where
    pub same : now ≡ record d { timers = below k first each d.timers }

  pub begun : Changing d 0
  begun = record { same = refl }

  module _ {now : Devices} {k : ℕ} (so : Changing now k) (h : k < length d.timers) {after : Devices} where
    one_done : after ≡ with_timer now k (each (first + k) (timer_at now k)) → Changing after (k + 1)
    one_done a = record {
      same = rw (a, so.same, add-one) (ap (λ ts. record d { timers = ts }) (one_more k first each d.timers _ h));
    }

    pub one_changed : {b : Bool} → b ≡ test (first + k) → b ≡ true → {t : Timer} → t ≡ change (first + k) (timer_at now k)
        → after ≡ with_timer now k t → Changing after (k + 1)
    one_changed e t f a = one_done (rw (← e, t, ← f) a)

    pub one_kept : {b : Bool} → b ≡ test (first + k) → b ≡ false → after ≡ now → Changing after (k + 1)
    one_kept e t a = one_done (rw (← e, t, set-get_or) a)

  pub all_changed : {now : Devices} {k : ℕ} → Changing now k → length d.timers ≤ k → now ≡ record d { timers = numbered first each d.timers }
  all_changed {k = k} so h = so.same ∙ ap (λ ts. record d { timers = ts }) (all_done k first each d.timers h)

  -- where no test passes
  pub none_changed : (ts : List Timer) → ((j : ℕ) → test j ≡ false) → numbered first each ts ≡ ts
  none_changed ts none = numbered_none first each ts (λ j t. rw (none j))

-- no bit of 0 is set
pub no_bit : (j : ℕ) → bit 0 j ≡ false
no_bit j = rw zero-div
