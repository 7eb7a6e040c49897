-- Runs in parts, one turn more as a loop takes it, and what carries over from a turn to a run.
-- Assumes nothing.
use Prim.Native.Nat.{ℕ, zero, suc, ◌+◌, ◌-◌, ◌≤◌}
use mathlib.Core.Path.{◌≡◌, refl, ap, sym, ◌∙◌}
use mathlib.Core.Bool.{Bool, true, false, true≢false}
use native.Mathlib.Nat.{zero-add, suc-add, add-zero, add_assoc}
use native.Mathlib.Omega.{arith}
use Rattle.memory.specs.Access.{Outcome}
use Rattle.runs.specs.Run.{Progress, rested, joined, run}

module _ {Regs W : Type 0} (turn : Regs → W → Outcome W (Progress Regs)) where
  -- a run of n from what was done
  abbrev pub resumed : ℕ → Outcome W (Progress Regs) → Outcome W (Progress Regs)
  resumed n o = joined o (run turn n o.result.regs o.left)

  -- A run of m, and then one of n, is a run of m + n.
  pub in_parts : (m n : ℕ) (r : Regs) (w : W) → run turn (m + n) r w ≡ resumed n (run turn m r w)
  unfolding run
  in_parts zero n r w = simp zero-add
  in_parts (suc m) n r w =
      let o = turn r w in rw suc-add (ap (joined o) (in_parts m n o.result.regs o.left) ∙ rw add_assoc)

  -- A run of budget 1 is one turn.
  pub run_one : (r : Regs) (w : W) → run turn 1 r w ≡ turn r w
  unfolding run
  run_one r w = rw add-zero

  -- Where a turn does nothing, a run of any budget does nothing.
  pub run_rests : (r : Regs) (w : W) → turn r w ≡ rested r w → (n : ℕ) → run turn n r w ≡ rested r w
  unfolding run
  run_rests r w e zero = refl
  run_rests r w e (suc n) = rw (e, run_rests r w e n)

  -- one turn more
  pub run_next : (m : ℕ) (r : Regs) (w : W) (o q : Outcome W (Progress Regs))
      → run turn m r w ≡ o → q ≡ turn o.result.regs o.left → run turn (m + 1) r w ≡ joined o q
  run_next m r w o q e f = in_parts m 1 r w ∙ rw (e, run_one, f)

  -- A larger budget changes nothing where a turn from what was done does nothing.
  pub run_ended : (m b : ℕ) (r : Regs) (w : W) (o : Outcome W (Progress Regs)) → m ≤ b → run turn m r w ≡ o
      → turn o.result.regs o.left ≡ rested o.result.regs o.left → run turn b r w ≡ o
  run_ended m b r w o h e rests =
      let rest : b ≡ m + (b - m) = omega arith in
      ap (λ (n : ℕ). run turn n r w) rest ∙ in_parts m (b - m) r w ∙ rw (e, run_rests _ _ rests (b - m), add-zero)

-- What each turn keeps, a run keeps.
module _ {Regs W : Type 0} (turn : Regs → W → Outcome W (Progress Regs)) (P : W → W → Type 0)
    (same : (w : W) → P w w) (trans : (u v w : W) → P u v → P v w → P u w) (each : (r : Regs) (w : W) → P w (turn r w).left) where
  pub run_keeps : (n : ℕ) (r : Regs) (w : W) → P w (run turn n r w).left
  unfolding run
  run_keeps zero r w = same w
  run_keeps (suc n) r w = let o = turn r w in trans w o.left _ (each r w) (run_keeps n o.result.regs o.left)

-- the same result, and alike worlds left
pub record Agreed {W R : Type 0} (Alike : W → W → Type 0) (o q : Outcome W R) : Type 0 where
  pub result : o.result ≡ q.result
  pub left : Alike o.left q.left

-- Two runs. What holds of two turns from alike worlds, as long as what the first leaves is within bounds, holds of two runs.
module _ {Regs W : Type 0} (turn : Regs → W → Outcome W (Progress Regs)) (Within : W → Type 0) (Alike : W → W → Type 0)
    (back : (r : Regs) (w : W) → Within (turn r w).left → Within w)
    (both : (r : Regs) (v w : W) → Alike v w → Within (turn r v).left → Agreed Alike (turn r v) (turn r w)) where
  run_back : (n : ℕ) (r : Regs) (w : W) → Within (run turn n r w).left → Within w
  run_back = run_keeps turn (λ v w. Within w → Within v) (λ w h. h) (λ u v w f g h. f (g h)) back

  pub run_both : (n : ℕ) (r : Regs) (v w : W) → Alike v w → Within (run turn n r v).left → Agreed Alike (run turn n r v) (run turn n r w)
  unfolding run
  run_both zero r v w s h = record { result = refl; left = s }
  run_both (suc n) r v w s h =
      let o = turn r v in let u = (turn r w).left in
      let a = both r v w s (run_back n o.result.regs o.left h) in
      let more = run_both n o.result.regs o.left u a.left h in
      rw (← a.result) (record { result = rw more.result; left = more.left })

-- Where a turn is one step while the registers are awake and nothing else, a run takes no more steps than its budget, and all of it where
-- it leaves them awake.
module _ {Regs W : Type 0} (turn : Regs → W → Outcome W (Progress Regs)) (awake : Regs → Bool)
    (counts : (r : Regs) (w : W) → awake r ≡ true → (turn r w).result.steps ≡ 1)
    (rests : (r : Regs) (w : W) → awake r ≡ false → turn r w ≡ rested r w) where
  pub within_budget : (n : ℕ) (r : Regs) (w : W) → (run turn n r w).result.steps ≤ n
  unfolding run
  within_budget zero r w = omega arith
  within_budget (suc n) r w = let o = turn r w in go (awake r) refl (within_budget n o.result.regs o.left)
    where
      go : (b : Bool) → awake r ≡ b → let o = turn r w in (run turn n o.result.regs o.left).result.steps ≤ n
          → (run turn (suc n) r w).result.steps ≤ suc n
      go true e h = omega (arith, counts r w e)
      go false e h =
          let none = ap (λ (o : Outcome W (Progress Regs)). o.result.steps) (run_rests turn r w (rests r w e) (suc n)) in omega (arith, none)

  pub budget_spent : (n : ℕ) (r : Regs) (w : W) → awake (run turn n r w).result.regs ≡ true → (run turn n r w).result.steps ≡ n
  unfolding run
  budget_spent zero r w h = refl
  budget_spent (suc n) r w h = let o = turn r w in go (awake r) refl (budget_spent n o.result.regs o.left h)
    where
      go : (b : Bool) → awake r ≡ b → let o = turn r w in (run turn n o.result.regs o.left).result.steps ≡ n
          → (run turn (suc n) r w).result.steps ≡ suc n
      go true e s = omega (arith, counts r w e)
      go false e s =
          let none = ap (λ (o : Outcome W (Progress Regs)). awake o.result.regs) (run_rests turn r w (rests r w e) (suc n)) in
          absurd (true≢false (sym h ∙ none ∙ e))
