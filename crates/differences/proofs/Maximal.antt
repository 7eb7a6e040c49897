-- The defined list is the maximal stretches of the addresses that pass a test (specs/Maximal says what that is).
-- Assumes nothing.
use Prim.Native.Nat.{ℕ, zero, suc, ◌+◌, ◌<◌, ◌≤◌}
use Rattle.std.specs.Prelude.{Bool, true, false, cond, ◌≡◌, eqb}
use Rattle.std.proofs.Common.{eq-eqb, ne_eqb}
use Rattle.std.proofs.Math.Path.{refl}
use mathlib.Core.List.{List, [], ◌∷◌}
use Rattle.std.proofs.Math.Decide.{ℕ_discrete}
use native.Mathlib.Omega.{arith}
use Rattle.differences.specs.declared.Stretch.{Stretch}
use Rattle.differences.specs.Stretches.{stretch, with_address, stretches_from}
use Rattle.differences.specs.Maximal.{Throughout, Next, MaximalFrom, no_address, one_behind, one_before}

-- What holds of either thing holds of the one that is chosen by whether two numbers are equal.
either : {A : Type 0} (a b : ℕ) {x y : A} (P : A → Type 0) → (a ≡ b → P x) → ((a ≡ b → ⊥) → P y) → P (cond (eqb a b) x y)
either a b P f g = elim (ℕ_discrete a b) [ yes q ↦ rw (eq-eqb _ _ q) (f q) | no q ↦ rw (ne_eqb _ _ q) (g q) ]

module _ (test : ℕ → Bool) where
  -- ---- the defined list is so

  passed_by : {at : ℕ} (stretches : List Stretch) → test at ≡ false → MaximalFrom test (suc at) stretches → MaximalFrom test at stretches
  passed_by [] e m = one_before m e
  passed_by (s ∷ rest) e m =
      let next = m.1 in
      (m.0, record { before = one_before next.before e; throughout = next.throughout; behind = next.behind }, m.2)

  -- an address by itself, in front of an address that does not pass
  alone : {at : ℕ} (stretches : List Stretch) → at < 65536 → test at ≡ true → (suc at < 65536 → test (suc at) ≡ false)
      → MaximalFrom test (suc at) stretches → MaximalFrom test at (stretch at at ∷ stretches)
  alone stretches h e f m = (
    omega arith,
    record { before = no_address (omega arith); throughout = one_behind (no_address (omega arith)) h e; behind = f },
    m,
  )

  taken_in : {at : ℕ} (stretches : List Stretch) → at < 65536 → test at ≡ true → MaximalFrom test (suc at) stretches
      → MaximalFrom test at (with_address at stretches)
  unfolding with_address
  taken_in {at} [] h e m = alone [] h e (λ k. m.each (suc at) (omega arith) k) m
  taken_in {at} (s ∷ rest) h e m =
      either s.first _ (MaximalFrom test at)
      (λ q. joined (omega (arith, m.1.before.ahead)))
      (λ q. apart (omega (arith, m.1.before.ahead)))
    where
      next : Next test (suc at) s.first (suc s.last)
      next = m.1

      joined : s.first ≡ suc at → MaximalFrom test at (stretch at s.last ∷ rest)
      joined q =
          let on : Throughout test true (suc at) (suc s.last) = rw q at next.throughout in
          let ahead : suc at ≤ s.last = rw q at m.0 in
          (omega arith, record { before = no_address (omega arith); throughout = one_before on e; behind = next.behind }, m.2)

      apart : suc at < s.first → MaximalFrom test at (stretch at at ∷ s ∷ rest)
      apart q = alone (s ∷ rest) h e (λ k. next.before.each (suc at) (omega arith) q) m

  -- The defined list is the maximal stretches of the addresses from one up to 65,536,
  pub maximal : (n at : ℕ) → at + n ≡ 65536 → MaximalFrom test at (stretches_from test at n)
  unfolding stretches_from
  maximal zero at h = let there : at ≡ 65536 = omega arith in rw there (no_address (omega arith))
  maximal (suc n) at h = go (test at) refl (maximal n (suc at) (omega arith))
    where
      behind : List Stretch
      behind = stretches_from test (suc at) n

      go : (b : Bool) → test at ≡ b → MaximalFrom test (suc at) behind → MaximalFrom test at (cond b (with_address at behind) behind)
      go true e m = taken_in behind (omega arith) e m
      go false e m = passed_by behind e m
