-- What it is for a list to be the maximal stretches of the addresses that pass a test, and that no two lists are: the theorem is `only`, and
-- all else below the definitions is for proofs. That the defined list is so is `maximal` (proofs/Maximal).
-- Assumes nothing.
use Prim.Native.Nat.{ℕ, suc, ◌<◌, ◌≤◌}
use Rattle.std.specs.Prelude.{Bool, true, false, ◌≡◌}
use Rattle.std.proofs.Common.{true≢false, sym, ◌∙◌}
use Rattle.std.proofs.Math.Path.{refl}
use mathlib.Core.List.{List, [], ◌∷◌}
use Rattle.std.proofs.Math.Decide.{dec_lt}
use native.Mathlib.Omega.{arith}
use Rattle.differences.specs.declared.Stretch.{Stretch}
use Rattle.differences.specs.Stretches.{stretch}

-- From one address up to another, which is not counted, a test answers the same throughout.
pub record Throughout (test : ℕ → Bool) (answer : Bool) (from to : ℕ) : Type 0 where
  pub ahead : from ≤ to
  pub within : to ≤ 65536
  pub each : (k : ℕ) → from ≤ k → k < to → test k ≡ answer

-- The next stretch from an address on: up to its first address none passes; from there up to its end, which is not counted, all do; the
-- end itself does not, or it is the memory's.
pub record Next (test : ℕ → Bool) (from first end : ℕ) : Type 0 where
  pub before : Throughout test false from first
  pub throughout : Throughout test true first end
  pub behind : end < 65536 → test end ≡ false

-- The maximal stretches from an address on: the next one, and those behind its end; behind the last of them none passes.
abbrev pub MaximalFrom : (ℕ → Bool) → ℕ → List Stretch → Type 0
MaximalFrom test at [] = Throughout test false at 65536
MaximalFrom test at (s ∷ rest) =
    (s.first ≤ s.last) × Next test at s.first (suc s.last) × MaximalFrom test (suc s.last) rest

-- ---- addresses one more or one fewer

module _ {test : ℕ → Bool} {answer : Bool} where
  pub no_address : {from : ℕ} → from ≤ 65536 → Throughout test answer from from
  no_address h = record { ahead = omega arith; within = h; each = λ k a b. absurd (omega arith) }

  -- one more behind
  pub one_behind : {from to : ℕ} → Throughout test answer from to → to < 65536 → test to ≡ answer → Throughout test answer from (suc to)
  one_behind {from} {to} t h e =
      record { ahead = omega (arith, t.ahead); within = omega arith; each = λ k a b. go k a b (dec_lt k to) }
    where
      go : (k : ℕ) → from ≤ k → k < suc to → Dec (k < to) → test k ≡ answer
      go k a b (yes q) = t.each k a q
      go k a b (no q) = let there : k ≡ to = omega arith in rw there e

  -- one more in front
  pub one_before : {from to : ℕ} → Throughout test answer (suc from) to → test from ≡ answer → Throughout test answer from to
  one_before {from} {to} t e = record { ahead = omega (arith, t.ahead); within = t.within; each = λ k a b. go k a b (dec_lt from k) }
    where
      go : (k : ℕ) → from ≤ k → k < to → Dec (from < k) → test k ≡ answer
      go k a b (yes q) = t.each k (omega arith) b
      go k a b (no q) = let there : k ≡ from = omega arith in rw there e

  -- one fewer in front
  pub not_first : {from to : ℕ} → Throughout test answer from to → from < to → Throughout test answer (suc from) to
  not_first t h = record { ahead = h; within = t.within; each = λ k a b. t.each k (omega arith) b }

pub both_answers : {b : Bool} → b ≡ true → b ≡ false → ⊥
both_answers t f = true≢false (sym t ∙ f)

-- What can be decided holds if it follows from its own negation.
pub settled : {P : Type 0} → Dec P → ((P → ⊥) → P) → P
settled (yes p) f = p
settled (no n) f = f n

module _ (test : ℕ → Bool) where
  -- where none passes no stretch begins; and of two next stretches neither begins nor ends before the other
  none_there : {at : ℕ} {s : Stretch} → Throughout test false at 65536 → s.first ≤ s.last → Next test at s.first (suc s.last) → ⊥
  none_there {at} {s} none some next =
      both_answers
      (next.throughout.each s.first (omega arith) (omega arith))
      (none.each s.first next.before.ahead (omega (arith, next.throughout.within)))

  not_sooner : {at f e g d : ℕ} → Next test at f e → Next test at g d → f < e → f < g → ⊥
  not_sooner {f = f} one other some h =
      both_answers (one.throughout.each f (omega arith) some) (other.before.each f one.before.ahead h)

  not_shorter : {at f e d : ℕ} → Next test at f e → Next test at f d → f ≤ e → e < d → ⊥
  not_shorter {e = e} one other some h =
      both_answers (other.throughout.each e some h) (one.behind (omega (arith, other.throughout.within)))

  -- So there are no two lists of which that holds.
  pub only : (at : ℕ) (stretches others : List Stretch) → MaximalFrom test at stretches → MaximalFrom test at others → stretches ≡ others
  only at [] [] m o = refl
  only at [] (t ∷ others) m o = absurd (none_there m o.0 o.1)
  only at (s ∷ rest) [] m o = absurd (none_there o m.0 m.1)
  only at (s ∷ rest) (t ∷ others) m o =
      let firsts = same_first (dec_lt s.first t.first) (dec_lt t.first s.first) in
      let lasts = same_last (rw (← firsts) at o.1) (dec_lt s.last t.last) (dec_lt t.last s.last) in
      let rests = only (suc s.last) rest others m.2 (rw (← lasts) at o.2) in
      together firsts lasts rests
    where
      same_first : Dec (s.first < t.first) → Dec (t.first < s.first) → s.first ≡ t.first
      same_first (yes h) e = absurd (not_sooner m.1 o.1 (omega (arith, m.0)) h)
      same_first (no h) (yes k) = absurd (not_sooner o.1 m.1 (omega (arith, o.0)) k)
      same_first (no h) (no k) = omega arith

      same_last : Next test at s.first (suc t.last) → Dec (s.last < t.last) → Dec (t.last < s.last) → s.last ≡ t.last
      same_last other (yes h) e = absurd (not_shorter m.1 other (omega (arith, m.0)) (omega arith))
      same_last other (no h) (yes k) = absurd (not_shorter other m.1 other.throughout.ahead (omega arith))
      same_last other (no h) (no k) = omega arith

      together : s.first ≡ t.first → s.last ≡ t.last → rest ≡ others → s ∷ rest ≡ t ∷ others
      together f l r =
          let same : stretch s.first s.last ≡ stretch t.first t.last = rw (f, l) in
          rw (r, same)
