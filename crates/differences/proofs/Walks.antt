-- The next stretch from an address on, by what two looks for an address find: the first that passes the test, and the first behind it that
-- does not. It is the first of the stretches that are left.
-- Assumes nothing.
use Rattle.std.proofs.Common.{ℕ, suc, ◌-◌, ◌<◌, ◌≤◌, Bool, true, false, ◌≡◌, List, [], ◌∷◌, Option, None, Some, length, sym, refl, ◌∙◌, arith}
use Rattle.std.proofs.Math.Decide.{dec_lt}
use Rattle.std.specs.Option.{unwrap_or}
use Rattle.differences.specs.declared.Stretch.{Stretch}
use Rattle.differences.specs.Stretches.{stretch, stretches_from}
use Rattle.differences.specs.Walk.{Sought}
use Rattle.differences.specs.Maximal.{Next, MaximalFrom, Throughout, only, both_answers, settled}
use Rattle.differences.proofs.Maximal.{maximal}
use Rattle.differences.proofs.Theorems.{few_from}

-- The stretches from an address on are those from a sooner one on, where none passes between the two.
from_sooner : (test : ℕ → Bool) {from at : ℕ} → Throughout test false from at → (stretches : List Stretch) → MaximalFrom test at stretches
    → MaximalFrom test from stretches
from_sooner test {from} {at} passed stretches m = go stretches m
  where
    sooner : {to : ℕ} → Throughout test false at to → Throughout test false from to
    sooner {to} t = record { ahead = omega (arith, passed.ahead, t.ahead); within = t.within; each = λ k a b. each k a b (dec_lt k at) }
      where
        each : (k : ℕ) → from ≤ k → k < to → Dec (k < at) → test k ≡ false
        each k a b (yes h) = passed.each k a h
        each k a b (no h) = t.each k (omega arith) b

    go : (stretches : List Stretch) → MaximalFrom test at stretches → MaximalFrom test from stretches
    go [] m = sooner m
    go (s ∷ rest) m = (m.0, record { before = sooner m.1.before; throughout = m.1.throughout; behind = m.1.behind }, m.2)

module _ (test : ℕ → Bool) where
  -- The next stretch from an address on: its first address, and the one behind its last.
  pub record Found (from at end : ℕ) : Type 0 where
    pub next : Next test from at end
    pub some : at < end

  -- The first address was found, and behind it the end was sought.
  pub found : {from at : ℕ} (sought : Option ℕ) → Sought test true false from (Some at) → Sought test false true at sought
      → Found from at (unwrap_or sought 65536)
  found {from} {at} None a e = record {
    next = record {
      before = record { ahead = a.0; within = omega (arith, a.1); each = a.3 };
      throughout = record { ahead = omega (arith, a.1); within = omega arith; each = e };
      behind = λ h. absurd (omega arith);
    };
    some = a.1;
  }
  found {from} {at} (Some end) a e = record {
    next = record {
      before = record { ahead = a.0; within = omega (arith, a.1); each = a.3 };
      throughout = record { ahead = e.0; within = omega (arith, e.1); each = e.3 };
      behind = λ h. e.2;
    };
    some = settled (dec_lt at end) (λ n. let same : end ≡ at = omega (arith, e.0) in absurd (both_answers a.2 (rw same at e.2)));
  }

  -- the stretches that are left
  abbrev left : ℕ → List Stretch
  left at = stretches_from test at (65536 - at)

  left_maximal : (at : ℕ) → at ≤ 65536 → MaximalFrom test at (left at)
  left_maximal at h = maximal test (65536 - at) at (omega arith)

  -- No address was found: none is left.
  pub none_left : (from : ℕ) → Sought test true false from None → left from ≡ []
  unfolding stretches_from
  none_left from e = go (dec_lt 65536 from)
    where
      go : Dec (65536 < from) → left from ≡ []
      go (yes h) = let none : 65536 - from ≡ 0 = omega arith in rw none
      go (no h) = only test from (left from) [] (left_maximal from (omega arith)) (record { ahead = omega arith; within = omega arith; each = e })

  -- A stretch was found: it is the first of those that are left, and the others are left from its end on.
  pub one_left : {from at end : ℕ} → Found from at end → left from ≡ stretch at (end - 1) ∷ left end
  one_left {from} {at} {end} f =
      let behind : suc (end - 1) ≡ end = omega (arith, f.some) in
      only test from (left from) (stretch at (end - 1) ∷ left end)
      (left_maximal from (omega (arith, f.next.before.ahead, f.next.before.within)))
      (omega (arith, f.some), rw behind f.next, rw behind (left_maximal end f.next.throughout.within))

  none_at_the_end : left 65536 ≡ []
  unfolding stretches_from
  none_at_the_end = refl

  -- Before the first address that passes the test there is no stretch: all are left from there on.
  pub all_behind : (sought : Option ℕ) → Sought test true false 0 sought → left (unwrap_or sought 65536) ≡ left 0
  all_behind None e = none_at_the_end ∙ sym (none_left 0 e)
  all_behind (Some at) e =
      let passed : Throughout test false 0 at = record { ahead = e.0; within = omega (arith, e.1); each = e.3 } in
      only test 0 (left at) (left 0) (from_sooner test passed (left at) (left_maximal at (omega (arith, e.1)))) (left_maximal 0 (omega arith))

-- There are never more than 32,768.
pub few_left : (test : ℕ → Bool) (from : ℕ) → length (left test from) ≤ 32768
unfolding stretches_from
few_left test from = elim (dec_lt 65536 from) [
  | yes h ↦ let none : 65536 - from ≡ 0 = omega arith in rw none (omega arith)
  | no h ↦ omega (arith, few_from test from (left test from) (left_maximal test from (omega arith)))
]
