-- Which comparisons are refused: what is known of one that is not, and a row that always suffices.
-- Assumes nothing.
use Rattle.std.specs.Prelude.{ℕ, ◌*◌, ◌<◌, ◌≤◌, Bool, true, false, ◌≡◌, ◌&&◌, cond, List, length, eqb, Option, None, Some, Ok}
use Rattle.std.proofs.Common.{arith, refl, eq-eqb, eqb-true, ne_eqb, le-leb}
use Rattle.std.proofs.lemmas.Bool.{lt-leb}
use Rattle.refusals.specs.declared.Refusal.{Refusal}
use Rattle.refusals.specs.declared.Refusal.TheVariants.{Memory, Map, Room}
use Rattle.differences.specs.Calls.{stretches_of, memories_right, map_right, marks_of, refusal_of, outcome, differences_of}
use Rattle.differences.specs.declared.Differences.{Differences}
use Rattle.differences.proofs.Theorems.{few}

-- Where nothing is refused, each test has passed.
first_right : (a b c : Bool) → cond a (cond b (cond c None (Some Room)) (Some Map)) (Some Memory) ≡ None → (a ≡ true) × (b ≡ true) × (c ≡ true)
first_right true true true e = (refl, refl, refl)
first_right true true false e = absurd (cc)
first_right true false c e = absurd (cc)
first_right false b c e = absurd (cc)

both_right : (a b : Bool) → a && b ≡ true → (a ≡ true) × (b ≡ true)
both_right true b e = (refl, e)
both_right false b e = absurd (cc)

-- Right memories have 65,536 bytes each, and a right map 8,192.
pub paired : (first second : List ℕ) → memories_right first second ≡ true → (length first ≡ 65536) × (length second ≡ 65536)
paired first second e =
    let both = both_right (eqb (length first) 65536) (eqb (length second) 65536) e in
    (eqb-true _ _ both.0, eqb-true _ _ both.1)

pub usable : (map : List ℕ) → map_right (Some map) ≡ true → length map ≡ 8192
usable map e = eqb-true _ _ e

module _ (first second : List ℕ) (map : Option (List ℕ)) (row : List ℕ) where
  -- Where a comparison is accepted, no test failed, and so no length is refused.
  pub nothing_refused : {d : Differences} → (differences_of first second map row).answer ≡ Ok d → refusal_of first second map row ≡ None
  nothing_refused {d} e = go (refusal_of first second map row) e
    where
      go : (r : Option Refusal) → (outcome r (stretches_of first second) (marks_of map) row).answer ≡ Ok d → r ≡ None
      go None e = refl
      go (Some r) e = absurd (cc)

  pub lengths_right : refusal_of first second map row ≡ None → (memories_right first second ≡ true) × (map_right map ≡ true)
  unfolding refusal_of
  lengths_right e = let all = first_right (memories_right first second) (map_right map) _ e in (all.0, all.1)

  -- A row of 65,536 numbers is never too short.
  pub room_enough : memories_right first second ≡ true → map_right map ≡ true → 65536 ≤ length row → refusal_of first second map row ≡ None
  unfolding refusal_of
  room_enough m r h =
      let enough : 2 * length (stretches_of first second) ≤ length row = omega (arith, few first second) in
      rw (m, r, le-leb _ _ enough)

  -- ---- for the proof of the comparison: which of the tests failed

  pub wrong_first : (length first ≡ 65536 → ⊥) → refusal_of first second map row ≡ Some Memory
  unfolding refusal_of
  wrong_first f = rw (ne_eqb _ _ f)

  module _ (f : length first ≡ 65536) where
    pub wrong_second : (length second ≡ 65536 → ⊥) → refusal_of first second map row ≡ Some Memory
    unfolding refusal_of
    wrong_second s = rw (eq-eqb _ _ f, ne_eqb _ _ s)

    module _ (s : length second ≡ 65536) where
      pub wrong_map : map_right map ≡ false → refusal_of first second map row ≡ Some Map
      unfolding refusal_of
      wrong_map m = rw (eq-eqb _ _ f, eq-eqb _ _ s, m)

      module _ (r : map_right map ≡ true) where
        pub short_row : length row < 2 * length (stretches_of first second) → refusal_of first second map row ≡ Some Room
        unfolding refusal_of
        short_row h = rw (eq-eqb _ _ f, eq-eqb _ _ s, r, lt-leb _ _ h)

        pub none_wrong : 2 * length (stretches_of first second) ≤ length row → refusal_of first second map row ≡ None
        unfolding refusal_of
        none_wrong h = rw (eq-eqb _ _ f, eq-eqb _ _ s, r, le-leb _ _ h)
