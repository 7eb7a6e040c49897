-- What holds of the stretches at which two memories differ. The theorems stand at the end, below what they are proved with.
-- Assumes nothing.
use Prim.Native.Nat.{ℕ, zero, suc, ◌+◌, ◌*◌, ◌-◌, ◌<◌, ◌≤◌}
use Rattle.std.specs.Prelude.{Bool, ◌&&◌, ◌||◌, ◌≡◌, leb, length, get_or}
use Rattle.std.proofs.Math.Bool.{true, false, cond}
use Rattle.std.proofs.Math.Path.{refl}
use mathlib.Core.List.{List, [], ◌∷◌}
use Rattle.std.proofs.Common.{zero-add}
use Rattle.std.proofs.Math.Decide.{dec_lt}
use native.Mathlib.Omega.{arith}
use borrow.Author.Tests.{le-leb, lt-leb, eq-eqb, eqb-true, not-false}
use Rattle.differences.specs.declared.Stretch.{Stretch}
use Rattle.differences.specs.Stretches.{stretch, some_from, touches, touched}
use Rattle.differences.specs.Calls.{differ, stretches_of}
use Rattle.differences.specs.Maximal.{MaximalFrom, not_first, both_answers, settled}
use Rattle.differences.proofs.Maximal.{maximal}

-- Whether an address lies in a stretch; in how many of some stretches it lies.
abbrev pub lies_in : ℕ → Stretch → Bool
lies_in k s = leb s.first k && leb k s.last

unfoldable pub holding : ℕ → List Stretch → ℕ
holding k [] = 0
holding k (s ∷ rest) = cond (lies_in k s) 1 0 + holding k rest

-- One stretch ends before another begins, and between them stands an address at which both memories have the same byte.
pub record Before (first second : List ℕ) (s t : Stretch) : Type 0 where
  pub address : ℕ
  pub behind : s.last < address
  pub ahead : address < t.first
  pub equal : get_or first address 0 ≡ get_or second address 0

-- An address that is marked, and at which the memories differ.
pub record Touch (first second : List ℕ) (mark : ℕ → Bool) : Type 0 where
  pub address : ℕ
  pub within : address < 65536
  pub differs : get_or first address 0 ≡ get_or second address 0 → ⊥
  pub marked : mark address ≡ true

-- the i-th of some stretches, from 0 on
abbrev pub nth : List Stretch → ℕ → Stretch
nth stretches i = get_or stretches i (stretch 0 0)

-- ---- for any test

module _ (test : ℕ → Bool) where
  -- an address before all stretches lies in none
  not_before : (at : ℕ) (stretches : List Stretch) → MaximalFrom test at stretches → (k : ℕ) → k < at → holding k stretches ≡ 0
  unfolding holding
  not_before at [] m k h = refl
  not_before at (s ∷ rest) m k h =
      let sooner : k < s.first = omega (arith, m.1.before.ahead) in
      rw (lt-leb _ _ sooner, zero-add) (not_before (suc s.last) rest m.2 k (omega (arith, m.0)))

  held : (at : ℕ) (stretches : List Stretch) → MaximalFrom test at stretches → (k : ℕ) → at ≤ k → k < 65536
      → holding k stretches ≡ cond (test k) 1 0
  unfolding holding
  held at [] m k a b = rw (m.each k a b)
  held at (s ∷ rest) m k a b = go (dec_lt k s.first) (dec_lt s.last k) (λ h. held (suc s.last) rest m.2 k h b)
    where
      go : Dec (k < s.first) → Dec (s.last < k) → (s.last < k → holding k rest ≡ cond (test k) 1 0)
          → cond (lies_in k s) 1 0 + holding k rest ≡ cond (test k) 1 0
      go (yes h) e later =
          rw (lt-leb _ _ h, m.1.before.each k a h, zero-add) (not_before (suc s.last) rest m.2 k (omega (arith, m.0)))
      go (no h) (yes e) later = rw (le-leb s.first k (omega arith), lt-leb _ _ e, zero-add) (later e)
      go (no h) (no e) later =
          let none = not_before (suc s.last) rest m.2 k (omega arith) in
          let passes = m.1.throughout.each k (omega arith) (omega arith) in
          rw (le-leb s.first k (omega arith), le-leb k s.last (omega arith), none, passes)

  -- each begins at the address from which they are taken, or later, and the first address of each passes
  begins : (at : ℕ) (stretches : List Stretch) → MaximalFrom test at stretches → (i : ℕ) → i < length stretches
      → (at ≤ (nth stretches i).first) × ((nth stretches i).first < 65536) × (test (nth stretches i).first ≡ true)
  begins at [] m i h = absurd (omega arith)
  begins at (s ∷ rest) m zero h = (
    m.1.before.ahead,
    omega (arith, m.0, m.1.throughout.within),
    m.1.throughout.each s.first (omega arith) (omega (arith, m.0)),
  )
  begins at (s ∷ rest) m (suc i) h =
      let later = begins (suc s.last) rest m.2 i (omega arith) in
      (omega (arith, m.0, m.1.before.ahead, later.0), later.1, later.2)

  -- and ends there, or later, within the memory
  ends : (at : ℕ) (stretches : List Stretch) → MaximalFrom test at stretches → (i : ℕ) → i < length stretches
      → ((nth stretches i).first ≤ (nth stretches i).last) × ((nth stretches i).last < 65536)
  ends at [] m i h = absurd (omega arith)
  ends at (s ∷ rest) m zero h = (m.0, m.1.throughout.within)
  ends at (s ∷ rest) m (suc i) h = ends (suc s.last) rest m.2 i (omega arith)

  -- the address behind each does not pass, and all that follow begin behind that one
  apart : (at : ℕ) (stretches : List Stretch) → MaximalFrom test at stretches → (i j : ℕ) → i < j → j < length stretches
      → (suc (nth stretches i).last < (nth stretches j).first) × (test (suc (nth stretches i).last) ≡ false)
  apart at [] m i j h k = absurd (omega arith)
  apart at (s ∷ rest) m i zero h k = absurd (omega arith)
  apart at (s ∷ rest) m (suc i) (suc j) h k = apart (suc s.last) rest m.2 i j (omega arith) (omega arith)
  apart at (s ∷ rest) m zero (suc j) h k =
      let other = begins (suc s.last) rest m.2 j (omega arith) in
      let equal = m.1.behind (omega (arith, other.0, other.1)) in
      (settled (dec_lt (suc s.last) (nth rest j).first) (λ n. absurd (not_there other.0 other.2 equal n)), equal)
    where
      not_there : {k : ℕ} → suc s.last ≤ k → test k ≡ true → test (suc s.last) ≡ false → (suc s.last < k → ⊥) → ⊥
      not_there {k} a t f n = let there : k ≡ suc s.last = omega arith in both_answers (rw there at t) f

  pub few_from : (at : ℕ) (stretches : List Stretch) → MaximalFrom test at stretches → 2 * length stretches + at ≤ 65537
  few_from at [] m = omega (arith, m.ahead)
  few_from at (s ∷ []) m = omega (arith, m.0, m.1.before.ahead, m.1.throughout.within)
  few_from at (s ∷ t ∷ rest) m =
      let gap = (apart at (s ∷ t ∷ rest) m 0 1 (omega arith) (omega arith)).0 in
      let next = m.2.1 in
      let later : MaximalFrom test (suc (suc s.last)) (t ∷ rest) =
      (m.2.0, record { before = not_first next.before gap; throughout = next.throughout; behind = next.behind }, m.2.2) in
      omega (arith, m.0, m.1.before.ahead, few_from (suc (suc s.last)) (t ∷ rest) later)

-- ---- marks

neither : (b : Bool) {c : Bool} → b || c ≡ false → (b ≡ false) × (c ≡ false)
neither false h = (refl, h)
neither true h = absurd (both_answers refl h)

-- a marked address from one up to another, which is not counted
record MarkedIn (mark : ℕ → Bool) (from to : ℕ) : Type 0 where
  address : ℕ
  ahead : from ≤ address
  within : address < to
  marked : mark address ≡ true

module _ (mark : ℕ → Bool) where
  none_marked : (n at : ℕ) → some_from mark at n ≡ false → (k : ℕ) → at ≤ k → k < at + n → mark k ≡ false
  unfolding some_from
  none_marked zero at h k a b = absurd (omega arith)
  none_marked (suc n) at h k a b =
      let both = neither (mark at) h in
      elim (dec_lt at k) [
        | yes q ↦ none_marked n (suc at) both.1 k q (omega arith)
        | no q ↦ let there : k ≡ at = omega arith in rw there both.0
      ]

  some_marked : (n at : ℕ) → some_from mark at n ≡ true → MarkedIn mark at (at + n)
  unfolding some_from
  some_marked zero at h = absurd (both_answers h refl)
  some_marked (suc n) at h = go (mark at) refl h (λ later. some_marked n (suc at) later)
    where
      go : (b : Bool) → mark at ≡ b → b || some_from mark (suc at) n ≡ true
          → (some_from mark (suc at) n ≡ true → MarkedIn mark (suc at) (suc at + n)) → MarkedIn mark at (at + suc n)
      go true e h later = record { address = at; ahead = omega arith; within = omega arith; marked = e }
      go false e h later =
          let m = later h in
          record { address = m.address; ahead = omega (arith, m.ahead); within = omega (arith, m.within); marked = m.marked }

  module _ (test : ℕ → Bool) where
    -- a marked address that passes
    record Passing : Type 0 where
      address : ℕ
      within : address < 65536
      marked : mark address ≡ true
      passes : test address ≡ true

    -- where no stretch is touched, what is marked does not pass
    not_touched : (at : ℕ) (stretches : List Stretch) → MaximalFrom test at stretches → touched mark stretches ≡ false
        → (k : ℕ) → at ≤ k → k < 65536 → mark k ≡ true → test k ≡ false
    unfolding touched
    not_touched at [] m t k a b e = m.each k a b
    not_touched at (s ∷ rest) m t k a b e =
        let both = neither (touches mark s) t in
        go both.0 (dec_lt k s.first) (dec_lt s.last k) (λ h. not_touched (suc s.last) rest m.2 both.1 k h b e)
      where
        go : touches mark s ≡ false → Dec (k < s.first) → Dec (s.last < k) → (s.last < k → test k ≡ false) → test k ≡ false
        go n (yes h) d later = m.1.before.each k a h
        go n (no h) (yes d) later = later d
        go n (no h) (no d) later =
            absurd (both_answers e (none_marked (suc s.last - s.first) s.first n k (omega arith) (omega arith)))

    -- where one is, a marked address passes
    touched_somewhere : (at : ℕ) (stretches : List Stretch) → MaximalFrom test at stretches → touched mark stretches ≡ true
        → Passing
    unfolding touched
    touched_somewhere at [] m t = absurd (both_answers t refl)
    touched_somewhere at (s ∷ rest) m t =
        go (touches mark s) refl t (λ later. touched_somewhere (suc s.last) rest m.2 later)
      where
        go : (b : Bool) → touches mark s ≡ b → b || touched mark rest ≡ true → (touched mark rest ≡ true → Passing) → Passing
        go false e h later = later h
        go true e h later =
            let k = some_marked (suc s.last - s.first) s.first e in
            let inside : k.address < suc s.last = omega (arith, k.within, m.0) in
            record {
              address = k.address;
              within = omega (arith, m.1.throughout.within);
              marked = k.marked;
              passes = m.1.throughout.each k.address k.ahead inside;
            }

-- ---- the theorems

module _ (first second : List ℕ) where
  agrees : (k : ℕ) → differ first second k ≡ false → get_or first k 0 ≡ get_or second k 0
  agrees k e = eqb-true _ _ (not-false _ e)

  -- The stretches of two memories are the maximal ones, from the first address on: Maximal says what that is, and that no other list is so.
  pub all_maximal : MaximalFrom (differ first second) 0 (stretches_of first second)
  all_maximal = maximal (differ first second) 65536 0 refl

  -- Every address at which they differ lies in exactly one stretch, and no address at which they are equal lies in any.
  pub in_exactly_one : (k : ℕ) → k < 65536 → holding k (stretches_of first second) ≡ cond (differ first second k) 1 0
  in_exactly_one k h = held (differ first second) 0 (stretches_of first second) all_maximal k (omega arith) h

  -- Each stretch has an address, and its last one is below 65,536.
  pub each_within : (i : ℕ) → i < length (stretches_of first second)
      → ((nth (stretches_of first second) i).first ≤ (nth (stretches_of first second) i).last)
      × ((nth (stretches_of first second) i).last < 65536)
  each_within i h = ends (differ first second) 0 (stretches_of first second) all_maximal i h

  -- They ascend, and at least one equal address stands between any two of them.
  pub ascending : (i j : ℕ) → i < j → j < length (stretches_of first second)
      → Before first second (nth (stretches_of first second) i) (nth (stretches_of first second) j)
  ascending i j h k =
      let gap = apart (differ first second) 0 (stretches_of first second) all_maximal i j h k in
      record {
        address = suc (nth (stretches_of first second) i).last;
        behind = omega arith;
        ahead = gap.0;
        equal = agrees (suc (nth (stretches_of first second) i).last) gap.1;
      }

  -- There are at most 32,768.
  pub few : length (stretches_of first second) ≤ 32768
  few = omega (arith, few_from (differ first second) 0 (stretches_of first second) all_maximal)

  module _ (mark : ℕ → Bool) where
    -- Where no stretch touches a mark, the memories have the same byte at every marked address;
    pub untouched : touched mark (stretches_of first second) ≡ false
        → (k : ℕ) → k < 65536 → mark k ≡ true → get_or first k 0 ≡ get_or second k 0
    untouched t k h e =
        agrees k (not_touched mark (differ first second) 0 (stretches_of first second) all_maximal t k (omega arith) h e)

    -- where one does, they differ at a marked address.
    pub touching : touched mark (stretches_of first second) ≡ true → Touch first second mark
    touching t =
        let k = touched_somewhere mark (differ first second) 0 (stretches_of first second) all_maximal t in
        record {
          address = k.address;
          within = k.within;
          differs = λ e. both_answers k.passes (rw (eq-eqb _ _ e));
          marked = k.marked;
        }
