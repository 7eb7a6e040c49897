-- What an answer is worth.
--
-- The words: `survey_of input` is what the program answers to an input, in bytes (Survey): the contract of `surveyor::session` says so of
-- the code. `marked_stretches map` are the stretches that it gives for a map, and `stretches_of first second` those that it gives for two
-- memories, of which differences/specs/Theorems says what this file says of a map's. `is_marked map k`: the map marks the address k.
-- `nth stretches i` is the i-th stretch, from 0 on, and `holding k stretches` in how many of them the address k lies.
-- Assumes nothing.
use Rattle.std.specs.Prelude.{ℕ, ◌+◌, ◌*◌, ◌/◌, ◌%◌, ◌<◌, ◌≤◌, Bool, true, false, cond, ◌≡◌, refl, List, [], ◌∷◌, eqb, leb, length, get_or, take, drop, Result, Ok, IsOkAnd}
use Rattle.std.proofs.Common.{sym, ◌∙◌, arith, take_at, eq-eqb, le-leb}
use Rattle.marks.specs.Maps.{is_marked}
use Rattle.text.specs.Given.{Given, says}
use Rattle.text.specs.Quoted.{text}
use Rattle.refusals.specs.declared.Refusal.{Refusal}
use Rattle.differences.specs.declared.Stretch.{Stretch}
use Rattle.differences.specs.Stretches.{stretch, touched}
use Rattle.differences.specs.Calls.{differ, stretches_of, numbers_of}
use Rattle.differences.specs.Maximal.{MaximalFrom, only}
use Rattle.differences.proofs.Maximal.{maximal}
use Rattle.differences.proofs.Theorems.{Touch, nth, holding, in_exactly_one, each_within, ascending, few, untouched, touching}
use Rattle.surveyor.specs.Survey.{marked_stretches, in_bytes, answer, of_map, of_memories, of_all, survey_of}
use Rattle.surveyor.specs.Lengths.{length_answer}
use Rattle.surveyor.specs.AsMemories.{zeros, ones, differ_as_marked, as_memories}
use Rattle.surveyor.specs.Which.{is_map, is_two, is_all}

-- One stretch ends before another begins, and between them stands an address that is not marked.
pub record Before (map : List ℕ) (s t : Stretch) : Type 0 where
  pub address : ℕ
  pub behind : s.last < address
  pub ahead : address < t.first
  pub unmarked : is_marked map address ≡ false

-- An answer read back: four bytes are a stretch, the low byte of each address first. What is left over, where there are not four, is none.
unfoldable pub stretches_in : List ℕ → List Stretch
stretches_in [] = []
stretches_in (a ∷ []) = []
stretches_in (a ∷ b ∷ []) = []
stretches_in (a ∷ b ∷ c ∷ []) = []
stretches_in (a ∷ b ∷ c ∷ d ∷ rest) = stretch (b * 256 + a) (d * 256 + c) ∷ stretches_in rest

-- The stretches that stand in the answer to an input, behind its first byte.
abbrev pub given_for : List ℕ → List Stretch
given_for input = stretches_in (drop 1 (survey_of input))

-- ---- any answer

read_bytes : (stretches : List Stretch) → stretches_in (in_bytes (numbers_of stretches)) ≡ stretches
unfolding stretches_in in_bytes numbers_of
read_bytes [] = refl
read_bytes (s ∷ rest) =
    let first : s.first / 256 * 256 + s.first % 256 ≡ s.first = omega arith in
    let last : s.last / 256 * 256 + s.last % 256 ≡ s.last = omega arith in
    rw (first, last, read_bytes rest)

module _ (touch : Bool) (stretches : List Stretch) where
  -- Read back, an answer gives the stretches that it was made of: none is lost, and none changed.
  pub read_back : stretches_in (drop 1 (answer touch stretches)) ≡ stretches
  read_back = read_bytes stretches

  -- It begins with a byte that is 0 or 1, and so unlike the line `refused 6`.
  pub begins_low : get_or (answer touch stretches) 0 0 ≤ 1
  begins_low = go touch
    where
      go : (b : Bool) → cond b 1 0 ≤ 1
      go true = omega arith
      go false = omega arith

-- ---- the stretches of a map

module _ (map : List ℕ) where
  -- for the proofs: how many addresses there are, as a number like any other
  module _ (n : ℕ) (all : n ≡ 65536) where
    in_one : (k : ℕ) → k < 65536 → holding k (marked_stretches map) ≡ cond (is_marked map k) 1 0
    in_one k h = rw (as_memories map n all, ← differ_as_marked map n all k h) (in_exactly_one (zeros map n) (ones n) k h)

    within : (i : ℕ) → i < length (marked_stretches map)
        → ((nth (marked_stretches map) i).first ≤ (nth (marked_stretches map) i).last) × ((nth (marked_stretches map) i).last < 65536)
    within i = rw (as_memories map n all) (each_within (zeros map n) (ones n) i)

    apart : (i j : ℕ) → i < j → j < length (stretches_of (zeros map n) (ones n))
        → Before map (nth (stretches_of (zeros map n) (ones n)) i) (nth (stretches_of (zeros map n) (ones n)) j)
    apart i j h k =
        let gap = ascending (zeros map n) (ones n) i j h k in
        let end = each_within (zeros map n) (ones n) j k in
        let inside : gap.address < 65536 = omega (arith, gap.ahead, end) in
        record {
          address = gap.address;
          behind = gap.behind;
          ahead = gap.ahead;
          unmarked = sym (differ_as_marked map n all gap.address inside) ∙ rw (eq-eqb _ _ gap.equal);
        }

    not_many : length (marked_stretches map) ≤ 32768
    not_many = rw (as_memories map n all) (few (zeros map n) (ones n))

  -- They are the maximal ones, from the first address on: differences/specs/Maximal says what that is;
  pub all_maximal : MaximalFrom (is_marked map) 0 (marked_stretches map)
  all_maximal = maximal (is_marked map) 65536 0 refl

  -- and no other list is so.
  pub no_other : (others : List Stretch) → MaximalFrom (is_marked map) 0 others → others ≡ marked_stretches map
  no_other others m = only (is_marked map) 0 others (marked_stretches map) m all_maximal

  -- An address is marked exactly if it lies in one of the stretches that are given: a marked one in exactly one of them, any other in none.
  pub marked_in_one : (k : ℕ) → k < 65536 → holding k (marked_stretches map) ≡ cond (is_marked map k) 1 0
  marked_in_one = in_one 65536 refl

  -- Each stretch has an address, and its last one is below 65,536.
  pub each_inside : (i : ℕ) → i < length (marked_stretches map)
      → ((nth (marked_stretches map) i).first ≤ (nth (marked_stretches map) i).last) × ((nth (marked_stretches map) i).last < 65536)
  each_inside = within 65536 refl

  -- They ascend, and at least one address that is not marked stands between any two of them.
  pub ascend : (i j : ℕ) → i < j → j < length (marked_stretches map)
      → Before map (nth (marked_stretches map) i) (nth (marked_stretches map) j)
  ascend i j h = rw (as_memories map 65536 refl) (apart 65536 refl i j h)

  -- There are at most 32,768.
  pub at_most : length (marked_stretches map) ≤ 32768
  at_most = not_many 65536 refl

-- ---- what the bytes tell

-- Of a map: the stretches that are given hold each marked address once, and no other address.
pub tells_marks : (input : List ℕ) → length input ≡ 8192 → (k : ℕ) → k < 65536 → holding k (given_for input) ≡ cond (is_marked input k) 1 0
tells_marks input size k h = rw (is_map input size, read_back false (marked_stretches input)) (marked_in_one input k h)

-- Of two memories: they hold each address at which these differ once, and no other.
pub tells_differences : (input : List ℕ) → length input ≡ 131072
    → (k : ℕ) → k < 65536 → holding k (given_for input) ≡ cond (differ (take 65536 input) (drop 65536 input) k) 1 0
tells_differences input size k h =
    let first = take 65536 input in
    let second = drop 65536 input in
    rw (is_two input size, read_back false (stretches_of first second)) (in_exactly_one first second k h)

-- the first byte tells the touch
told : (b c : Bool) → ◌≡◌ {A = ℕ} (cond b 1 0) (cond c 1 0) → b ≡ c
told true true e = refl
told true false e = absurd (omega arith)
told false true e = absurd (omega arith)
told false false e = refl

-- Of a map and two memories:
module _ (input : List ℕ) (size : length input ≡ 139264) where
  abbrev pub map_of : List ℕ
  map_of = take 8192 input

  abbrev pub first_of : List ℕ
  first_of = take 65536 (drop 8192 input)

  abbrev pub second_of : List ℕ
  second_of = drop 73728 input

  abbrev touch : Bool
  touch = touched (is_marked map_of) (stretches_of first_of second_of)

  -- the same,
  pub also_differences : (k : ℕ) → k < 65536 → holding k (given_for input) ≡ cond (differ first_of second_of k) 1 0
  also_differences k h =
      rw (is_all input size, read_back touch (stretches_of first_of second_of)) (in_exactly_one first_of second_of k h)

  first_byte : get_or (survey_of input) 0 0 ≡ cond touch 1 0
  first_byte = rw (is_all input size)

  -- and where the first byte is 0, the memories have the same byte at every marked address;
  pub zero_untouched : get_or (survey_of input) 0 0 ≡ 0 → (k : ℕ) → k < 65536 → is_marked map_of k ≡ true → get_or first_of k 0 ≡ get_or second_of k 0
  zero_untouched e = untouched first_of second_of (is_marked map_of) (told touch false (sym first_byte ∙ e))

  -- where it is 1, they differ at a marked address.
  pub one_touched : get_or (survey_of input) 0 0 ≡ 1 → Touch first_of second_of (is_marked map_of)
  one_touched e = touching first_of second_of (is_marked map_of) (told touch true (sym first_byte ∙ e))

-- ---- how long an answer is

record Short (bytes : List ℕ) : Type 0 where
  most : length bytes ≤ 131073

answer_short : (touch : Bool) (stretches : List Stretch) → length stretches ≤ 32768 → Short (answer touch stretches)
answer_short touch stretches h = record { most = omega (arith, length_answer touch stretches) }

either_short : (b : Bool) {x y : List ℕ} → Short x → Short y → Short (cond b x y)
either_short true p q = p
either_short false p q = q

differences_short : (touch : Bool) (first second : List ℕ) → Short (answer touch (stretches_of first second))
differences_short touch first second = answer_short touch (stretches_of first second) (few first second)

each_short : (input : List ℕ) → Short (survey_of input)
unfolding survey_of
each_short input =
    either_short (eqb (length input) 8192) map_short
    (either_short (eqb (length input) 131072) memories_short (either_short (eqb (length input) 139264) all_short refused))
  where
    map_short : Short (of_map input)
    map_short = answer_short false (marked_stretches input) (at_most input)

    memories_short : Short (of_memories input)
    memories_short = differences_short false (take 65536 input) (drop 65536 input)

    all_short : Short (of_all input)
    all_short =
        let first = take 65536 (drop 8192 input) in
        let second = drop 73728 input in
        differences_short (touched (is_marked (take 8192 input)) (stretches_of first second)) first second

    refused : Short (text "refused 6\n")
    refused = record { most = omega arith }

-- Whatever the input, the answer has at most 131,073 bytes.
pub never_longer : (input : List ℕ) → length (survey_of input) ≤ 131073
never_longer input = (each_short input).most

-- So in a buffer that is as long as that, or longer, an answer is never refused, and what the buffer begins with is the whole of it: the
-- program writes out that part.
module _ (input before after : List ℕ) (r : Result ℕ Refusal) (gives : Given (says (survey_of input)) before after r)
    (room : 131073 ≤ length before) where
  fits : leb (length (survey_of input)) (length before) ≡ true
  fits = le-leb (length (survey_of input)) (length before) (omega (arith, never_longer input))

  pub never_refused : r ≡ Ok (length (survey_of input))
  never_refused = rw fits at gives.answer

  pub whole_answer : IsOkAnd r (λ length. take length after ≡ survey_of input)
  whole_answer =
      let laid = rw fits at gives.buffer in
      rw (never_refused, laid) (take_at (survey_of input) (drop (length (survey_of input)) before) _ refl)
