-- The unnamed bytes are three stretches of a file: with its defaults it is the file in which they are stored there, and it has them if each
-- stretch does.
-- Assumes nothing.
use Rattle.std.specs.Prelude.{ℕ, ◌+◌, ◌-◌, ◌<◌, ◌≤◌, ◌≡◌, refl, Bool, true, false, List, length, get_or, take, drop, replicate}
use Rattle.std.specs.Str.{bytes_eq}
use Rattle.std.proofs.Common.{sym, ap, ◌∙◌, arith, true≢false, ext_get_or, take_at}
use Rattle.std.proofs.Math.Seq.{length-sets}
use Rattle.std.proofs.lemmas.List.{length-replicate, get_or-replicate}
use Rattle.std.proofs.lemmas.List.Edits.{sets}
use Rattle.std.proofs.lemmas.List.Prefix.{at_from_reads}
use Rattle.std.proofs.lemmas.Bool.Decides.{nat_tests}
use Rattle.std.proofs.lemmas.Slice.Eq.{bytes_eq-Decides}
use borrow.Rule.Slice.PartMut.{mid_of}
use Rattle.laws.specs.Stored.{other_place, stored_place, stored_again}
use Rattle.conversion.specs.Unnamed.{unnamed, first_four, place_at, or_default, with_defaults, all_default, EachDefault}
use Rattle.conversion.specs.Defaults.{each_stretch, length_defaults, in_place, kept, yes_all, not_all}

-- n zeros
pub record Zeros (n : ℕ) (xs : List ℕ) : Type 0 where
  pub size : length xs ≡ n
  pub each : (k : ℕ) → k < n → get_or xs k 0 ≡ 0

pub zeros_lem : (n : ℕ) {xs : List ℕ} → xs ≡ replicate n 0 → Zeros n xs
zeros_lem n e = record { size = rw (e, length-replicate); each = λ k h. rw e (get_or-replicate n k 0 0 h) }

-- ---- storing the defaults

-- a place of a stretch that is stored, by itself and not by its distance
stored_at : (xs row : List ℕ) (from i : ℕ) → from + length xs ≤ length row → from ≤ i → i < from + length xs
    → get_or (sets row from xs) i 0 ≡ get_or xs (i - from) 0
stored_at xs row from i room a b =
    let there : from + (i - from) ≡ i = omega arith in rw there at (stored_place xs row from (i - from) room (omega arith))

module _ (file second third : List ℕ) where
  -- the defaults stored in their stretches, from the first to the last
  abbrev with_first : List ℕ
  with_first = sets file 33 first_four

  abbrev with_second : List ℕ
  with_second = sets with_first 44 second

  abbrev with_third : List ℕ
  with_third = sets with_second 65792 third

  third_length : length with_third ≡ length file
  third_length = length-sets with_second 65792 third ∙ length-sets with_first 44 second ∙ length-sets file 33 first_four

  module _ (size : length file ≡ 66048) (s : Zeros 212 second) (t : Zeros 256 third) (i : ℕ) where
    -- a byte before the last stretch, one outside of the second, and one outside of the first
    past_third : i < 65792 → get_or with_third i 0 ≡ get_or with_second i 0
    past_third h = other_place third with_second 65792 i (λ j k e. omega arith)

    past_second : (44 ≤ i → i ≤ 255 → ⊥) → get_or with_second i 0 ≡ get_or with_first i 0
    past_second n = other_place second with_first 44 i (λ j k e. n (omega arith) (omega (arith, s.size)))

    past_first : (33 ≤ i → i ≤ 36 → ⊥) → get_or with_first i 0 ≡ get_or file i 0
    past_first n = other_place first_four file 33 i (λ j k e. n (omega arith) (omega arith))

    elsewhere : (33 ≤ i → i ≤ 36 → ⊥) → (44 ≤ i → i ≤ 255 → ⊥) → i < 65792 → get_or with_third i 0 ≡ get_or file i 0
    elsewhere a b c = past_third c ∙ past_second b ∙ past_first a

    in_first : 33 ≤ i → i ≤ 36 → get_or with_third i 0 ≡ get_or first_four (i - 33) 0
    in_first a b =
        past_third (omega arith) ∙ past_second (λ c d. omega arith) ∙ stored_at first_four file 33 i (omega arith) a (omega arith)

    in_second : 44 ≤ i → i ≤ 255 → get_or with_third i 0 ≡ 0
    in_second a b =
        past_third (omega arith)
        ∙ stored_at second with_first 44 i (rw (s.size, length-sets) (omega arith)) a (omega (arith, s.size))
        ∙ s.each (i - 44) (omega arith)

    in_third : 65792 ≤ i → i < 66048 → get_or with_third i 0 ≡ 0
    in_third a b =
        stored_at third with_second 65792 i (rw (t.size, length-sets, length-sets) (omega arith)) a (omega (arith, t.size))
        ∙ t.each (i - 65792) (omega arith)

    at_each : i < 66048 → get_or with_third i 0 ≡ or_default (place_at i) (get_or file i 0)
    at_each h =
        each_stretch (λ p. get_or with_third i 0 ≡ or_default p (get_or file i 0)) i
        (λ a. elsewhere (λ b c. omega arith) (λ b c. omega arith) (omega arith))
        in_first
        (λ a b. elsewhere (λ c d. omega arith) (λ c d. omega arith) (omega arith))
        in_second
        (λ a b. elsewhere (λ c d. omega arith) (λ c d. omega arith) (omega arith))
        (λ a. in_third a h)

  pub all_there : length file ≡ 66048 → Zeros 212 second → Zeros 256 third → with_third ≡ with_defaults file
  all_there size s t =
      ext_get_or 0 with_third (with_defaults file) (third_length ∙ sym (length_defaults 0 file))
      (λ i h. let k : i < length file = rw third_length at h in at_each size s t i (omega arith) ∙ sym (in_place file i k))

-- ---- looking for them

-- a part of a file that reads as a list does is the list
part_is : (file xs : List ℕ) (at n : ℕ) → length xs ≡ n → at + n ≤ length file
    → ((k : ℕ) → k < n → get_or file (at + k) 0 ≡ get_or xs k 0) → mid_of at n file ≡ xs
part_is file xs at n size room same =
    ap (λ (l : List ℕ). take n l) (at_from_reads 0 file xs at (omega arith) (λ k h. same k (omega arith)))
    ∙ take_at xs (drop (at + length xs) file) n size

-- the places of the three stretches
in_one : (k : ℕ) → k < 4 → place_at (33 + k) ≡ unnamed (get_or first_four k 0)
unfolding place_at
in_one k h = grind (arith, nat_tests)

in_two : (k : ℕ) → k < 212 → place_at (44 + k) ≡ unnamed 0
unfolding place_at
in_two k h = grind (arith, nat_tests)

in_three : (k : ℕ) → place_at (65792 + k) ≡ unnamed 0
unfolding place_at
in_three k = grind (arith, nat_tests)

module _ (file second third : List ℕ) (size : length file ≡ 66048) (s : Zeros 212 second) (t : Zeros 256 third) where
  -- every stretch holds its defaults
  record Hold : Type 0 where
    one : mid_of 33 4 file ≡ first_four
    two : mid_of 44 212 file ≡ second
    three : mid_of 65792 256 file ≡ third

  held : with_defaults file ≡ file → Hold
  held e =
      let has : EachDefault file = kept file e in
      record {
        one = part_is file first_four 33 4 refl (omega arith) (λ k h. has (33 + k) (get_or first_four k 0) (omega arith) (in_one k h));
        two = part_is file second 44 212 s.size (omega arith) (λ k h. has (44 + k) 0 (omega arith) (in_two k h) ∙ sym (s.each k h));
        three = part_is file third 65792 256 t.size (omega arith) (λ k h. has (65792 + k) 0 (omega arith) (in_three k) ∙ sym (t.each k h));
      }

  all_held : Hold → with_defaults file ≡ file
  all_held h =
      sym (all_there file second third size s t)
      ∙ ap (λ (l : List ℕ). sets (sets l 44 second) 65792 third) (again 33 4 (omega arith) h.one)
      ∙ ap (λ (l : List ℕ). sets l 65792 third) (again 44 212 (omega arith) h.two)
      ∙ again 65792 256 (omega arith) h.three
    where
      again : (at n : ℕ) {xs : List ℕ} → at + n ≤ length file → mid_of at n file ≡ xs → sets file at xs ≡ file
      again at n room e = rw (← e) (stored_again n file at room)

  -- the test of a stretch that fails
  fails : (xs ys : List ℕ) {r : Bool} → r ≡ bytes_eq xs ys → r ≡ false → (Hold → xs ≡ ys) → r ≡ all_default file
  fails xs ys e f needs = f ∙ sym (not_all file (λ d. true≢false (sym ((bytes_eq-Decides xs ys).1 (needs (held d))) ∙ sym e ∙ f)))

  pub first_fails : {r : Bool} → r ≡ bytes_eq (mid_of 33 4 file) first_four → r ≡ false → r ≡ all_default file
  first_fails e f = fails (mid_of 33 4 file) first_four e f (λ h. h.one)

  pub second_fails : {r : Bool} → r ≡ bytes_eq (mid_of 44 212 file) second → r ≡ false → r ≡ all_default file
  second_fails e f = fails (mid_of 44 212 file) second e f (λ h. h.two)

  -- the last test, where the others have passed
  pub last_tells : {a b r : Bool} → a ≡ bytes_eq (mid_of 33 4 file) first_four → a ≡ true
      → b ≡ bytes_eq (mid_of 44 212 file) second → b ≡ true
      → r ≡ bytes_eq (mid_of 65792 256 file) third → r ≡ all_default file
  last_tells {r = r} e q f p g = go r refl
    where
      go : (u : Bool) → r ≡ u → r ≡ all_default file
      go false n = fails (mid_of 65792 256 file) third g n (λ h. h.three)
      go true y =
          y
          ∙ sym (yes_all file (all_held (record {
            one = (bytes_eq-Decides (mid_of 33 4 file) first_four).0 (sym e ∙ q);
            two = (bytes_eq-Decides (mid_of 44 212 file) second).0 (sym f ∙ p);
            three = (bytes_eq-Decides (mid_of 65792 256 file) third).0 (sym g ∙ y);
          })))
