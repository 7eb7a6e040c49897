-- The last n bytes of a map, those from a place on, and the map with others in their place.
-- Assumes nothing.
use Prim.Native.Nat.{ℕ, ◌+◌, ◌-◌, ◌<◌}
use mathlib.Core.Path.{◌≡◌, sym, ◌∙◌}
use mathlib.Core.List.{List, ◌++◌, append-nil}
use native.Mathlib.Decide.{dec_lt}
use native.Mathlib.Omega.{arith}
use lib.ListN.{length, get_or, take, drop, drop_of_length-le, length-append, length-drop, get_or-append}
use lib.Seq.{take_all, length-take-le, get_or-take, get_or-append-add, ext_get_or}
use borrow.Rule.Slice.PartMut.{mid_of, put_mid}

module _ (from n : ℕ) (map : List ℕ) (ends : length map ≡ from + n) where
  pub length_last : length (drop from map) ≡ n
  length_last = rw length-drop (omega arith)

  length_first : length (take from map) ≡ from
  length_first = length-take-le from map (omega arith)

  module _ (part : List ℕ) (fits : length part ≡ n) where
    -- the map with others in their place
    abbrev put : List ℕ
    put = take from map ++ part

    pub length_put : length put ≡ length map
    length_put = rw length-append (omega (arith, length_first))

    pub get_before : (i : ℕ) → i < from → get_or put i 0 ≡ get_or map i 0
    get_before i h = get_or-append (take from map) part 0 i (omega (arith, length_first)) ∙ get_or-take from map i 0 h

    pub get_inside : (i : ℕ) → get_or put (from + i) 0 ≡ get_or part i 0
    get_inside i = rw length_first at (get_or-append-add (take from map) part i 0)

    -- A map that has them there, and else the same bytes, is it.
    pub only_put : (other : List ℕ) → length other ≡ length map → ((i : ℕ) → i < from → get_or map i 0 ≡ get_or other i 0)
        → ((i : ℕ) → i < n → get_or part i 0 ≡ get_or other (from + i) 0) → put ≡ other
    only_put other size before inside =
        ext_get_or 0 put other (length_put ∙ sym size) (λ i h. go i (omega (arith, length_put)) (dec_lt i from))
      where
        go : (i : ℕ) → i < from + n → Dec (i < from) → get_or put i 0 ≡ get_or other i 0
        go i h (yes q) = get_before i q ∙ before i q
        go i h (no q) =
            let at : from + (i - from) ≡ i = omega arith in rw at at (get_inside (i - from) ∙ inside (i - from) (omega arith))

-- The last eight bytes of a map, as the code slices them.
module _ (map : List ℕ) (size : length map ≡ 8192) where
  pub last_of : mid_of 8184 8 map ≡ drop 8184 map
  last_of = take_all 8 (drop 8184 map) (omega (arith, length_last 8184 8 map size))

  pub eight_last : length (mid_of 8184 8 map) ≡ 8
  eight_last = rw last_of (length_last 8184 8 map size)

  pub put_last : (part : List ℕ) → put_mid 8184 8 map part ≡ take 8184 map ++ part
  put_last part =
      let last = length_last 8184 8 map size in
      rw (drop_of_length-le (drop 8184 map) {i = 8} (omega arith), append-nil)
