-- Maps with other marks of the device addresses, byte by byte.
-- Assumes nothing.
use Prim.Native.Nat.{ℕ, ◌-◌, ◌/◌, ◌%◌, ◌<◌}
use mathlib.Core.Path.{◌≡◌, ap, sym, ◌∙◌}
use mathlib.Core.List.{List}
use native.Mathlib.Omega.{arith}
use native.Mathlib.Decide.{ℕ_discrete}
use lib.Bits.{bit_and, bit_or, or_shr, or_mod, and_shr, and_mod}
use lib.ListN.{length, get_or, set, length-set}
use lib.Seq.{get_or-set_same, get_or-set_other, ext_get_or}
use Rattle.watch.specs.Marks.{with_marks}

module _ (map : List ℕ) (marks : ℕ) where
  pub length_with : length (with_marks map marks) ≡ length map
  length_with = length-set (set map 30 (marks % 256)) 31 _ ∙ length-set map 30 _

  -- the low byte, the high one, and any other
  pub get_low : length map ≡ 8192 → get_or (with_marks map marks) 30 0 ≡ marks % 256
  get_low size = get_or-set_other (set map 30 (marks % 256)) 31 30 _ 0 (λ e. omega arith) ∙ get_or-set_same map 30 _ 0 (omega arith)

  pub get_high : length map ≡ 8192 → get_or (with_marks map marks) 31 0 ≡ marks / 256
  get_high size = get_or-set_same (set map 30 (marks % 256)) 31 _ 0 (omega (arith, length-set map 30 (marks % 256)))

  pub get_other : (i : ℕ) → (i ≡ 30 → ⊥) → (i ≡ 31 → ⊥) → get_or (with_marks map marks) i 0 ≡ get_or map i 0
  get_other i m n = get_or-set_other (set map 30 (marks % 256)) 31 i _ 0 n ∙ get_or-set_other map 30 i _ 0 m

  -- A map that has the marks of the number, and else the same bytes, is it.
  pub only_with : (other : List ℕ) → length map ≡ 8192 → length other ≡ 8192
      → marks % 256 ≡ get_or other 30 0 → marks / 256 ≡ get_or other 31 0
      → ((i : ℕ) → i < 8192 → (i ≡ 30 → ⊥) → (i ≡ 31 → ⊥) → get_or map i 0 ≡ get_or other i 0) → with_marks map marks ≡ other
  only_with other size size₂ low high each =
      ext_get_or 0 (with_marks map marks) other (length_with ∙ size ∙ sym size₂)
      (λ i h. go i (omega (arith, length_with)) (ℕ_discrete i 30) (ℕ_discrete i 31))
    where
      go : (i : ℕ) → i < 8192 → Dec (i ≡ 30) → Dec (i ≡ 31) → get_or (with_marks map marks) i 0 ≡ get_or other i 0
      go i h (yes e) n = rw e (get_low size ∙ low)
      go i h (no m) (yes e) = rw e (get_high size ∙ high)
      go i h (no m) (no n) = get_other i m n ∙ each i h m n

-- The marks of reads that are put back, of each byte.
module _ (read devices stored : ℕ) (h : stored < 65536) where
  pub low_back : bit_or read (bit_and devices (65535 - stored)) % 256 ≡ bit_or (read % 256) (bit_and (devices % 256) (255 - stored % 256))
  low_back =
      let less : (65535 - stored) % 256 ≡ 255 - stored % 256 = omega arith in
      or_mod read (bit_and devices (65535 - stored)) 8
      ∙ ap (bit_or (read % 256)) (and_mod devices (65535 - stored) 8 ∙ ap (bit_and (devices % 256)) less)

  pub high_back : bit_or read (bit_and devices (65535 - stored)) / 256 ≡ bit_or (read / 256) (bit_and (devices / 256) (255 - stored / 256))
  high_back =
      let less : (65535 - stored) / 256 ≡ 255 - stored / 256 = omega arith in
      or_shr read (bit_and devices (65535 - stored)) 8
      ∙ ap (bit_or (read / 256)) (and_shr devices (65535 - stored) 8 ∙ ap (bit_and (devices / 256)) less)
