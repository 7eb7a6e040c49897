-- Marks that are put back, byte by byte.
-- Assumes nothing.
use Prim.Native.Nat.{ℕ, zero, suc, ◌-◌, ◌<◌}
use mathlib.Core.Path.{◌≡◌, refl, ap}
use mathlib.Core.List.{List, [], ◌∷◌}
use native.Mathlib.Omega.{arith}
use lib.Bits.{bit_and, bit_or}
use lib.ListN.{length, get_or}
use Rattle.boot_rom.specs.Inside.{read_back}

pub length_back : (map read stored : List ℕ) → length (read_back map read stored) ≡ length map
unfolding read_back
length_back [] read stored = refl
length_back (byte ∷ map) [] stored = refl
length_back (byte ∷ map) (r ∷ read) [] = refl
length_back (byte ∷ map) (r ∷ read) (s ∷ stored) = ap suc (length_back map read stored)

pub get_back : (map read stored : List ℕ) (i : ℕ) → length map ≡ length read → length map ≡ length stored → i < length map
    → get_or (read_back map read stored) i 0 ≡ bit_or (get_or read i 0) (bit_and (get_or map i 0) (255 - get_or stored i 0))
unfolding read_back
get_back [] read stored i e f h = absurd (omega arith)
get_back (byte ∷ map) [] stored i e f h = absurd (omega arith)
get_back (byte ∷ map) (r ∷ read) [] i e f h = absurd (omega arith)
get_back (byte ∷ map) (r ∷ read) (s ∷ stored) zero e f h = refl
get_back (byte ∷ map) (r ∷ read) (s ∷ stored) (suc i) e f h =
    get_back map read stored i (omega arith) (omega arith) (omega arith)
