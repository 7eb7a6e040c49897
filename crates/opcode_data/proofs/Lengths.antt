-- How long the text of modes can be: a mode has at most 11 bytes, and two modes have two more between them.
-- Assumes nothing.
use Prim.Native.Nat.{ℕ, ◌+◌, ◌*◌, ◌-◌, ◌<◌, ◌≤◌}
use mathlib.Core.Bool.{Bool, true, false, cond}
use mathlib.Core.List.{List, [], ◌∷◌}
use native.Mathlib.Omega.{arith}
use lib.Dec.{ltb}
use lib.IntN.{pos, negsuc, nat_abs}
use lib.ListN.{length, get_or, length-append}
use Rattle.laws.specs.Bytes.{Bytes}
use Rattle.signed.specs.Displacement.{signed_of}
use Rattle.signed.proofs.Laws.{by_half}
use Rattle.text.specs.Digits.{hex_short, hex_digit, hex_byte}
use Rattle.text.proofs.Laws.{length_signed}
use Rattle.opcode_data.specs.Format.{taken, mode_text, text_at, modes_text}
use Rattle.opcode_data.specs.declared.AddressMode.{AddressMode}
use Rattle.opcode_data.specs.declared.AddressMode.TheVariants.{A, X, XInc, Y, Ya, Imm, D, Dx, Dy, Ix, Iy, Idx, Idy, Abs, AbsX, AbsY, Iax, Rel, Mb, Nmb, C, Sp, Psw, Encoded}

-- ---- one mode

-- the most bytes that the text of a mode can have
abbrev pub room : AddressMode → ℕ
room A = 1
room X = 1
room XInc = 4
room Y = 1
room Ya = 2
room Imm = 4
room D = 3
room Dx = 6
room Dy = 6
room Ix = 3
room Iy = 3
room Idx = 11
room Idy = 11
room Abs = 5
room AbsX = 8
room AbsY = 8
room Iax = 7
room Rel = 4
room Mb = 2
room Nmb = 3
room C = 1
room Sp = 2
room Psw = 3
room (Encoded n) = 5

small_signed : (b : ℕ) → b < 256 → nat_abs (signed_of b) < 1000
small_signed b h = by_half b (λ t. nat_abs (cond t (pos b) (negsuc (255 - b))) < 1000) (λ q. omega arith) (λ q. omega arith)

length_short : (n : ℕ) → length (hex_short n) ≤ 2
length_short n = go (ltb n 16)
  where
    go : (b : Bool) → length (cond b (hex_digit n ∷ []) (hex_byte n)) ≤ 2
    go true = omega arith
    go false = omega arith

-- the text of a mode is within its room, and no room is above 11
within : (m : AddressMode) (low high : ℕ) → low < 256 → (length (mode_text m low high) ≤ room m) × (room m ≤ 11)
within A low high h = (omega arith, omega arith)
within X low high h = (omega arith, omega arith)
within XInc low high h = (omega arith, omega arith)
within Y low high h = (omega arith, omega arith)
within Ya low high h = (omega arith, omega arith)
within Imm low high h = (omega arith, omega arith)
within D low high h = (omega arith, omega arith)
within Dx low high h = (omega arith, omega arith)
within Dy low high h = (omega arith, omega arith)
within Ix low high h = (omega arith, omega arith)
within Iy low high h = (omega arith, omega arith)
within Idx low high h = (omega arith, omega arith)
within Idy low high h = (omega arith, omega arith)
within Abs low high h = (omega arith, omega arith)
within AbsX low high h = (omega arith, omega arith)
within AbsY low high h = (omega arith, omega arith)
within Iax low high h = (omega arith, omega arith)
within Rel low high h = (length_signed (signed_of low) (small_signed low h), omega arith)
within Mb low high h = (omega arith, omega arith)
within Nmb low high h = (omega arith, omega arith)
within C low high h = (omega arith, omega arith)
within Sp low high h = (omega arith, omega arith)
within Psw low high h = (omega arith, omega arith)
within (Encoded n) low high h = (omega (arith, length_short n), omega arith)

pub length_mode : (m : AddressMode) (low high : ℕ) → low < 256 → length (mode_text m low high) ≤ room m
length_mode m low high h = (within m low high h).0

-- ---- a list of modes

module _ (bytes : List ℕ) (small : Bytes bytes) where
  length_at : (m : AddressMode) (at : ℕ) → length (text_at m bytes at) ≤ 11
  length_at m at = omega (arith, within m (get_or bytes at 0) (get_or bytes (at + 1) 0) (small at))

  -- 11 bytes for each mode, and 2 between one and the next
  length_list : (ms : List AddressMode) → length (modes_text ms bytes) ≤ 13 * length ms - 2
  length_list [] = omega arith
  length_list (m ∷ []) = omega (arith, length_at m 0)
  length_list (m ∷ l ∷ ms) =
      simp length-append (omega (arith, length_at m (taken (l ∷ ms)), length_list (l ∷ ms)))

pub length_modes : (ms : List AddressMode) (bytes : List ℕ) → Bytes bytes → length ms ≤ 3 → length (modes_text ms bytes) ≤ 37
length_modes ms bytes small h = omega (arith, length_list bytes small ms)
