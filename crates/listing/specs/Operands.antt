-- Which of the bytes behind the opcode each operand of an instruction takes. An instruction's text and its length follow from this.
use Rattle.std.specs.Prelude.{ℕ, ◌+◌, max, Bool, true, false, cond, ◌&&◌, ◌||◌, List, [], ◌∷◌}
use Rattle.opcode_data.specs.declared.AddressMode.{AddressMode}
use Rattle.opcode_data.specs.declared.AddressMode.TheVariants.{A, X, XInc, Y, Ya, Imm, D, Dx, Dy, Ix, Iy, Idx, Idy, Abs, AbsX, AbsY, Iax, Rel, Mb, Nmb, C, Sp, Psw, Encoded}

-- ---- what a mode fills

-- Nothing, the direct page byte of D or Dx, the displacement of Rel, another byte, or two bytes.
pub data Part : Type 0 where
  nothing : Part
  direct_page : Part
  displacement : Part
  byte : Part
  two_bytes : Part

-- Mb and Nmb fill two bytes, of which their text shows none.
abbrev pub part_of : AddressMode → Part
part_of A = nothing
part_of X = nothing
part_of XInc = nothing
part_of Y = nothing
part_of Ya = nothing
part_of Imm = byte
part_of D = direct_page
part_of Dx = direct_page
part_of Dy = byte
part_of Ix = nothing
part_of Iy = nothing
part_of Idx = byte
part_of Idy = byte
part_of Abs = two_bytes
part_of AbsX = two_bytes
part_of AbsY = two_bytes
part_of Iax = two_bytes
part_of Rel = displacement
part_of Mb = two_bytes
part_of Nmb = two_bytes
part_of C = nothing
part_of Sp = nothing
part_of Psw = nothing
part_of (Encoded n) = nothing

-- how many bytes that is
abbrev pub size : Part → ℕ
size nothing = 0
size direct_page = 1
size displacement = 1
size byte = 1
size two_bytes = 2

-- how many bytes of its instruction a mode fills
abbrev pub fills : AddressMode → ℕ
fills m = size (part_of m)

-- how many the modes of a list fill together
abbrev pub filled : List AddressMode → ℕ
filled [] = 0
filled (m ∷ ms) = fills m + filled ms

-- ---- lists that hold both a direct page mode and Rel

-- whether a part is the direct page byte
abbrev pub is_direct_page : Part → Bool
is_direct_page nothing = false
is_direct_page direct_page = true
is_direct_page displacement = false
is_direct_page byte = false
is_direct_page two_bytes = false

-- whether it is the displacement
abbrev pub is_displacement : Part → Bool
is_displacement nothing = false
is_displacement direct_page = false
is_displacement displacement = true
is_displacement byte = false
is_displacement two_bytes = false

-- some mode of a list has a part that passes a test
abbrev pub has : (Part → Bool) → List AddressMode → Bool
has f [] = false
has f (m ∷ ms) = f (part_of m) || has f ms

-- both a direct page mode, D or Dx, and Rel
abbrev pub branches_on_direct_page : List AddressMode → Bool
branches_on_direct_page ms = has is_direct_page ms && has is_displacement ms

-- ---- where the bytes of each operand stand

-- an operand: its mode, and the place of its first byte behind the opcode
pub record Operand : Type 0 where
  pub mode : AddressMode
  pub at : ℕ

infix 90 ◌from◌
abbrev pub ◌from◌ : AddressMode → ℕ → Operand
m from at = record { mode = m; at = at }

-- bytes that go from the last mode to the first: those of a mode stand behind those of the modes after it
abbrev pub from_last : List AddressMode → List Operand
from_last [] = []
from_last (m ∷ ms) = m from filled ms ∷ from_last ms

-- bytes that go from the first mode to the last, from a place on
abbrev pub from_first : ℕ → List AddressMode → List Operand
from_first at [] = []
from_first at (m ∷ ms) = m from at ∷ from_first (at + fills m) ms

-- Bytes go from the last mode to the first. Where a direct page mode and Rel are in one list the direct page byte is the first in memory:
-- there they go from the first mode to the last. The direct page mode is the first of every such list (Order: `direct_page_first`).
abbrev pub operands_of : List AddressMode → List Operand
operands_of ms = cond (branches_on_direct_page ms) (from_first 0 ms) (from_last ms)

-- how many bytes stand behind the opcode: all up to the last one that an operand takes
abbrev pub bytes_of : List Operand → ℕ
bytes_of [] = 0
bytes_of (o ∷ os) = max (o.at + fills o.mode) (bytes_of os)
