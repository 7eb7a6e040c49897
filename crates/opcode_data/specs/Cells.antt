-- How the code's table writes an operand: by a letter. The definition of an opcode's data does not rest on this page.
use Rattle.std.specs.Prelude.{ℕ, ◌/◌, not, cond, List, [], ◌∷◌, map, count_by, eqb}
use Prim.Native.Char.{Char, code}
use Rattle.opcode_data.specs.declared.AddressMode.{AddressMode}
use Rattle.opcode_data.specs.declared.AddressMode.TheVariants.{A, X, XInc, Y, Ya, Imm, D, Dx, Dy, Ix, Iy, Idx, Idy, Abs, AbsX, AbsY, Iax, Rel, Mb, Nmb, C, Sp, Psw, Encoded}
use Rattle.opcode_data.specs.declared.Modes.{Modes}

-- a letter and the mode that it stands for
pub record Letter : Type 0 where
  pub letter : ℕ
  pub mode : AddressMode

infix 90 ◌for◌
abbrev pub ◌for◌ : Char → AddressMode → Letter
c for m = record { letter = code c; mode = m }

-- registers by capitals, memory by small letters and brackets; `3` and `4` are the opcode's top three and top four bits
abbrev pub legend : ℕ → List Letter
legend opcode =
    "X" for X ∷
    "+" for XInc ∷
    "Y" for Y ∷
    "W" for Ya ∷
    "#" for Imm ∷
    "d" for D ∷
    "e" for Dx ∷
    "f" for Dy ∷
    "(" for Ix ∷
    ")" for Iy ∷
    "[" for Idx ∷
    "]" for Idy ∷
    "a" for Abs ∷
    "b" for AbsX ∷
    "c" for AbsY ∷
    "@" for Iax ∷
    "r" for Rel ∷
    "m" for Mb ∷
    "n" for Nmb ∷
    "C" for C ∷
    "S" for Sp ∷
    "P" for Psw ∷
    "3" for Encoded (opcode / 32) ∷
    "4" for Encoded (opcode / 16) ∷
    []

-- the mode of a letter, A for any other
abbrev pub look_up : List Letter → ℕ → AddressMode
look_up [] letter = A
look_up (l ∷ ls) letter = cond (eqb letter l.letter) l.mode (look_up ls letter)

abbrev pub mode_of : ℕ → ℕ → AddressMode
mode_of letter opcode = look_up (legend opcode) letter

-- The operands that the letters of a cell stand for. A letter counts as an operand, a blank does not.
abbrev pub operands : List ℕ → ℕ → Modes
operands letters opcode = record {
  three = map (λ letter. mode_of letter opcode) letters;
  count = count_by (λ letter. not (eqb letter (code " "))) letters;
}
