-- The text of a list of modes with their operand bytes, and what refuses it.
use Rattle.std.specs.Prelude.{ℕ, ◌+◌, ◌*◌, cond, List, [], ◌∷◌, ◌++◌, ltb, length, get_or}
use Rattle.refusals.specs.declared.Refusal.TheVariants.{Count, Operands}
use Rattle.signed.specs.Displacement.{signed_of}
use Rattle.text.specs.Digits.{hex_byte, hex_word, hex_short, signed_decimal}
use Rattle.text.specs.Given.{Wanted, says, refuses}
use Rattle.text.specs.Quoted.{text}
use Rattle.opcode_data.specs.Lists.{list_of}
use Rattle.opcode_data.specs.declared.AddressMode.{AddressMode}
use Rattle.opcode_data.specs.declared.AddressMode.TheVariants.{A, X, XInc, Y, Ya, Imm, D, Dx, Dy, Ix, Iy, Idx, Idy, Abs, AbsX, AbsY, Iax, Rel, Mb, Nmb, C, Sp, Psw, Encoded}
use Rattle.opcode_data.specs.declared.Modes.{Modes}

-- How many operand bytes the text of a mode takes. Mb and Nmb print none.
abbrev pub takes : AddressMode → ℕ
takes A = 0
takes X = 0
takes XInc = 0
takes Y = 0
takes Ya = 0
takes Imm = 1
takes D = 1
takes Dx = 1
takes Dy = 1
takes Ix = 0
takes Iy = 0
takes Idx = 1
takes Idy = 1
takes Abs = 2
takes AbsX = 2
takes AbsY = 2
takes Iax = 2
takes Rel = 1
takes Mb = 0
takes Nmb = 0
takes C = 0
takes Sp = 0
takes Psw = 0
takes (Encoded n) = 0

-- How a mode is printed, with the byte it takes, or the word of its two bytes.
abbrev pub mode_text : AddressMode → ℕ → ℕ → List ℕ
mode_text A low high = text "A"
mode_text X low high = text "X"
mode_text XInc low high = text "XINC"
mode_text Y low high = text "Y"
mode_text Ya low high = text "YA"
mode_text Imm low high = text "#$" ++ hex_byte low
mode_text D low high = text "$" ++ hex_byte low
mode_text Dx low high = text "$" ++ hex_byte low ++ text ", X"
mode_text Dy low high = text "$" ++ hex_byte low ++ text ", Y"
mode_text Ix low high = text "(X)"
mode_text Iy low high = text "(Y)"
mode_text Idx low high = text "([$" ++ hex_byte low ++ text " + X])"
mode_text Idy low high = text "([$" ++ hex_byte low ++ text "] + Y)"
mode_text Abs low high = text "$" ++ hex_word (high * 256 + low)
mode_text AbsX low high = text "$" ++ hex_word (high * 256 + low) ++ text ", X"
mode_text AbsY low high = text "$" ++ hex_word (high * 256 + low) ++ text ", Y"
mode_text Iax low high = text "[$" ++ hex_word (high * 256 + low) ++ text "]"
mode_text Rel low high = signed_decimal (signed_of low)
mode_text Mb low high = text "Mb"
mode_text Nmb low high = text "Nmb"
mode_text C low high = text "C"
mode_text Sp low high = text "SP"
mode_text Psw low high = text "PSW"
mode_text (Encoded n) low high = text "bit" ++ hex_short n

-- how many operand bytes a list takes
abbrev pub taken : List AddressMode → ℕ
taken [] = 0
taken (m ∷ ms) = takes m + taken ms

-- a mode with the operand bytes that stand at a place
abbrev pub text_at : AddressMode → List ℕ → ℕ → List ℕ
text_at m bytes at = mode_text m (get_or bytes at 0) (get_or bytes (at + 1) 0)

-- Bytes go from the last mode to the first, so the bytes of a mode stand behind those of the modes after it. No modes give no text.
abbrev pub modes_text : List AddressMode → List ℕ → List ℕ
modes_text [] bytes = []
modes_text (m ∷ []) bytes = text_at m bytes 0
modes_text (m ∷ l ∷ ms) bytes = text_at m bytes (taken (l ∷ ms)) ++ text ", " ++ modes_text (l ∷ ms) bytes

-- Refused for the count exactly if it is above 3, then for want of operands exactly if there are fewer operand bytes than the modes take.
-- Spare bytes are ignored.
unfoldable pub format_of : Modes → List ℕ → Wanted
format_of m bytes =
    cond (ltb 3 m.count) (refuses Count)
    (cond (ltb (length bytes) (taken (list_of m))) (refuses Operands)
    (says (modes_text (list_of m) bytes)))
