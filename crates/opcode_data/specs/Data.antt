-- The name and the modes of each opcode, by the rule on the names of the constants.
use Rattle.std.specs.Prelude.{ℕ, ◌/◌, Bool, true, false, cond, ◌&&◌, List, [], ◌∷◌, ◌++◌, eqb, take, replicate}
use Prim.Native.Char.{code}
use Prim.Native.String.{String}
use Rattle.text.specs.Quoted.{text}
use Rattle.opcodes.specs.Opcodes.{Constant, constants, set1, clr1, bbs, bbc, tcall, names}
use Rattle.opcode_data.specs.Lists.{record_of}
use Rattle.opcode_data.specs.declared.AddressMode.{AddressMode}
use Rattle.opcode_data.specs.declared.AddressMode.TheVariants.{A, X, XInc, Y, Ya, Imm, D, Dx, Dy, Ix, Iy, Idx, Idy, Abs, AbsX, AbsY, Iax, Rel, Mb, Nmb, C, Sp, Psw, Encoded}
use Rattle.opcode_data.specs.declared.OpcodeData.{OpcodeData}

-- ---- the words of a constant's name

-- a name cut at its underscores: ADC_A_IMM gives ADC, A and IMM
abbrev pub cut : Bool → ℕ → List (List ℕ) → List (List ℕ)
cut true c words = [] ∷ words
cut false c [] = (c ∷ []) ∷ []
cut false c (word ∷ words) = (c ∷ word) ∷ words

abbrev pub words_of : List ℕ → List (List ℕ)
words_of [] = [] ∷ []
words_of (c ∷ cs) = cut (eqb c (code "_")) c (words_of cs)

-- two texts are the same
abbrev pub same : List ℕ → List ℕ → Bool
same [] [] = true
same [] (d ∷ ds) = false
same (c ∷ cs) [] = false
same (c ∷ cs) (d ∷ ds) = eqb c d && same cs ds

-- ---- modes by suffix

-- a suffix and the mode that it names
pub record Suffix : Type 0 where
  pub word : String
  pub mode : AddressMode

infix 90 ◌means◌
abbrev pub ◌means◌ : String → AddressMode → Suffix
word means mode = record { word = word; mode = mode }

-- R is Rel.
abbrev pub suffixes : List Suffix
suffixes =
    "A" means A ∷
    "X" means X ∷
    "XINC" means XInc ∷
    "Y" means Y ∷
    "YA" means Ya ∷
    "IMM" means Imm ∷
    "D" means D ∷
    "DX" means Dx ∷
    "DY" means Dy ∷
    "IX" means Ix ∷
    "IY" means Iy ∷
    "IDX" means Idx ∷
    "IDY" means Idy ∷
    "ABS" means Abs ∷
    "ABSX" means AbsX ∷
    "ABSY" means AbsY ∷
    "IAX" means Iax ∷
    "R" means Rel ∷
    "MB" means Mb ∷
    "NMB" means Nmb ∷
    "C" means C ∷
    "SP" means Sp ∷
    "PSW" means Psw ∷
    []

-- a word's mode in front of the modes of the words behind it
abbrev pub found : List Suffix → List ℕ → List AddressMode → List AddressMode
found [] word later = later
found (s ∷ ss) word later = cond (same (text s.word) word) (s.mode ∷ later) (found ss word later)

-- Modes stand in the order of the suffixes.
abbrev pub modes_of : List (List ℕ) → List AddressMode
modes_of [] = []
modes_of (word ∷ words) = found suffixes word (modes_of words)

-- ---- the data of an opcode

-- five bytes, with blanks behind a shorter name
abbrev pub padded : List ℕ → List ℕ
padded name = take 5 (name ++ replicate 5 (code " "))

abbrev pub listed : List ℕ → List AddressMode → OpcodeData
listed name modes = record { name = padded name; modes = record_of modes }

-- A constant's words: the first is the instruction's name, the others name its modes.
abbrev pub by_words : List (List ℕ) → OpcodeData
by_words [] = listed [] []
by_words (name ∷ suffixes) = listed name (modes_of suffixes)

-- the name of the constant that stands for an opcode
abbrev pub name_in : List Constant → ℕ → String
name_in [] opcode = ""
name_in (c ∷ cs) opcode = cond (eqb c.opcode opcode) c.name (name_in cs opcode)

-- The masked families and PCALL, whose constants have no suffixes, have their modes by name: SET1 and CLR1 take D, Encoded;
-- BBS and BBC D, Encoded, Rel; TCALL Encoded; PCALL Imm. All others go by their constants.
unfoldable pub data_of : ℕ → OpcodeData
unfolding constants
data_of opcode =
    cond (names set1 opcode) (listed (text "SET1") (D ∷ Encoded (opcode / 32) ∷ []))
    (cond (names clr1 opcode) (listed (text "CLR1") (D ∷ Encoded (opcode / 32) ∷ []))
    (cond (names bbs opcode) (listed (text "BBS") (D ∷ Encoded (opcode / 32) ∷ Rel ∷ []))
    (cond (names bbc opcode) (listed (text "BBC") (D ∷ Encoded (opcode / 32) ∷ Rel ∷ []))
    (cond (names tcall opcode) (listed (text "TCALL") (Encoded (opcode / 16) ∷ []))
    (cond (eqb opcode 0x4F) (listed (text "PCALL") (Imm ∷ []))
    (by_words (words_of (text (name_in constants opcode)))))))))
