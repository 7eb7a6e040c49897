-- What the order of operand bytes comes to, computed over all 256 opcodes: each byte is one operand's, and an instruction's text is what
-- `format_address_modes` makes of its modes and bytes, save for CBNE, DBNZ on the direct page, BBS and BBC.
-- Assumes nothing.
use Rattle.std.specs.Prelude.{◌≡◌, ℕ, ◌+◌, ◌<◌, Bool, true, false, cond, not, ◌&&◌, ◌||◌, List, [], ◌∷◌, ◌++◌, ◌==◌, nat_eq, nat_le, nat_lt, slice_index}
use Rattle.std.proofs.Math.Path.{refl}
use Rattle.std.proofs.Common.{eqb→eq}
use Rattle.laws.specs.Below.{below, below_at}
use Rattle.laws.specs.Once.{Once, once, count}
use Rattle.laws.specs.Table.{same_table, where_same}
use Rattle.text.specs.Digits.{decimal_within}
use Rattle.text.specs.Quoted.{text}
use Rattle.opcodes.specs.Opcodes.{constants, names, bbs, bbc}
use Rattle.opcode_data.specs.Data.{data_of}
use Rattle.opcode_data.specs.Format.{modes_text}
use Rattle.opcode_data.specs.declared.AddressMode.{AddressMode}
use Rattle.opcode_data.specs.declared.AddressMode.TheVariants.{A}
use Rattle.listing.specs.Operands.{Part, part_of, fills, Operand, ◌from◌, is_direct_page, is_displacement, branches_on_direct_page, bytes_of}
use Rattle.listing.specs.Instruction.{modes_at, operands_at, letters, instruction_text}

-- ---- each byte is one operand's

-- whether an operand takes the byte at a place behind the opcode
abbrev pub takes_byte : ℕ → Operand → Bool
takes_byte place o = nat_le o.at place && nat_lt place (o.at + fills o.mode)

-- Every byte behind the opcode is taken by one operand and by no second. (`A from 0` takes no byte.)
pub each_byte : (opcode place : ℕ) → opcode < 256 → place < bytes_of (operands_at opcode)
    → Once (takes_byte place) (A from 0) (operands_at opcode)
unfolding data_of constants
each_byte opcode place h within =
    once (takes_byte place) (A from 0) (operands_at opcode)
    (eqb→eq _ 1
    (below_at (bytes_of (operands_at opcode)) (λ i. nat_eq (taken opcode i) 1)
    (below_at 256 (λ k. below (bytes_of (operands_at k)) (λ i. nat_eq (taken k i) 1)) tt opcode h) place within))
  where
    taken : ℕ → ℕ → ℕ
    taken k i = count (takes_byte i) (operands_at k)

-- ---- which opcodes have the corrected order

-- CBNE d, CBNE d+X, DBNZ d, BBS and BBC
abbrev pub corrected : ℕ → Bool
corrected opcode = opcode == 0x2E || opcode == 0xDE || opcode == 0x6E || names bbs opcode || names bbc opcode

-- They are those whose list holds both a direct page mode and Rel.
pub the_corrected : (opcode : ℕ) → opcode < 256 → branches_on_direct_page (modes_at opcode) ≡ corrected opcode
unfolding data_of constants
the_corrected = same_table 256 (λ k. branches_on_direct_page (modes_at k)) corrected refl

-- where the operands stand whose part passes a test
abbrev pub places : (Part → Bool) → List Operand → List ℕ
places f [] = []
places f (o ∷ os) = cond (f (part_of o.mode)) (o.at ∷ places f os) (places f os)

-- In each of them the direct page byte is the first byte behind the opcode, and the displacement the second.
pub direct_page_first : (opcode : ℕ) → opcode < 256 → corrected opcode ≡ true
    → (places is_direct_page (operands_at opcode) ≡ 0 ∷ []) × (places is_displacement (operands_at opcode) ≡ 1 ∷ [])
unfolding data_of constants
direct_page_first opcode h e = (
  where_same 256 corrected [] (λ k. places is_direct_page (operands_at k)) (λ k. 0 ∷ []) refl opcode h (rw e tt),
  where_same 256 corrected [] (λ k. places is_displacement (operands_at k)) (λ k. 1 ∷ []) refl opcode h (rw e tt),
)

-- ---- what that changes, whatever the operand bytes

-- a list as `format_address_modes` prints it, behind a blank; nothing where it is empty
abbrev pub formatted : List AddressMode → List ℕ → List ℕ
formatted [] bytes = []
formatted (m ∷ ms) bytes = text " " ++ modes_text (m ∷ ms) bytes

-- an opcode's name, and its list so printed: the text of every opcode before the correction
abbrev pub formatted_text : ℕ → List ℕ → List ℕ
formatted_text opcode bytes = letters (data_of opcode).name ++ formatted (modes_at opcode) bytes

module _ (bytes : List ℕ) where
  -- The text of every other opcode is what it was.
  pub others : (opcode : ℕ) → opcode < 256 → corrected opcode ≡ false → instruction_text opcode bytes ≡ formatted_text opcode bytes
  unfolding data_of constants instruction_text
  others opcode h e =
      where_same 256 (λ k. not (corrected k)) [] (λ k. instruction_text k bytes) (λ k. formatted_text k bytes) refl opcode h (rw e tt)

  -- the first two operand bytes, exchanged
  abbrev pub exchanged : List ℕ
  exchanged = slice_index bytes 1 ∷ slice_index bytes 0 ∷ []

  -- The text of a corrected one is what it was for the two bytes exchanged.
  pub exchanges : (opcode : ℕ) → opcode < 256 → corrected opcode ≡ true → instruction_text opcode bytes ≡ formatted_text opcode exchanged
  unfolding data_of constants instruction_text
  exchanges opcode h e =
      where_same 256 corrected [] (λ k. instruction_text k bytes) (λ k. formatted_text k exchanged) refl opcode h (rw e tt)

-- The line that the request shows, and one of BBS.
pub two_lines : (instruction_text 0x2E (0x10 ∷ 0x05 ∷ []) ≡ text "CBNE $10, +5")
    × (instruction_text 0x63 (0x10 ∷ 0x80 ∷ []) ≡ text "BBS $10, bit3, -128")
unfolding data_of constants instruction_text decimal_within
two_lines = (refl, refl)
