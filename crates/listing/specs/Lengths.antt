-- How long the lines can be: an instruction has at most 3 bytes, and its line at most 18 bytes for each of them.
-- Assumes nothing.
use Rattle.std.specs.Prelude.{◌≡◌, ℕ, zero, suc, ◌+◌, ◌-◌, ◌*◌, ◌%◌, ◌<◌, ◌≤◌, Bool, true, false, cond, List, [], ◌∷◌, length, slice_index, refl}
use native.Mathlib.Omega.{arith}
use Rattle.std.proofs.Math.ListN.{length-append}
use Rattle.std.proofs.Common.{ltb-false}
use Rattle.laws.specs.Below.{most_below}
use Rattle.laws.specs.Bytes.{Bytes}
use Rattle.opcodes.specs.Opcodes.{constants}
use Rattle.opcode_data.specs.Data.{data_of}
use Rattle.opcode_data.specs.Format.{text_at}
use Rattle.opcode_data.proofs.Lengths.{room, length_mode}
use Rattle.text.specs.Quoted.{text}
use Rattle.listing.specs.Operands.{Operand}
use Rattle.listing.specs.Instruction.{operands_at, length_of, letters, joined, operands_text, instruction_text, is_cut}
use Rattle.listing.specs.Session.{line_text, turn_text, turn_bytes, lines_of}

-- ---- one instruction

-- the most bytes that operands can have, with the blank before them and a comma and a blank between two of them
abbrev operands_room : List Operand → ℕ
operands_room [] = 0
operands_room (o ∷ []) = room o.mode + 1
operands_room (o ∷ p ∷ os) = room o.mode + 2 + operands_room (p ∷ os)

-- the most bytes that an instruction's text can have
abbrev room_of : ℕ → ℕ
room_of opcode = length (letters (data_of opcode).name) + operands_room (operands_at opcode)

-- with the address and the blank before it and the newline behind it
short_line : (opcode : ℕ) → opcode < 256 → room_of opcode + 6 ≤ 18 * length_of opcode
unfolding data_of constants length_of
short_line = most_below 256 (λ k. room_of k + 6) (λ k. 18 * length_of k) tt

pub few_bytes : (opcode : ℕ) → opcode < 256 → length_of opcode ≤ 3
unfolding data_of constants length_of
few_bytes = most_below 256 length_of (λ k. 3) tt

module _ (bytes : List ℕ) (small : Bytes bytes) where
  length_operand : (o : Operand) → length (text_at o.mode bytes o.at) ≤ room o.mode
  length_operand o = length_mode o.mode (slice_index bytes o.at) (slice_index bytes (o.at + 1)) (small o.at)

  length_joined : (o : Operand) (os : List Operand) → length (joined (o ∷ os) bytes) + 1 ≤ operands_room (o ∷ os)
  length_joined o [] = omega (arith, length_operand o)
  length_joined o (p ∷ os) = simp length-append (omega (arith, length_operand o, length_joined p os))

  length_operands : (os : List Operand) → length (operands_text os bytes) ≤ operands_room os
  length_operands [] = omega arith
  length_operands (o ∷ os) = omega (arith, length_joined o os)

  length_instruction : (opcode : ℕ) → opcode < 256 → length (instruction_text opcode bytes) + 6 ≤ 18 * length_of opcode
  unfolding instruction_text
  length_instruction opcode h =
      rw length-append (omega (arith, length_operands (operands_at opcode), short_line opcode h))

  length_line : (address opcode : ℕ) → opcode < 256 → length (line_text address opcode bytes) ≤ 18 * length_of opcode
  unfolding line_text
  length_line address opcode h = simp length-append (omega (arith, length_instruction opcode h))

-- a line of text, which holds 80 bytes, has room for each instruction
pub instruction_fits : (opcode : ℕ) (bytes : List ℕ) → opcode < 256 → Bytes bytes → length (instruction_text opcode bytes) ≤ 80
instruction_fits opcode bytes h small = omega (arith, length_instruction bytes small opcode h, few_bytes opcode h)

-- ---- one line of the listing

-- some bytes, and no more than there are
pub turn_within : (code : List ℕ) → 0 < length code → (0 < turn_bytes code) × (turn_bytes code ≤ length code)
unfolding turn_bytes length_of
turn_within [] h = absurd (omega arith)
turn_within (opcode ∷ code) h = go (is_cut (opcode ∷ code)) refl
  where
    go : (b : Bool) → is_cut (opcode ∷ code) ≡ b
        → (0 < cond b (length code + 1) (length_of opcode)) × (cond b (length code + 1) (length_of opcode) ≤ suc (length code))
    go true e = (omega arith, omega arith)
    go false e = (omega arith, omega (arith, ltb-false (length code + 1) (length_of opcode) e))

-- not too long for the bytes that it stands for, nor for a line of text
module _ (address : ℕ) where
  length_turn : (code : List ℕ) → Bytes code
      → (length (turn_text address code) ≤ 18 * turn_bytes code) × (length (turn_text address code) ≤ 80)
  unfolding turn_text turn_bytes
  length_turn [] small = (omega arith, omega arith)
  length_turn (opcode ∷ code) small = go (is_cut (opcode ∷ code))
    where
      line : Bool → List ℕ
      line b = cond b (text "refused 4\n") (line_text address opcode code)

      go : (b : Bool) → (length (line b) ≤ 18 * cond b (length code + 1) (length_of opcode)) × (length (line b) ≤ 80)
      go true = (omega arith, omega arith)
      go false =
          let short = length_line code (λ at. small (suc at)) address opcode (small 0) in
          (short, omega (arith, few_bytes opcode (small 0)))

  pub turn_fits : (code : List ℕ) → Bytes code → length (turn_text address code) ≤ 80
  turn_fits code small = (length_turn code small).1

-- ---- all lines

pub length_lines : (before address : ℕ) (code : List ℕ) → Bytes code → before ≤ length code
    → length (lines_of before address code) ≤ 18 * (length code - before)
unfolding lines_of
length_lines zero address [] small h = omega arith
length_lines (suc before) address [] small h = omega arith
length_lines (suc before) address (byte ∷ code) small h =
    let less : suc (length code) - suc before ≡ length code - before = omega arith in
    rw less (length_lines before _ code (λ at. small (suc at)) (omega arith))
length_lines zero address (opcode ∷ code) small h =
    let n = turn_bytes (opcode ∷ code) in
    let some = turn_within (opcode ∷ code) (omega arith) in
    let later = length_lines (n - 1) ((address + 1) % 65536) code (λ at. small (suc at)) (omega arith) in
    rw length-append (omega (arith, (length_turn address (opcode ∷ code) small).0))
