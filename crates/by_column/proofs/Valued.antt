-- Bits, words and flags: the value of the bit that an opcode names, C by bit 0 of a byte, and the rows that store nothing.
-- Assumes nothing.
use Rattle.std.proofs.Common.{◌≡◌, ℕ, ◌+◌, ◌-◌, ◌*◌, ◌/◌, ◌%◌, ◌^◌, ◌<◌, ◌≤◌, Bool, true, false, cond, not, ◌&&◌, ◌||◌, T, eqb, ltb, leb, refl, ap, ◌∙◌, arith, le→leb, lt→ltb, le-ltb, lt-ltb, leb-false, leb-true}
use lib.Bits.{bit_and, bit_or, bit_xor, or_mod, and_mod, xor_mod}
use mir.Facts.{yes_and}
use Rattle.laws.specs.Table.{same_table, where_same}
use Rattle.memory.specs.World.{World}
use Rattle.memory.specs.Access.{Access, then, put, Outcome, Does}
use Rattle.memory.specs.Access.Access.{done, store_at}
use Rattle.memory.proofs.Laws.{put_then}
use Rattle.editions.specs.declared.Edition.{Edition}
use Rattle.psw.specs.Flags.{with_i}
use Rattle.processor.specs.Record.{with_flags, with_carry}
use Rattle.processor.specs.declared.Processor.{Processor}
use Rattle.instructions.specs.Rows.{rows}
use Rattle.instructions.specs.Gather.{gather_of}
use Rattle.instructions.specs.Effects.{bit_in, differs, branching, effect_of}
use Rattle.instructions.specs.Step.{finish_of}
use Rattle.instructions.specs.declared.Operands.{Operands}
use Rattle.instructions.specs.declared.Stores.TheVariants.{Nothing}
use Rattle.registers.specs.Flat.{flags_in, record_of}
use Rattle.registers.specs.Fields.{set_c, set_rest}
use Rattle.registers.specs.declared.Registers.{Registers}
use Rattle.by_column.specs.Columns.{row_does, opcode_at, carry_group, word_group, branch_flag}

-- a store first, of a byte that is known by an equation
pub put_as : {R : Type 0} {a b byte : ℕ} {p : Access R} {w : World} {o : Outcome World Unit} {q : Outcome World R}
    → b ≡ byte → Does (put a b) w o → Does p o.left q → Does (store_at a byte p) w q
put_as e f g = rw (← e) (put_then f g)

-- The number of the bit that an opcode names is its row.
pub named : (column row : ℕ) {bit : ℕ} → column < 32 → bit ≡ 2 ^ row → bit ≡ bit_in (opcode_at column row)
named column row h e = e ∙ ap (λ (k : ℕ). 2 ^ k) same
  where
    same : row ≡ opcode_at column row / 32
    same = omega arith

-- ---- C, which is bit 0 of its byte

or_bit : (c : ℕ) (b : Bool) → eqb (bit_or c (cond b 1 0) % 2) 1 ≡ (eqb (c % 2) 1 || b)
or_bit c true = rw (or_mod c 1 1) (same_table 2 (λ k. eqb (bit_or k 1) 1) (λ k. eqb k 1 || true) refl (c % 2) (omega arith))
or_bit c false = rw (or_mod c 0 1) (same_table 2 (λ k. eqb (bit_or k 0) 1) (λ k. eqb k 1 || false) refl (c % 2) (omega arith))

and_bit : (c : ℕ) (b : Bool) → eqb (bit_and c (cond b 1 0) % 2) 1 ≡ (eqb (c % 2) 1 && b)
and_bit c true = rw (and_mod c 1 1) (same_table 2 (λ k. eqb (bit_and k 1) 1) (λ k. eqb k 1 && true) refl (c % 2) (omega arith))
and_bit c false = rw (and_mod c 0 1) (same_table 2 (λ k. eqb (bit_and k 0) 1) (λ k. eqb k 1 && false) refl (c % 2) (omega arith))

xor_bit : (c : ℕ) (b : Bool) → eqb (bit_xor c (cond b 1 0) % 2) 1 ≡ differs (eqb (c % 2) 1) b
xor_bit c true = rw (xor_mod c 1 1) (same_table 2 (λ k. eqb (bit_xor k 1) 1) (λ k. differs (eqb k 1) true) refl (c % 2) (omega arith))
xor_bit c false = rw (xor_mod c 0 1) (same_table 2 (λ k. eqb (bit_xor k 0) 1) (λ k. differs (eqb k 1) false) refl (c % 2) (omega arith))

own_bit : (b : Bool) → eqb (cond b 1 0 % 2) 1 ≡ b
own_bit true = refl
own_bit false = refl

other_bit : (b : Bool) → 1 - cond b 1 0 ≡ cond (not b) 1 0
other_bit true = refl
other_bit false = refl

-- registers with C made of itself and a bit that was read as 1 or 0, as it is and inverted
module _ (cpu : Registers) (read : Bool) {one : ℕ} (e : one ≡ cond read 1 0) where
  pub or_carry : record_of (set_c (bit_or cpu.c one) cpu) ≡ with_carry (eqb (cpu.c % 2) 1 || read) (record_of cpu)
  or_carry = rw (e, or_bit cpu.c read)

  pub or_carry_not : record_of (set_c (bit_or cpu.c (1 - one)) cpu) ≡ with_carry (eqb (cpu.c % 2) 1 || not read) (record_of cpu)
  or_carry_not = rw (e, other_bit read, or_bit cpu.c (not read))

  pub and_carry : record_of (set_c (bit_and cpu.c one) cpu) ≡ with_carry (eqb (cpu.c % 2) 1 && read) (record_of cpu)
  and_carry = rw (e, and_bit cpu.c read)

  pub and_carry_not : record_of (set_c (bit_and cpu.c (1 - one)) cpu) ≡ with_carry (eqb (cpu.c % 2) 1 && not read) (record_of cpu)
  and_carry_not = rw (e, other_bit read, and_bit cpu.c (not read))

  pub xor_carry : record_of (set_c (bit_xor cpu.c one) cpu) ≡ with_carry (differs (eqb (cpu.c % 2) 1) read) (record_of cpu)
  xor_carry = rw (e, xor_bit cpu.c read)

  pub own_carry : record_of (set_c one cpu) ≡ with_carry read (record_of cpu)
  own_carry = rw (e, own_bit read)

-- ---- the rows

-- The rows of Mb's column that change C are all but the last two.
pub in_carries : {row : ℕ} → row < 8 → (row ≡ 6 → ⊥) → (row ≡ 7 → ⊥) → row < 6
in_carries h a b = omega arith

pub carry_stores : (row k : ℕ) (o : Operands) → row < 6 → (effect_of (carry_group row) k o).stores ≡ Nothing
unfolding effect_of
carry_stores row k o h = same_table 6 (λ r. (effect_of (carry_group r) k o).stores) (λ r. Nothing) refl row h

pub carry_taken : (row k : ℕ) (o : Operands) → row < 6 → (effect_of (carry_group row) k o).taken ≡ false
unfolding effect_of
carry_taken row k o h = same_table 6 (λ r. (effect_of (carry_group r) k o).taken) (λ r. false) refl row h

-- The rows of the words' column that change YA and flags alone are 2 to 5.
abbrev pub in_words : ℕ → Bool
in_words row = leb 2 row && ltb row 6

module _ (row : ℕ) (h : (2 ≤ row) × (row < 6)) where
  pub word_row : row < 8
  word_row = omega arith

  pub in_words_lem : T (in_words row)
  in_words_lem = yes_and (leb 2 row) (ltb row 6) (le→leb 2 row h.0) (lt→ltb row 6 h.1)

  pub word_stores : (k : ℕ) (o : Operands) → (effect_of (word_group row) k o).stores ≡ Nothing
  unfolding effect_of
  word_stores k o = where_same 8 in_words Nothing (λ r. (effect_of (word_group r) k o).stores) (λ r. Nothing) refl row word_row in_words_lem

  pub word_taken : (k : ℕ) (o : Operands) → (effect_of (word_group row) k o).taken ≡ false
  unfolding effect_of
  word_taken k o = where_same 8 in_words false (λ r. (effect_of (word_group r) k o).taken) (λ r. false) refl row word_row in_words_lem

-- ---- flags

-- what is below 128 has not the top bit
pub below_half : (n : ℕ) → ltb n 128 ≡ not (leb 128 n)
below_half n = go (leb 128 n) refl
  where
    go : (b : Bool) → leb 128 n ≡ b → ltb n 128 ≡ not b
    go true e = le-ltb n 128 (leb-true 128 n e)
    go false e = lt-ltb n 128 (leb-false 128 n e)

-- I set and cleared, with B as it was
pub with_i_lem : (cpu : Registers)
    → ◌≡◌ {A = Access Processor} (done (with_flags (with_i true (flags_in cpu)) (record_of cpu)))
    (done (record_of (set_rest (cpu.rest / 16 % 2 * 16 + 4) cpu)))
with_i_lem cpu =
    let b : (cpu.rest / 16 % 2 * 16 + 4) / 16 % 2 ≡ cpu.rest / 16 % 2 = omega arith in
    let i : (cpu.rest / 16 % 2 * 16 + 4) / 4 % 2 ≡ 1 = omega arith in
    rw (b, i)

pub without_i : (cpu : Registers)
    → ◌≡◌ {A = Access Processor} (done (with_flags (with_i false (flags_in cpu)) (record_of cpu)))
    (done (record_of (set_rest (cpu.rest / 16 % 2 * 16) cpu)))
without_i cpu =
    let b : cpu.rest / 16 % 2 * 16 / 16 % 2 ≡ cpu.rest / 16 % 2 = omega arith in
    let i : cpu.rest / 16 % 2 * 16 / 4 % 2 ≡ 0 = omega arith in
    rw (b, i)

-- Every row of the branches' column is a branch by its flag.
pub branch_rows : (edition : Edition) (cpu : Processor) (row : ℕ) → row < 8
    → row_does edition (opcode_at 0x10 row) cpu ≡ finish_of (branching (branch_flag row cpu.psw) Nothing cpu)
unfolding rows gather_of effect_of then
branch_rows edition cpu row h =
    same_table 8 (λ k. row_does edition (opcode_at 0x10 k) cpu) (λ k. finish_of (branching (branch_flag k cpu.psw) Nothing cpu)) refl row h
