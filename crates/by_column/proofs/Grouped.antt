-- The families: A with a byte, a target with a source, shifts. What a row picks, and what is read and stored around it.
-- Assumes nothing.
use Rattle.std.proofs.Common.{◌≡◌, ℕ, ◌<◌, ◌≤◌, false, cond, not, T, eqb, ltb, sym, refl, ap, ◌∙◌, arith, lt→ltb}
use native.Mathlib.Decide.{ℕ_discrete}
use Rattle.laws.specs.Table.{table_of, same_table, where_same}
use Rattle.memory.specs.World.{World}
use Rattle.memory.specs.Access.{Access, then, ask, put, Outcome, outcome, Does}
use Rattle.memory.proofs.Laws.{read_then, by}
use Rattle.editions.specs.declared.Edition.{Edition}
use Rattle.processor.specs.declared.Processor.{Processor}
use Rattle.processor.specs.declared.Produced.{Produced}
use Rattle.modes.specs.Modes.{addressed}
use Rattle.modes.specs.declared.Addressed.{Addressed}
use Rattle.instructions.specs.Rows.{Operation, Mode, row, row_of}
use Rattle.instructions.specs.Rows.Operation.{nop, store_x, load_x}
use Rattle.instructions.specs.Rows.Mode.{implied}
use Rattle.instructions.specs.Families.{accumulator_group, pair_group, shift_group}
use Rattle.instructions.specs.Gather.{operands, target, loaded, gather_of}
use Rattle.instructions.specs.Effects.{effect_of, storing}
use Rattle.instructions.specs.Step.{finish_of}
use Rattle.instructions.specs.declared.Effect.{Effect}
use Rattle.instructions.specs.declared.Operands.{Operands}
use Rattle.instructions.specs.declared.Stores.TheVariants.{Nothing, Byte}
use Rattle.registers.specs.Flat.{Makes}
use Rattle.registers.specs.declared.Registers.{Registers}
use Rattle.by_column.specs.Columns.{works, row_does, opcode_at, moved}
use Rattle.by_column.proofs.Laws.{found_then, registers_alone, byte_stored, by_table, is_not}

-- A produced byte is stored.
pub made_for : {r : Registers} {p : Produced} → Makes r p → (at : ℕ) → Byte at p.byte ≡ Byte at r.z
made_for m at = ap (Byte at) (sym m.byte)

-- ---- what is read and stored around it

-- an operation that stores nothing and takes no branch; one that takes no branch
abbrev pub Quiet : Operation → Type 0
Quiet operation =
    (opcode : ℕ) (o : Operands) → ((effect_of operation opcode o).stores ≡ Nothing) × ((effect_of operation opcode o).taken ≡ false)

abbrev pub Straight : Operation → Type 0
Straight operation = (opcode : ℕ) (o : Operands) → (effect_of operation opcode o).taken ≡ false

-- A with a byte stores nothing but in row 6.
pub quiet : {row : ℕ} → row < 8 → T (not (eqb row 6)) → Quiet (accumulator_group row)
unfolding effect_of
quiet {row} h t opcode o = (
  where_same 8 (λ k. not (eqb k 6)) Nothing (λ k. (effect_of (accumulator_group k) opcode o).stores) (λ k. Nothing) refl row h t,
  where_same 8 (λ k. not (eqb k 6)) false (λ k. (effect_of (accumulator_group k) opcode o).taken) (λ k. false) refl row h t,
)

-- No pair and no shift takes a branch.
pub straight_pair : {row : ℕ} → row < 6 → Straight (pair_group row)
unfolding effect_of
straight_pair {row} h opcode o = same_table 6 (λ k. (effect_of (pair_group k) opcode o).taken) (λ k. false) refl row h

pub straight_shift : {row : ℕ} → row < 8 → Straight (shift_group row)
unfolding effect_of
straight_shift {row} h opcode o = same_table 8 (λ k. (effect_of (shift_group k) opcode o).taken) (λ k. false) refl row h

-- What a function of families leaves and stores, of the records.
abbrev pub Left : Operation → Processor → ℕ → ℕ → Processor → Type 0
Left operation cpu low high r = (opcode at next : ℕ) → r ≡ (effect_of operation opcode (operands cpu at next low high)).cpu

abbrev pub Stored : Operation → Processor → ℕ → ℕ → ℕ → Type 0
Stored operation cpu low high byte = (opcode at : ℕ) → (effect_of operation opcode (operands cpu at 0 low high)).stores ≡ Byte at byte

-- A byte at the address that a mode finds is read, and registers alone change.
pub loads : (find : Access Addressed) (operation : Operation) (opcode : ℕ) {p next r : Processor} {at v : ℕ} {w found read : World}
    → Does find w (outcome (addressed p at) found) → next ≡ p → Does (ask at) found (outcome v read)
    → Quiet operation → Left operation next v 0 r → Does (works (then find loaded) operation opcode) w (outcome r read)
unfolding loaded then
loads find operation opcode {p} {next} {r} {at} {v} f e g q l =
    found_then find loaded (λ o. finish_of (effect_of operation opcode o)) f
    (read_then g (registers_alone (q opcode (operands p at 0 v 0)).0 (q opcode (operands p at 0 v 0)).1 (rw e at (l opcode at 0))))

-- The byte is read, and another stored there.
pub changes : (find : Access Addressed) (operation : Operation) (opcode : ℕ)
    {p next r : Processor} {at v byte : ℕ} {w found read left : World}
    → Does find w (outcome (addressed p at) found) → next ≡ p → Does (ask at) found (outcome v read)
    → Straight operation → Left operation next v 0 r → Stored operation next v 0 byte → Does (put at byte) read (outcome tt left)
    → Does (works (then find loaded) operation opcode) w (outcome r left)
unfolding loaded then
changes find operation opcode {p} {next} {r} {at} {v} f e g q l s k =
    found_then find loaded (λ o. finish_of (effect_of operation opcode o)) f
    (read_then g (byte_stored (rw e at (s opcode at)) (q opcode (operands p at 0 v 0)) (rw e at (l opcode at 0)) k))

-- A byte is stored there unread.
pub stores : (find : Access Addressed) (operation : Operation) (opcode : ℕ) {p next : Processor} {at byte : ℕ} {w found left : World}
    → Does find w (outcome (addressed p at) found) → next ≡ p → effect_of operation opcode (operands p at 0 0 0) ≡ storing (Byte at byte) p
    → Does (put at byte) found (outcome tt left) → Does (works (then find target) operation opcode) w (outcome next left)
unfolding then
stores find operation opcode {p} {next} {at} {byte} f e s k =
    found_then find target (λ o. finish_of (effect_of operation opcode o)) f
    (byte_stored (ap (λ x. x.stores) s) (ap (λ x. x.taken) s) (e ∙ sym (ap (λ x. x.cpu) s)) k)

-- ---- the columns of A

-- Every row but 6 of a column that has one mode for A with a byte.
pub accumulates : (column : ℕ) (mode : Mode)
    → table_of 8 (λ k. cond (not (eqb k 6)) (row_of (opcode_at column k)) (row nop implied))
    ≡ table_of 8 (λ k. cond (not (eqb k 6)) (row (accumulator_group k) mode) (row nop implied))
    → (edition : Edition) (find : Access Addressed) (cpu : Processor) {k at v : ℕ} {p next r : Processor} {w found read : World}
    → gather_of edition mode (opcode_at column k) cpu ≡ then find loaded
    → k < 8 → (k ≡ 6 → ⊥) → Does find w (outcome (addressed p at) found) → next ≡ p → Does (ask at) found (outcome v read)
    → Left (accumulator_group k) next v 0 r → Does (row_does edition (opcode_at column k) cpu) w (outcome r read)
accumulates column mode table edition find cpu {k} gathered h n f e g l =
    by_table column (λ k. not (eqb k 6)) accumulator_group mode table edition cpu h (is_not 6 n)
    (rw gathered (loads find (accumulator_group k) (opcode_at column k) f e g (quiet h (is_not 6 n)) l))

-- ---- the columns of shifts

-- The six rows that change a byte.
pub shifts : (column : ℕ) (mode : Mode)
    → table_of 8 (λ k. cond (not (eqb k 6)) (row_of (opcode_at column k)) (row nop implied))
    ≡ table_of 8 (λ k. cond (not (eqb k 6)) (row (shift_group k) mode) (row nop implied))
    → (edition : Edition) (find : Access Addressed) (cpu : Processor) {k at v byte : ℕ} {p next r : Processor} {w found read left : World}
    → gather_of edition mode (opcode_at column k) cpu ≡ then find loaded
    → k < 8 → (k ≡ 6 → ⊥) → (k ≡ 7 → ⊥) → Does find w (outcome (addressed p at) found) → next ≡ p → Does (ask at) found (outcome v read)
    → Left (shift_group k) next v 0 r → (k < 6 → Stored (shift_group k) next v 0 byte) → Does (put at byte) read (outcome tt left)
    → Does (row_does edition (opcode_at column k) cpu) w (outcome r left)
shifts column mode table edition find cpu {k} gathered h m n f e g l s o =
    by_table column (λ k. not (eqb k 6)) shift_group mode table edition cpu h (is_not 6 m)
    (rw gathered (changes find (shift_group k) (opcode_at column k) f e g (straight_shift h) l (s (omega arith)) o))

-- ---- the columns of pairs

-- No pair asks for the opcode.
pub pairs : (column : ℕ) (mode : Mode)
    → table_of 8 (λ k. cond (ltb k 6) (row_of (opcode_at column k)) (row nop implied))
    ≡ table_of 8 (λ k. cond (ltb k 6) (row (pair_group k) mode) (row nop implied))
    → (edition : Edition) (cpu : Processor) {k : ℕ} {w : World} {q : Outcome World Processor} → k < 6
    → Does (works (gather_of edition mode (opcode_at column k) cpu) (pair_group k) 0) w q → Does (row_does edition (opcode_at column k) cpu) w q
unfolding effect_of
pairs column mode table edition cpu {k} h f =
    by_table column (λ k. ltb k 6) pair_group mode table edition cpu (omega arith) (lt→ltb k 6 h)
    (by (λ (e : Operands → Effect). then (gather_of edition mode (opcode_at column k) cpu) (λ o. finish_of (e o)))
    (same_table 6 (λ k. effect_of (pair_group k) 0) (λ k. effect_of (pair_group k) (opcode_at column k)) refl k h)
    f)

-- MOV of X, in the last two rows.
pub moves : (column : ℕ) (edition : Edition) (find : Access Addressed) (cpu : Processor) {k at : ℕ} {p next : Processor} {w found : World}
    {q : Outcome World Processor}
    → row_does edition (opcode_at column 6) cpu ≡ works (then find target) store_x 0
    → row_does edition (opcode_at column 7) cpu ≡ works (then find loaded) load_x 0
    → k < 8 → 6 ≤ k → Does find w (outcome (addressed p at) found) → next ≡ p → Does (moved k (addressed next at)) found q
    → Does (row_does edition (opcode_at column k) cpu) w q
moves column edition find cpu {k} {at} {p} {next} {w} {found} {q} six seven h n f e g = go (ℕ_discrete k 6)
  where
    there : Does (moved k (addressed p at)) found q
    there = rw e at g

    go : Dec (k ≡ 6) → Does (row_does edition (opcode_at column k) cpu) w q
    go (yes is) = rw (is, six) (found_then find target _ f (rw is at there))
    go (no not-six) = let is : k ≡ 7 = omega arith in rw (is, seven) (found_then find loaded _ f (rw is at there))
