-- How what a row reads and what it makes of that go together, and the rows of a column.
-- Assumes nothing.
use Rattle.std.proofs.Common.{◌≡◌, ℕ, zero, suc, ◌-◌, ◌*◌, ◌/◌, ◌%◌, ◌<◌, Bool, false, cond, not, T, eqb, refl, ap, ◌∙◌, arith, ne_eqb}
use Rattle.laws.specs.Table.{table_of, where_same}
use Rattle.memory.specs.World.{World}
use Rattle.memory.specs.Access.Access.{done}
use Rattle.memory.specs.Access.{Access, then, put, Outcome, outcome, perform, Does}
use Rattle.memory.proofs.Laws.{chain, ends, put_then, perform_then}
use Rattle.editions.specs.declared.Edition.{Edition}
use Rattle.processor.specs.Record.{with_a, produced}
use Rattle.processor.specs.declared.Processor.{Processor}
use Rattle.processor.specs.declared.Produced.{Produced}
use Rattle.modes.specs.Stack.{pull, raised}
use Rattle.instructions.specs.Rows.{Operation, Mode, row, row_of}
use Rattle.instructions.specs.Rows.Operation.{nop}
use Rattle.instructions.specs.Rows.Mode.{implied}
use Rattle.instructions.specs.Gather.{gather_of}
use Rattle.instructions.specs.Step.{commit_of, branch_of, finish_of}
use Rattle.instructions.specs.declared.Effect.{Effect}
use Rattle.instructions.specs.declared.Stores.TheVariants.{Nothing, Byte}
use Rattle.registers.specs.Flat.{record_of, Makes}
use Rattle.registers.specs.declared.Registers.{Registers}
use Rattle.by_column.specs.Columns.{works, row_does, opcode_at}

-- ---- one part after another

-- What is found first, and then all else: however the parts were put together.
pub found_then : {A B C : Type 0} (find : Access A) (k : A → Access B) (f : B → Access C) {w left : World} {a : A} {q : Outcome World C}
    → Does find w (outcome a left) → Does (then (k a) f) left q → Does (then (then find k) f) w q
found_then find k f {w} e g =
    record { is = (chain (λ a. then (k a) f) e g).is ∙ regrouped }
  where
    regrouped : perform (then find (λ a. then (k a) f)) w ≡ perform (then (then find k) f) w
    regrouped = rw (perform_then find (λ a. then (k a) f) w, perform_then (then find k) f w, perform_then find k w, perform_then)

-- An effect that is known by its parts.
pub registers_alone : {e : Effect} {cpu : Processor} {w : World} → e.stores ≡ Nothing → e.taken ≡ false → cpu ≡ e.cpu
    → Does (finish_of e) w (outcome cpu w)
unfolding finish_of commit_of branch_of then
registers_alone s t c = rw (s, t, c) ends

pub byte_stored : {e : Effect} {cpu : Processor} {at byte : ℕ} {w left : World} → e.stores ≡ Byte at byte → e.taken ≡ false → cpu ≡ e.cpu
    → Does (put at byte) w (outcome tt left) → Does (finish_of e) w (outcome cpu left)
unfolding finish_of commit_of branch_of then
byte_stored s t c p = rw (s, t, c) (put_then p ends)

-- A row that neither reads nor stores.
pub becomes : {p : Access Processor} {cpu : Processor} {w : World} → p ≡ done cpu → Does p w (outcome cpu w)
becomes e = rw e ends

-- A pull by registers that are known by an equation.
pub pull_as : {p q : Processor} {byte : ℕ} {w left : World} → p ≡ q
    → Does (pull p) w (outcome (produced (raised p) byte) left) → Does (pull q) w (outcome (produced (raised q) byte) left)
pull_as e f = rw (← e) f

-- What an operation has produced goes into A.
pub made_in_a : {r : Registers} {p : Produced} → Makes r p → with_a r.z (record_of r) ≡ with_a p.byte p.cpu
made_in_a {r} {p} m = ap (λ (z : ℕ). with_a z (record_of r)) m.byte ∙ ap (λ (q : Processor). with_a p.byte q) m.cpu

-- ---- the rows of a column

-- An arm that names its row.
pub at_row : (edition : Edition) (column : ℕ) {row : ℕ} (n : ℕ) (cpu : Processor) {w : World} {q : Outcome World Processor}
    → row ≡ n → Does (row_does edition (opcode_at column n) cpu) w q → Does (row_does edition (opcode_at column row) cpu) w q
at_row edition column n cpu e f = rw e f

-- Every row that passes p has an operation of a list and one mode: computed over the table.
pub by_table : (column : ℕ) (p : ℕ → Bool) (operations : ℕ → Operation) (mode : Mode)
    → table_of 8 (λ k. cond (p k) (row_of (opcode_at column k)) (row nop implied)) ≡ table_of 8 (λ k. cond (p k) (row (operations k) mode) (row nop implied))
    → (edition : Edition) (cpu : Processor) {k : ℕ} → k < 8 → T (p k) → {w : World} {q : Outcome World Processor}
    → Does (works (gather_of edition mode (opcode_at column k) cpu) (operations k) (opcode_at column k)) w q
    → Does (row_does edition (opcode_at column k) cpu) w q
by_table column p operations mode e edition cpu {k} h t f =
    rw (where_same 8 p (row nop implied) (λ k. row_of (opcode_at column k)) (λ k. row (operations k) mode) e k h t) f

-- a number that is none of the others passes the test that it is not
pub is_not : (n : ℕ) {k : ℕ} → (k ≡ n → ⊥) → T (not (eqb k n))
is_not n {k} other = rw (ne_eqb k n other) tt

-- ---- numbers

-- Where the vector of a TCALL stands, by its row.
pub even_vector : (k : ℕ) → 0xFFDE - opcode_at 0x01 k / 16 * 2 ≡ 0xFFDE - k * 4
even_vector k = omega arith

pub odd_vector : (k : ℕ) → 0xFFDE - opcode_at 0x11 k / 16 * 2 ≡ 0xFFDC - k * 4
odd_vector k = omega arith

-- One less a bit is the bit inverted.
pub inverted : (c : ℕ) → eqb ((1 - c % 2) % 2) 1 ≡ not (eqb (c % 2) 1)
inverted c = go (c % 2) (omega arith)
  where
    go : (bit : ℕ) → bit < 2 → eqb ((1 - bit) % 2) 1 ≡ not (eqb bit 1)
    go zero h = refl
    go (suc zero) h = refl
    go (suc (suc bit)) h = absurd (omega arith)
