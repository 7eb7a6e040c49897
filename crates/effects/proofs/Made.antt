-- What `search` goes by where a function makes something of what it has called: the definition makes the same of the call's result.
-- Assumes nothing.
use Rattle.std.proofs.Common.{◌≡◌, ℕ, Bool, not, ◌&&◌, ◌||◌}
use Rattle.psw.specs.declared.ProgramStatusWord.{ProgramStatusWord}
use Rattle.processor.specs.declared.Processor.{Processor}
use Rattle.processor.specs.declared.Produced.{Produced}
use Rattle.processor.specs.declared.ProducedWord.{ProducedWord}
use Rattle.instructions.specs.Effects.{registers, storing, storing_byte, flagged, carry_into, branch_if, into_a, into_x, into_y, into_memory, into_word, has_bit, with_bit}
use Rattle.instructions.specs.declared.Operands.{Operands}
use Rattle.instructions.specs.declared.Effect.{Effect}
use Rattle.instructions.specs.declared.Stores.TheVariants.{Push}

-- what is made of x is made of y, where a call says that x is y
pub made : {A B : Type 0} (kind : A → B) {x : A} (y : A) {r : B} → x ≡ y → r ≡ kind x → r ≡ kind y
made kind y e f = rw (← e) f

-- ---- the kinds of effect

pub made_a : {x : Produced} (y : Produced) {r : Effect} → x ≡ y → r ≡ into_a x → r ≡ into_a y
made_a = made into_a

pub made_x : {x : Produced} (y : Produced) {r : Effect} → x ≡ y → r ≡ into_x x → r ≡ into_x y
made_x = made into_x

pub made_y : {x : Produced} (y : Produced) {r : Effect} → x ≡ y → r ≡ into_y x → r ≡ into_y y
made_y = made into_y

pub made_byte : (at : ℕ) {x : Produced} (y : Produced) {r : Effect} → x ≡ y → r ≡ into_memory at x → r ≡ into_memory at y
made_byte at = made (into_memory at)

pub made_word : (o : Operands) {x : ProducedWord} (y : ProducedWord) {r : Effect} → x ≡ y → r ≡ into_word o x → r ≡ into_word o y
made_word o = made (into_word o)

pub made_registers : {x : Processor} (y : Processor) {r : Effect} → x ≡ y → r ≡ registers x → r ≡ registers y
made_registers = made registers

pub made_status : (o : Operands) {x : ProgramStatusWord} (y : ProgramStatusWord) {r : Effect} → x ≡ y → r ≡ flagged o x → r ≡ flagged o y
made_status o = made (flagged o)

pub made_push : (cpu : Processor) {x : ℕ} (y : ℕ) {r : Effect} → x ≡ y → r ≡ storing (Push x) cpu → r ≡ storing (Push y) cpu
made_push cpu = made (λ x. storing (Push x) cpu)

pub made_store : (o : Operands) {x : ℕ} (y : ℕ) {r : Effect} → x ≡ y → r ≡ storing_byte o x → r ≡ storing_byte o y
made_store o = made (storing_byte o)

pub made_carry : (o : Operands) {x : Bool} (y : Bool) {r : Effect} → x ≡ y → r ≡ carry_into x o → r ≡ carry_into y o
made_carry o = made (λ x. carry_into x o)

pub made_branch : (o : Operands) {x : Bool} (y : Bool) {r : Effect} → x ≡ y → r ≡ branch_if x o → r ≡ branch_if y o
made_branch o = made (λ x. branch_if x o)

pub ruleset kinds = (made_a, made_x, made_y, made_byte, made_word, made_registers, made_status, made_push, made_store, made_carry, made_branch)

-- ---- bits

pub made_has : (byte : ℕ) {x : ℕ} (y : ℕ) {r : Bool} → x ≡ y → r ≡ has_bit x byte → r ≡ has_bit y byte
made_has byte = made (λ x. has_bit x byte)

pub made_with : (on : Bool) (byte : ℕ) {x : ℕ} (y : ℕ) {r : ℕ} → x ≡ y → r ≡ with_bit on x byte → r ≡ with_bit on y byte
made_with on byte = made (λ x. with_bit on x byte)

pub same_not : {x : Bool} (y : Bool) → x ≡ y → not x ≡ not y
same_not y e = rw e

pub same_and : (c : Bool) {x : Bool} (y : Bool) → x ≡ y → (c && x) ≡ (c && y)
same_and c y e = rw e

pub same_or : (c : Bool) {x : Bool} (y : Bool) → x ≡ y → (c || x) ≡ (c || y)
same_or c y e = rw e

pub ruleset bits = (made_has, made_with, same_not, same_and, same_or)
