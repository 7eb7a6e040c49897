-- A step by the row of its column, and the loop's test.
-- Assumes nothing.
use Rattle.std.proofs.Common.{ℕ, zero, suc, ◌/◌, ◌%◌, ◌≡◌, refl, ap, sym, ◌∙◌, true, false, arith, eqb}
use borrow.Author.Tests.{ne_eqb}
use Rattle.waking.specs.States.{state_of, is_awake}
use Rattle.memory.specs.World.{World}
use Rattle.memory.specs.Access.Access.{done}
use Rattle.memory.specs.Access.{Access, then, Outcome, outcome, perform, Does}
use Rattle.memory.proofs.Laws.{perform_then}
use Rattle.editions.specs.declared.Edition.{Edition}
use Rattle.processor.specs.Record.{produced}
use Rattle.processor.specs.declared.Processor.{Processor}
use Rattle.runs.specs.Run.{progress}
use Rattle.modes.specs.Addresses.{onward}
use Rattle.modes.specs.Modes.{fetch}
use Rattle.instructions.specs.Gather.{gather_of}
use Rattle.instructions.specs.Rows.{row_of}
use Rattle.instructions.specs.Runs.{run_of}
use Rattle.instructions.specs.Step.{read_for, begin_of, finish_of, made_of, step_of}
use Rattle.instructions.specs.declared.Begun.{Begun}
use Rattle.instructions.specs.declared.Operands.{Operands}
use Rattle.by_column.specs.Columns.{row_does, opcode_at}
use Rattle.by_column.proofs.Laws.{found_then}
use Rattle.long_runs.specs.Runs.{taken_of}

-- What is made of a result on the way is made of it in the end.
made_on_the_way : {A B C : Type 0} (p : Access A) (make : A → B) (f : B → Access C) (w : World)
    → perform (then p (λ a. f (make a))) w ≡ perform (then (then p (λ a. done (make a))) f) w
unfolding perform
made_on_the_way p make f w =
    rw (perform_then p (λ a. f (make a)) w, perform_then (then p (λ a. done (make a))) f w, perform_then p (λ a. done (make a)) w)

-- A step is the fetch of its opcode and then its row.
module _ (edition : Edition) (cpu : Processor) {w left : World} {opcode : ℕ} {q : Outcome World Processor}
    (fetched : Does (fetch cpu) w (outcome (produced (onward cpu) opcode) left)) where
  row_then : Does (row_does edition opcode (onward cpu)) left q → Does (step_of edition cpu) w q
  unfolding step_of begin_of read_for
  row_then does =
      let begun : Operands → Begun = λ o. record { opcode = opcode; operands = o } in
      found_then (fetch cpu) (read_for edition) (λ b. finish_of (made_of b)) fetched
      (record { is = does.is ∙ made_on_the_way (gather_of edition (row_of opcode).mode opcode (onward cpu)) begun (λ b. finish_of (made_of b)) left })

  -- by the column and the row that the opcode has
  pub step_by : (column : ℕ) (behind : Processor) → behind ≡ onward cpu → opcode % 32 ≡ column
      → Does (row_does edition (opcode_at column (opcode / 32)) behind) left q → Does (step_of edition cpu) w q
  step_by column behind e at does =
      let whole : opcode_at column (opcode / 32) ≡ opcode = omega (arith, at) in row_then (rw (whole, e) at does)

-- A record is awake where its state's number is 0.
awake_at : (stop : ℕ) → is_awake (state_of stop) ≡ eqb stop 0
awake_at zero = refl
awake_at (suc zero) = refl
awake_at (suc (suc stop)) = sym (ne_eqb (suc (suc stop)) 0 (λ e. omega (arith, e)))

pub is_awake_lem : (stop : ℕ) → stop ≡ 0 → true ≡ is_awake (state_of stop)
is_awake_lem stop e = rw e

pub is_resting : (stop : ℕ) → (stop ≡ 0 → ⊥) → false ≡ is_awake (state_of stop)
is_resting stop n = sym (awake_at stop ∙ ne_eqb stop 0 n)

-- The way in, the steps and the way out.
pub there_and_back : (edition : Edition) (budget : ℕ) {cpu start last r : Processor} {steps : ℕ} {w laid ended left : World}
    → start ≡ cpu → laid ≡ w → outcome (progress last steps) ended ≡ run_of edition budget start laid → left ≡ ended → r ≡ last
    → outcome (record { cpu = r; steps = steps }) left ≡ taken_of (run_of edition budget cpu w)
there_and_back edition budget s l e b r = rw (← s, ← l, b, r) (ap taken_of e)
