-- The byte that is stored is the old status word's; the new one goes into the record.
-- Assumes nothing.
use Rattle.std.proofs.Common.{◌≡◌, ℕ, rules}
use Rattle.psw.specs.declared.ProgramStatusWord.{ProgramStatusWord}
use Rattle.processor.specs.Record.{with_flags}
use Rattle.processor.specs.declared.Processor.{Processor}
use Rattle.instructions.specs.Effects.{effect_of, storing}
use Rattle.instructions.specs.declared.Effect.{Effect}
use Rattle.instructions.specs.declared.Stores.TheVariants.{Break}
use Rattle.effects.proofs.jumps_and_calls.brk.Goals as goal

-- the old status, made a byte, and the new one
broken : (at : ℕ) (cpu : Processor) {x : ℕ} (y : ℕ) {next : ProgramStatusWord} (psw : ProgramStatusWord) {r : Effect}
    → x ≡ y → next ≡ psw → r ≡ storing (Break x at) (with_flags next cpu) → r ≡ storing (Break y at) (with_flags psw cpu)
broken at cpu y psw e f g = rw (← e, ← f) g

pub returns : goal.returns
unfolding effect_of
returns c = search broken
