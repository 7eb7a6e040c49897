-- The status word is the one that the byte encodes, and PC is set after it.
-- Assumes nothing.
use Rattle.std.proofs.Common.{◌≡◌, ℕ, rules}
use Rattle.psw.specs.declared.ProgramStatusWord.{ProgramStatusWord}
use Rattle.processor.specs.Record.{with_flags, with_pc}
use Rattle.processor.specs.declared.Processor.{Processor}
use Rattle.instructions.specs.Effects.{effect_of, registers}
use Rattle.instructions.specs.declared.Effect.{Effect}
use Rattle.effects.proofs.Made.{made}
use Rattle.effects.proofs.jumps_and_calls.reti.Goals as goal

-- the status that was made, and PC after it
returned : (at : ℕ) (cpu : Processor) {x : ProgramStatusWord} (y : ProgramStatusWord) {r : Effect}
    → x ≡ y → r ≡ registers (with_pc at (with_flags x cpu)) → r ≡ registers (with_pc at (with_flags y cpu))
returned at cpu = made (λ x. registers (with_pc at (with_flags x cpu)))

pub returns : goal.returns
unfolding effect_of
returns c = search returned
