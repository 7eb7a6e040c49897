-- A step is a run of budget 1, which is a theorem.
-- Assumes nothing.
use Rattle.std.proofs.Common.{◌≡◌, ℕ, List, Result, Ok, Err, refl, ap, sym, ◌∙◌}
use Rattle.refusals.specs.declared.Refusal.{Refusal}
use Rattle.memory.specs.World.{World, world}
use Rattle.processor.specs.declared.Processor.{Processor}
use Rattle.state.specs.Registers.{whole_in}
use Rattle.engine.specs.Entry.{step_answer, run_answer}
use Rattle.engine.specs.Theorems.{step_is_run_of_one}
use Rattle.exports.specs.Calls.{on_record, handed_back, step_call, run_call}
use Rattle.exports.proofs.spc700_step.Goals as goal

step_is_run : (edition : ℕ) (registers : List ℕ) (w : World) → step_call edition registers w ≡ run_call edition 1 registers w
step_is_run edition registers w = go (whole_in registers)
  where
    go : (r : Result Processor Refusal) → on_record (step_answer edition) registers w r ≡ on_record (run_answer edition 1) registers w r
    go (Ok cpu) = ap (handed_back registers w) (step_is_run_of_one edition cpu w)
    go (Err refusal) = refl

pub returns : goal.returns
returns c =
    let w = world c.args.memory.now c.args.reads.now c.args.writes.now in
    rw c.packed.ensures (c.run_from.ensures ∙ sym (step_is_run c.args.edition c.args.registers.now w))
