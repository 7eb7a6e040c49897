-- The operand word, and then the call.
-- Assumes nothing.
use Rattle.memory.proofs.Laws.{chain, ends}
use Rattle.memory.specs.Access.{then}
use Rattle.instructions.specs.Effects.{effect_of}
use Rattle.instructions.specs.Gather.{gather_of, loaded}
use Rattle.instructions.specs.Rows.{rows}
use Rattle.instructions.specs.Step.{branch_of, commit_of, finish_of}
use Rattle.by_column.proofs.Laws.{found_then}
use Rattle.by_column.proofs.jumps.call_to.Goals as goal

pub returns : goal.returns
unfolding rows gather_of loaded effect_of finish_of commit_of branch_of then
returns c = λ edition. found_then _ _ _ c.abs_off-to.ensures (chain _ (rw (c.past-2.ensures, c.past.ensures) at c.call.ensures) ends)
