-- The vector of the row, and then the call.
-- Assumes nothing.
use Rattle.std.proofs.Common.{true, refl, rules}
use Rattle.memory.proofs.Laws.{chain, ends}
use Rattle.memory.specs.Access.{then}
use Rattle.instructions.specs.Effects.{effect_of}
use Rattle.instructions.specs.Gather.{gather_of, loaded, vector}
use Rattle.instructions.specs.Rows.Mode.{table_vector}
use Rattle.instructions.specs.Rows.Operation.{call}
use Rattle.instructions.specs.Rows.{rows}
use Rattle.instructions.specs.Step.{branch_of, commit_of, finish_of}
use Rattle.by_column.proofs.Laws.{by_table, found_then, odd_vector}
use Rattle.by_column.proofs.jumps.column_11.Goals as goal

pub returns : goal.returns
unfolding vector rows gather_of loaded effect_of finish_of commit_of branch_of then
returns c = λ edition. by_table 0x11 (λ k. true) (λ k. call) table_vector refl edition _ {k = c.args.row} (search rules) tt
    (rw odd_vector (found_then _ _ _ c.read_u16-to.ensures (chain _ c.call.ensures ends)))
