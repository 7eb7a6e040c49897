-- Two pulls, and PC is their word.
-- Assumes nothing.
use Rattle.std.proofs.Common.{ap, ◌∙◌}
use Rattle.memory.proofs.Laws.{chain, ends, ends_at}
use Rattle.memory.specs.Access.{then}
use Rattle.processor.specs.Record.{with_pc}
use Rattle.modes.specs.Stack.{pull_word, raised}
use Rattle.instructions.specs.Effects.{effect_of}
use Rattle.instructions.specs.Gather.{gather_of, loaded}
use Rattle.instructions.specs.Rows.{rows}
use Rattle.instructions.specs.Step.{branch_of, commit_of, finish_of}
use Rattle.by_column.proofs.Laws.{found_then, pull_as}
use Rattle.by_column.proofs.jumps.ret.Goals as goal

pub returns : goal.returns
unfolding pull_word rows gather_of loaded effect_of finish_of commit_of branch_of then
returns c = λ edition. rw (c.jump.ensures, c.word.ensures)
    (found_then _ _ _ (chain _ c.pull-low.ensures (chain _ (pull_as c.raised-next.ensures c.pull-high.ensures) ends))
    (ends_at (ap (with_pc _) (c.raised.ensures ∙ ap raised c.raised-next.ensures))))
