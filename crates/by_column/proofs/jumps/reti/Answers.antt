-- Three pulls: the flags, and PC.
-- Assumes nothing.
use Rattle.std.proofs.Common.{ap, ◌∙◌, rules}
use Rattle.memory.proofs.Laws.{chain, ends, ends_at}
use Rattle.memory.specs.Access.{then}
use Rattle.processor.specs.Record.{with_flags, with_pc}
use Rattle.modes.specs.Stack.{pull_word, raised}
use Rattle.instructions.specs.Effects.{effect_of}
use Rattle.instructions.specs.Gather.{gather_of, loaded}
use Rattle.instructions.specs.Rows.{rows}
use Rattle.instructions.specs.Step.{branch_of, commit_of, finish_of}
use Rattle.by_column.proofs.Laws.{found_then, pull_as}
use Rattle.by_column.proofs.jumps.reti.Goals as goal

pub returns : goal.returns
unfolding pull_word rows gather_of loaded effect_of finish_of commit_of branch_of then
returns c = λ edition. let up = c.raised-next.ensures ∙ ap raised c.raised-behind.ensures in
    rw (c.jump.ensures, c.word-to.ensures)
    (found_then _ _ _ c.pull-status.ensures
    (found_then _ _ _
    (chain _ (pull_as c.raised-behind.ensures c.pull-low.ensures) (chain _ (pull_as up c.pull-high.ensures) ends))
    (ends_at (ap (with_pc _) (c.with_status.ensures ∙ ap (with_flags _) (c.raised.ensures ∙ ap raised up))))))
