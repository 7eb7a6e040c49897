-- What is read, what is made of it, what is stored.
-- Assumes nothing.
use borrow.Author.Rules.{rules}
use Rattle.memory.proofs.Laws.{performs, loans, chain, by, reading_leaves}
use Rattle.instructions.specs.Step.{finish_of, step_of}
use Rattle.engine.proofs.phases.instruction.Goals as goal

pub returns : goal.returns
unfolding step_of
returns c = performs (chain _ (reading_leaves c.begin-begun.ensures) (by finish_of c.effect_of-made.ensures c.finish.ensures.does))
    (search (rules, loans, c.finish.ensures.same))
