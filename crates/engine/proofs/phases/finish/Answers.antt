-- The stores, then the branch.
-- Assumes nothing.
use borrow.Author.Rules.{rules}
use Rattle.memory.proofs.Laws.{performs, loans, chain, storing_leaves, reading_leaves}
use Rattle.instructions.specs.Step.{finish_of}
use Rattle.engine.proofs.phases.finish.Goals as goal

pub returns : goal.returns
unfolding finish_of
returns c = performs (chain _ (storing_leaves c.commit-stored.ensures) (reading_leaves c.branch-stored.ensures)) (search (rules, loans))
