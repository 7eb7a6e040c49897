-- Each case of what is to be stored is one line of the definition.
-- Assumes nothing.
use borrow.Author.Rules.{rules}
use Rattle.instructions.specs.Step.{commit_of}
use Rattle.memory.proofs.Laws.{accesses, ends, put_then}
use Rattle.engine.proofs.Laws.{commit_as}
use Rattle.engine.proofs.phases.commit.Goals as goal

pub returns-in-Nothing : goal.returns-in-Nothing
unfolding commit_of
returns-in-Nothing c = search (accesses, commit_as)

pub returns-in-Byte : goal.returns-in-Byte
unfolding commit_of
returns-in-Byte c = search (accesses, commit_as)

pub returns-in-Word : goal.returns-in-Word
unfolding commit_of
returns-in-Word c = search (rules, commit_as, put_then, ends)

pub returns-in-Push : goal.returns-in-Push
unfolding commit_of
returns-in-Push c = search (accesses, commit_as)

pub returns-in-Call : goal.returns-in-Call
unfolding commit_of
returns-in-Call c = search (accesses, commit_as)

pub returns-in-Break : goal.returns-in-Break
unfolding commit_of
returns-in-Break c = search (accesses, commit_as)
