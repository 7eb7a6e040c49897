-- Both addresses, then a read at each, the low byte's first.
-- Assumes nothing.
use borrow.Author.Rules.{rules}
use Rattle.instructions.specs.Gather.{gather_of}
use Rattle.memory.proofs.Laws.{ends, chain, read_then}
use Rattle.gather.proofs.several.direct_word.Goals as goal

pub returns : goal.returns
unfolding gather_of
returns c = search (rules, chain, read_then, ends)
