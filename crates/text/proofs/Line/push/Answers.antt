-- The code's test and its store are the definition's own.
-- Assumes nothing.
use Rattle.std.proofs.Common.{rules}
use Rattle.text.specs.Line.{pushed}
use Rattle.text.proofs.Line.push.Goals as goal

pub returns-then-self-lt80 : goal.returns-then-self-lt80
unfolding pushed
returns-then-self-lt80 c = search rules

pub returns-else-self-lt80 : goal.returns-else-self-lt80
unfolding pushed
returns-else-self-lt80 c = search rules
