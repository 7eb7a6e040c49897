-- The line with a number's quotient by ten behind it, and then the digit of its remainder, is the line with the number behind it.
-- Assumes nothing.
use borrow.Author.Rules.{rules}
use Rattle.text.proofs.Laws.{written, decimal_small, decimal_large}
use Rattle.text.proofs.Line.+decimal.Goals as goal

pub returns-then-n-lt10 : goal.returns-then-n-lt10
returns-then-n-lt10 t c = search (rules, written, decimal_small)

pub returns-else-n-lt10 : goal.returns-else-n-lt10
returns-else-n-lt10 t c = search (rules, written, decimal_large)
