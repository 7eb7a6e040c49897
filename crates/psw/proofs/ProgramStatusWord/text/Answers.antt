-- The line shows the status text, whose 36 bytes it has room for.
-- Assumes nothing.
use borrow.Author.Rules.{rules}
use Rattle.text.proofs.Laws.{gives_new}
use Rattle.psw.specs.Status.{status_text}
use Rattle.psw.proofs.ProgramStatusWord.text.Goals as goal

pub returns : goal.returns
unfolding status_text
returns c = search (rules, gives_new)
