-- The line shows the record's text, whose 71 bytes it has room for.
-- Assumes nothing.
use Rattle.std.proofs.Common.{rules}
use Rattle.text.proofs.Laws.{gives_new}
use Rattle.psw.specs.Status.{status_text}
use Rattle.processor.specs.Text.{registers_text, processor_text}
use Rattle.processor.proofs.Processor.text.Goals as goal

pub returns : goal.returns
unfolding status_text registers_text processor_text
returns c = search (rules, gives_new)
