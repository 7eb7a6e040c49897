-- The registers, then the status text between its brackets.
-- Assumes nothing.
use Rattle.std.proofs.Common.{rules}
use Rattle.text.proofs.Laws.{written}
use Rattle.processor.specs.Text.{processor_text}
use Rattle.processor.proofs.Processor.on_line.Goals as goal

pub returns : goal.returns
unfolding processor_text
returns c = search (rules, written)
