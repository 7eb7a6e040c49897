-- Each piece of the text is added behind the one before it; pieces added one after the other add up.
-- Assumes nothing.
use Rattle.text.proofs.Laws.{written}
use Rattle.processor.specs.Text.{registers_text}
use Rattle.processor.proofs.Processor.registers_on_line.Goals as goal

pub returns : goal.returns
unfolding registers_text
returns c =  -- the pieces that were written c lie too far back for `search` to reach from c
    search written depth 12 fits 5000
