-- Each arm does its rows; DECW adds 65,535, which is one less.
-- Assumes nothing.
use Rattle.std.proofs.Common.{arith}
use Rattle.instructions.specs.Effects.{effect_of}
use Rattle.instructions.specs.Gather.{gather_of}
use Rattle.instructions.specs.Rows.{rows}
use Rattle.by_column.proofs.Laws.{at_row}
use Rattle.by_column.proofs.words.column_1a.Goals as goal

pub returns-in-0 : goal.returns-in-0
unfolding rows gather_of effect_of
returns-in-0 c = λ edition. at_row edition 0x1A 0 _ c.in-0.is c.step_word.ensures

pub returns-in-1 : goal.returns-in-1
unfolding rows gather_of effect_of
returns-in-1 c = λ edition. at_row edition 0x1A 1 _ c.in-1.is c.step_word-in-1.ensures

pub returns-in-6 : goal.returns-in-6
returns-in-6 c = λ edition. at_row edition 0x1A 6 _ c.in-6.is
    (c.store_ya.ensures edition)

pub returns-in-2 : goal.returns-in-2
returns-in-2 c = c.with_word.ensures

pub returns-in_default : goal.returns-in_default
returns-in_default c = λ edition. at_row edition 0x1A 7 _ (omega arith) (c.direct_to_direct.ensures edition)
