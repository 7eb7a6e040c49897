-- The row picks the operation.
-- Assumes nothing.
use Rattle.std.proofs.Common.{◌≡◌, arith}
use Rattle.instructions.specs.Effects.{effect_of}
use Rattle.by_column.proofs.words.word_with.Goals as goal

pub returns-in-2 : goal.returns-in-2
unfolding effect_of
returns-in-2 c = λ opcode at next. rw c.in-2.is c.cmpw.ensures

pub returns-in-3 : goal.returns-in-3
unfolding effect_of
returns-in-3 c = λ opcode at next. rw c.in-3.is c.addw.ensures

pub returns-in-4 : goal.returns-in-4
unfolding effect_of
returns-in-4 c = λ opcode at next. rw c.in-4.is c.subw.ensures

pub returns-in_default : goal.returns-in_default
unfolding effect_of
returns-in_default c = λ opcode at next. let row : c.args.row ≡ 5 = omega arith in rw (row) c.load_ya.ensures
