-- An arm's opcode picks its row, and the operation there is what the arm calls. The last arm has what is left of the column: MOV d, d.
-- Assumes nothing.
use Rattle.std.proofs.Common.{rules}
use Rattle.instructions.specs.Rows.{rows}
use Rattle.instructions.specs.Effects.{effect_of}
use Rattle.effects.specs.Columns.{in_column}
use Rattle.effects.proofs.Arms.{arms, last_opcode}
use Rattle.effects.proofs.bits_and_words.bits_and_words.Goals as goal

pub returns-in-10 : goal.returns-in-10
unfolding rows effect_of
returns-in-10 c = search arms

pub returns-in-26 : goal.returns-in-26
unfolding rows effect_of
returns-in-26 c = search arms

pub returns-in-42 : goal.returns-in-42
unfolding rows effect_of
returns-in-42 c = search arms

pub returns-in-58 : goal.returns-in-58
unfolding rows effect_of
returns-in-58 c = search arms

pub returns-in-74 : goal.returns-in-74
unfolding rows effect_of
returns-in-74 c = search arms

pub returns-in-90 : goal.returns-in-90
unfolding rows effect_of
returns-in-90 c = search arms

pub returns-in-106 : goal.returns-in-106
unfolding rows effect_of
returns-in-106 c = search arms

pub returns-in-122 : goal.returns-in-122
unfolding rows effect_of
returns-in-122 c = search arms

pub returns-in-138 : goal.returns-in-138
unfolding rows effect_of
returns-in-138 c = search arms

pub returns-in-154 : goal.returns-in-154
unfolding rows effect_of
returns-in-154 c = search arms

pub returns-in-170 : goal.returns-in-170
unfolding rows effect_of
returns-in-170 c = search arms

pub returns-in-186 : goal.returns-in-186
unfolding rows effect_of
returns-in-186 c = search arms

pub returns-in-202 : goal.returns-in-202
unfolding rows effect_of
returns-in-202 c = search arms

pub returns-in-218 : goal.returns-in-218
unfolding rows effect_of
returns-in-218 c = search arms

pub returns-in-234 : goal.returns-in-234
unfolding rows effect_of
returns-in-234 c = search arms

pub returns-in_default : goal.returns-in_default
unfolding rows effect_of
returns-in_default c = search (arms, last_opcode 250 (in_column 10))
