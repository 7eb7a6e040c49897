-- An arm's opcode picks its row, and the operation there is what the arm calls. The last arm has what is left of the column: MOV Y, A.
-- Assumes nothing.
use Rattle.std.proofs.Common.{rules}
use Rattle.instructions.specs.Rows.{rows}
use Rattle.instructions.specs.Effects.{effect_of}
use Rattle.effects.specs.Columns.{in_column}
use Rattle.effects.proofs.Arms.{arms, last_opcode}
use Rattle.effects.proofs.pushes_and_moves.pushes_and_moves.Goals as goal

pub returns-in-13 : goal.returns-in-13
unfolding rows effect_of
returns-in-13 c = search arms

pub returns-in-29 : goal.returns-in-29
unfolding rows effect_of
returns-in-29 c = search arms

pub returns-in-45 : goal.returns-in-45
unfolding rows effect_of
returns-in-45 c = search arms

pub returns-in-61 : goal.returns-in-61
unfolding rows effect_of
returns-in-61 c = search arms

pub returns-in-77 : goal.returns-in-77
unfolding rows effect_of
returns-in-77 c = search arms

pub returns-in-93 : goal.returns-in-93
unfolding rows effect_of
returns-in-93 c = search arms

pub returns-in-109 : goal.returns-in-109
unfolding rows effect_of
returns-in-109 c = search arms

pub returns-in-125 : goal.returns-in-125
unfolding rows effect_of
returns-in-125 c = search arms

pub returns-in-141 : goal.returns-in-141
unfolding rows effect_of
returns-in-141 c = search arms

pub returns-in-157 : goal.returns-in-157
unfolding rows effect_of
returns-in-157 c = search arms

pub returns-in-173 : goal.returns-in-173
unfolding rows effect_of
returns-in-173 c = search arms

pub returns-in-189 : goal.returns-in-189
unfolding rows effect_of
returns-in-189 c = search arms

pub returns-in-205 : goal.returns-in-205
unfolding rows effect_of
returns-in-205 c = search arms

pub returns-in-221 : goal.returns-in-221
unfolding rows effect_of
returns-in-221 c = search arms

pub returns-in-237 : goal.returns-in-237
unfolding rows effect_of
returns-in-237 c = search arms

pub returns-in_default : goal.returns-in_default
unfolding rows effect_of
returns-in_default c = search (arms, last_opcode 253 (in_column 13))
