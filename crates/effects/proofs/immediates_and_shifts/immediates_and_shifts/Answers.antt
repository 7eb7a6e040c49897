-- An arm's opcode picks its row, and the operation there is what the arm calls. The last arm has what is left of the column: INC Y.
-- Assumes nothing.
use Rattle.std.proofs.Common.{rules}
use Rattle.instructions.specs.Rows.{rows}
use Rattle.instructions.specs.Effects.{effect_of}
use Rattle.effects.specs.Columns.{in_column}
use Rattle.effects.proofs.Arms.{arms, last_opcode}
use Rattle.effects.proofs.immediates_and_shifts.immediates_and_shifts.Goals as goal

pub returns-in-8 : goal.returns-in-8
unfolding rows effect_of
returns-in-8 c = search arms

pub returns-in-28 : goal.returns-in-28
unfolding rows effect_of
returns-in-28 c = search arms

pub returns-in-40 : goal.returns-in-40
unfolding rows effect_of
returns-in-40 c = search arms

pub returns-in-60 : goal.returns-in-60
unfolding rows effect_of
returns-in-60 c = search arms

pub returns-in-72 : goal.returns-in-72
unfolding rows effect_of
returns-in-72 c = search arms

pub returns-in-92 : goal.returns-in-92
unfolding rows effect_of
returns-in-92 c = search arms

pub returns-in-104 : goal.returns-in-104
unfolding rows effect_of
returns-in-104 c = search arms

pub returns-in-124 : goal.returns-in-124
unfolding rows effect_of
returns-in-124 c = search arms

pub returns-in-136 : goal.returns-in-136
unfolding rows effect_of
returns-in-136 c = search arms

pub returns-in-156 : goal.returns-in-156
unfolding rows effect_of
returns-in-156 c = search arms

pub returns-in-168 : goal.returns-in-168
unfolding rows effect_of
returns-in-168 c = search arms

pub returns-in-188 : goal.returns-in-188
unfolding rows effect_of
returns-in-188 c = search arms

pub returns-in-200 : goal.returns-in-200
unfolding rows effect_of
returns-in-200 c = search arms

pub returns-in-220 : goal.returns-in-220
unfolding rows effect_of
returns-in-220 c = search arms

pub returns-in-232 : goal.returns-in-232
unfolding rows effect_of
returns-in-232 c = search arms

pub returns-in_default : goal.returns-in_default
unfolding rows effect_of
returns-in_default c = search (arms, last_opcode 252 (in_column 8))
