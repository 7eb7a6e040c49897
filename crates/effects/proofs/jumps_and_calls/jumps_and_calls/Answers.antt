-- An arm's opcode picks its row, and the operation there is what the arm calls. The last arm has what is left of the column: STOP.
-- Assumes nothing.
use Rattle.std.proofs.Common.{rules}
use Rattle.instructions.specs.Rows.{rows}
use Rattle.instructions.specs.Effects.{effect_of}
use Rattle.effects.specs.Columns.{in_column}
use Rattle.effects.proofs.Arms.{arms, last_opcode}
use Rattle.effects.proofs.jumps_and_calls.jumps_and_calls.Goals as goal

pub returns-in-15 : goal.returns-in-15
unfolding rows effect_of
returns-in-15 c = search arms

pub returns-in-31 : goal.returns-in-31
unfolding rows effect_of
returns-in-31 c = search arms

pub returns-in-47 : goal.returns-in-47
unfolding rows effect_of
returns-in-47 c = search arms

pub returns-in-63 : goal.returns-in-63
unfolding rows effect_of
returns-in-63 c = search arms

pub returns-in-79 : goal.returns-in-79
unfolding rows effect_of
returns-in-79 c = search arms

pub returns-in-95 : goal.returns-in-95
unfolding rows effect_of
returns-in-95 c = search arms

pub returns-in-111 : goal.returns-in-111
unfolding rows effect_of
returns-in-111 c = search arms

pub returns-in-127 : goal.returns-in-127
unfolding rows effect_of
returns-in-127 c = search arms

pub returns-in-143 : goal.returns-in-143
unfolding rows effect_of
returns-in-143 c = search arms

pub returns-in-159 : goal.returns-in-159
unfolding rows effect_of
returns-in-159 c = search arms

pub returns-in-175 : goal.returns-in-175
unfolding rows effect_of
returns-in-175 c = search arms

pub returns-in-191 : goal.returns-in-191
unfolding rows effect_of
returns-in-191 c = search arms

pub returns-in-207 : goal.returns-in-207
unfolding rows effect_of
returns-in-207 c = search arms

pub returns-in-223 : goal.returns-in-223
unfolding rows effect_of
returns-in-223 c = search arms

pub returns-in-239 : goal.returns-in-239
unfolding rows effect_of
returns-in-239 c = search arms

pub returns-in_default : goal.returns-in_default
unfolding rows effect_of
returns-in_default c = search (arms, last_opcode 255 (in_column 15))
