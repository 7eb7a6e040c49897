-- An arm's opcode picks its row, and the operation there is what the arm calls. The last arm has what is left of the column: NOP.
-- Assumes nothing.
use Rattle.std.proofs.Common.{rules}
use Rattle.instructions.specs.Rows.{rows}
use Rattle.instructions.specs.Effects.{effect_of}
use Rattle.effects.specs.Columns.{in_column}
use Rattle.effects.proofs.Arms.{arms, last_opcode}
use Rattle.effects.proofs.flags_and_branches.flags_and_branches.Goals as goal

pub returns-in-16 : goal.returns-in-16
unfolding rows effect_of
returns-in-16 c = search arms

pub returns-in-32 : goal.returns-in-32
unfolding rows effect_of
returns-in-32 c = search arms

pub returns-in-48 : goal.returns-in-48
unfolding rows effect_of
returns-in-48 c = search arms

pub returns-in-64 : goal.returns-in-64
unfolding rows effect_of
returns-in-64 c = search arms

pub returns-in-80 : goal.returns-in-80
unfolding rows effect_of
returns-in-80 c = search arms

pub returns-in-96 : goal.returns-in-96
unfolding rows effect_of
returns-in-96 c = search arms

pub returns-in-112 : goal.returns-in-112
unfolding rows effect_of
returns-in-112 c = search arms

pub returns-in-128 : goal.returns-in-128
unfolding rows effect_of
returns-in-128 c = search arms

pub returns-in-144 : goal.returns-in-144
unfolding rows effect_of
returns-in-144 c = search arms

pub returns-in-160 : goal.returns-in-160
unfolding rows effect_of
returns-in-160 c = search arms

pub returns-in-176 : goal.returns-in-176
unfolding rows effect_of
returns-in-176 c = search arms

pub returns-in-192 : goal.returns-in-192
unfolding rows effect_of
returns-in-192 c = search arms

pub returns-in-208 : goal.returns-in-208
unfolding rows effect_of
returns-in-208 c = search arms

pub returns-in-224 : goal.returns-in-224
unfolding rows effect_of
returns-in-224 c = search arms

pub returns-in-240 : goal.returns-in-240
unfolding rows effect_of
returns-in-240 c = search arms

pub returns-in_default : goal.returns-in_default
unfolding rows effect_of
returns-in_default c = search (arms, last_opcode 0 (in_column 0))
