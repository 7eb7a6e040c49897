-- An arm's opcode picks its row, and the operation there is what the arm calls. The last arm has what is left of the column: DBNZ Y.
-- Assumes nothing.
use Rattle.std.proofs.Common.{rules}
use Rattle.instructions.specs.Rows.{rows}
use Rattle.instructions.specs.Effects.{effect_of}
use Rattle.effects.specs.Columns.{in_column}
use Rattle.effects.proofs.Arms.{arms, last_opcode}
use Rattle.effects.proofs.compares_and_pops.compares_and_pops.Goals as goal

pub returns-in-14 : goal.returns-in-14
unfolding rows effect_of
returns-in-14 c = search arms

pub returns-in-30 : goal.returns-in-30
unfolding rows effect_of
returns-in-30 c = search arms

pub returns-in-46 : goal.returns-in-46
unfolding rows effect_of
returns-in-46 c = search arms

pub returns-in-62 : goal.returns-in-62
unfolding rows effect_of
returns-in-62 c = search arms

pub returns-in-78 : goal.returns-in-78
unfolding rows effect_of
returns-in-78 c = search arms

pub returns-in-94 : goal.returns-in-94
unfolding rows effect_of
returns-in-94 c = search arms

pub returns-in-110 : goal.returns-in-110
unfolding rows effect_of
returns-in-110 c = search arms

pub returns-in-126 : goal.returns-in-126
unfolding rows effect_of
returns-in-126 c = search arms

pub returns-in-142 : goal.returns-in-142
unfolding rows effect_of
returns-in-142 c = search arms

pub returns-in-158 : goal.returns-in-158
unfolding rows effect_of
returns-in-158 c = search arms

pub returns-in-174 : goal.returns-in-174
unfolding rows effect_of
returns-in-174 c = search arms

pub returns-in-190 : goal.returns-in-190
unfolding rows effect_of
returns-in-190 c = search arms

pub returns-in-206 : goal.returns-in-206
unfolding rows effect_of
returns-in-206 c = search arms

pub returns-in-222 : goal.returns-in-222
unfolding rows effect_of
returns-in-222 c = search arms

pub returns-in-238 : goal.returns-in-238
unfolding rows effect_of
returns-in-238 c = search arms

pub returns-in_default : goal.returns-in_default
unfolding rows effect_of
returns-in_default c = search (arms, last_opcode 254 (in_column 14))
