-- The group picks its operation from the list, and each arm calls that operation. The last arm is group 7.
-- Assumes nothing.
use Rattle.std.proofs.Common.{rules}
use Rattle.instructions.specs.Effects.{effect_of}
use Rattle.effects.proofs.Arms.{arms, last_group}
use Rattle.effects.proofs.families.pairs.Goals as goal

pub returns-in-0 : goal.returns-in-0
unfolding effect_of
returns-in-0 c = search arms

pub returns-in-1 : goal.returns-in-1
unfolding effect_of
returns-in-1 c = search arms

pub returns-in-2 : goal.returns-in-2
unfolding effect_of
returns-in-2 c = search arms

pub returns-in-3 : goal.returns-in-3
unfolding effect_of
returns-in-3 c = search arms

pub returns-in-4 : goal.returns-in-4
unfolding effect_of
returns-in-4 c = search arms

pub returns-in-5 : goal.returns-in-5
unfolding effect_of
returns-in-5 c = search arms

pub returns-in-6 : goal.returns-in-6
unfolding effect_of
returns-in-6 c = search arms

pub returns-in_default : goal.returns-in_default
unfolding effect_of
returns-in_default c = search (arms, last_group)
