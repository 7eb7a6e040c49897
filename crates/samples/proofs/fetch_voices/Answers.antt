-- The invariant is `Voicing`: the voices that are left, from here on, make the map what it is to be.
-- Assumes nothing.
use Rattle.std.proofs.Common.{rules}
use Rattle.samples.proofs.Voicing.{begun, one_voiced, one_silent, all_voiced}
use Rattle.samples.proofs.fetch_voices.Goals as goal

pub loop-voice-init : goal.loop-voice-init
loop-voice-init c = search (rules, begun)

pub loop-voice-preserved : goal.loop-voice-preserved
loop-voice-preserved c = search (rules, one_voiced, one_silent)

pub returns : goal.returns
returns c = search (rules, all_voiced)
