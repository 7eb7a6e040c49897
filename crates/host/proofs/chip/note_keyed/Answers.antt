-- The invariant is `Keying`: the voices that are left, from here on, make the row what it is to be.
-- Assumes nothing.
use Rattle.std.proofs.Common.{rules}
use Rattle.host.proofs.Keying.{begun, one_keyed, none_keyed, all_keyed}
use Rattle.host.proofs.chip.note_keyed.Goals as goal

pub loop-voice-init : goal.loop-voice-init
loop-voice-init c = search (rules, begun)

pub loop-voice-preserved : goal.loop-voice-preserved
loop-voice-preserved c = search (rules, one_keyed, none_keyed)

pub returns : goal.returns
returns c = search (rules, all_keyed)
