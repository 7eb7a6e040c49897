-- The invariant is `Keying`: the voices that are left, from here on, make the row what it is to be.
-- Assumes nothing.
use Rattle.host.proofs.Keying.{Keying}
use Rattle.host.proofs.chip.note_keyed.Given as goal

abbrev pub invariant-loop-voice : goal.invariant-loop-voice
invariant-loop-voice l = Keying 8 l.bits l.initial.chip l.chip l.voice
