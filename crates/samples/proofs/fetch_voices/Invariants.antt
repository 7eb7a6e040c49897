-- The invariant is `Voicing`: the voices that are left, from here on, make the map what it is to be.
-- Assumes nothing.
use Rattle.samples.proofs.Voicing.{Voicing}
use Rattle.samples.proofs.fetch_voices.Given as goal

abbrev pub invariant-loop-voice : goal.invariant-loop-voice
invariant-loop-voice l = Voicing 8 l.bits l.chip l.memory l.writes l.initial.map l.map l.voice
