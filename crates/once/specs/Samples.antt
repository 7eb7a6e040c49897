-- The map of what the sound chip may fetch has one outcome.
-- Assumes nothing.
use Rattle.samples.proofs as samples
use Rattle.once.specs.Law.{One, fifth}
use Rattle.once.specs.Forms.{leaves}

pub fetch_voices_once : One samples.fetch_voices.Reads.Post (λ κ. fifth)
fetch_voices_once = record { same = leaves }
