-- A playing, and two side by side, have one outcome.
-- Assumes nothing.
use Rattle.std.specs.Prelude.{◌++◌}
use Rattle.host.proofs as host
use Rattle.once.specs.Law.{One, fifth, sixth, seventh}
use Rattle.once.specs.Forms.{lent_song, plays, plays_both}

pub play_once : One host.play.Reads.Post (λ κ e. lent_song (fifth e))
play_once = record { same = plays }

pub play_both_once : One host.play_both.Reads.Post (λ κ e. lent_song (sixth e) ++ lent_song (seventh e))
play_both_once = record { same = plays_both }
