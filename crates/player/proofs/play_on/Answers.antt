-- What each call leaves is what the next one finds, and what was lent to the playing came back.
-- Assumes nothing.
use borrow.Author.Rules.{rules}
use Rattle.host.specs.Promises.{on}
use Rattle.player.specs.Promises.{packet_of}
use Rattle.player.proofs.Answered.{begun, ended, answered}
use Rattle.player.proofs.play_on.Goals as goal

pub returns : goal.returns
returns c =
    let a = c.args in
    let p = packet_of a.head.now a.chip.now a.memory.now a.reads.now a.writes.now a.fetched.now a.made.now in
    let played = c.play-played in
    let left = c.end.ensures in
    answered p a.asked _ (begun p c.begin-player.ensures) played.ensures.is
    (ended (on played.result.player played.new.song) (search rules) (search rules) (search rules) (search rules) (search rules)
    left.0 left.1.of_reads left.1.of_writes left.1.of_made)
