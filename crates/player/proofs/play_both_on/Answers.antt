-- What each call leaves is what the next one finds, and what was lent to the playings came back.
-- Assumes nothing.
use borrow.Author.Rules.{rules}
use Rattle.host.specs.Promises.{on}
use Rattle.player.specs.Promises.{packet_of}
use Rattle.player.proofs.Answered.{begun, ended, answered_both}
use Rattle.player.proofs.play_both_on.Goals as goal

pub returns : goal.returns
returns c =
    let a = c.args in
    let p = packet_of a.head.now a.chip.now a.memory.now a.reads.now a.writes.now a.fetched.now a.made.now in
    let q = packet_of a.head2.now a.chip2.now a.memory2.now a.reads2.now a.writes2.now a.fetched2.now a.made2.now in
    let both = c.play_both-both in
    let l = c.end_told.ensures in
    let r = c.end_told-2.ensures in
    answered_both p q a.asked _ (begun p c.begin-first.ensures) (begun q c.begin-second.ensures) both.ensures.is
    (ended (on both.result.first both.new.song) (search rules) (search rules) (search rules) (search rules) (search rules)
    l.0.of_head l.1.of_reads l.1.of_writes l.1.of_made)
    (ended (on both.result.second both.new.other) (search rules) (search rules) (search rules) (search rules) (search rules)
    r.0.of_head r.1.of_reads r.1.of_writes r.1.of_made)
