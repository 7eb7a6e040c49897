-- Each field is what the definition takes out of its bytes.
-- Assumes nothing.
use Rattle.player.specs.Head.{devices_of}
use Rattle.player.proofs.head.devices.Goals as goal

pub returns : goal.returns
unfolding devices_of
returns c = rw (
  c.number.ensures,
  c.word_in.ensures,
  c.word_in-2.ensures,
  c.word_in-3.ensures,
  c.timer_in.ensures,
  c.timer_in-2.ensures,
  c.timer_in-3.ensures,
)
