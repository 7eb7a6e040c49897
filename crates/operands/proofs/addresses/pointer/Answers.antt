-- Two reads, the second where the edition says, and the index added to what they make.
-- Assumes nothing.
use Rattle.memory.proofs.Laws.{accesses}
use Rattle.modes.specs.Modes.{pointed}
use Rattle.operands.proofs.addresses.pointer.Goals as goal

pub returns : goal.returns
unfolding pointed
returns c = λ cpu. rw (c.wrapping_add_u16.ensures.value, c.word.ensures, ← c.second_at.ensures) (search accesses)
