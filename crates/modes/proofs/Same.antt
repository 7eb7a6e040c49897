-- Two records are the same where their fields are.
-- Assumes nothing.
use Rattle.std.proofs.Common.{◌≡◌}
use Rattle.processor.proofs.Same.{same_processor, same_produced}
use Rattle.modes.specs.declared.Addressed.{Addressed}
use Rattle.modes.specs.declared.WordAddressed.{WordAddressed}
use Rattle.modes.specs.declared.BitAddressed.{BitAddressed}
use Rattle.modes.specs.declared.BitRead.{BitRead}

pub same_addressed : {p q : Addressed} → p.cpu ≡ q.cpu → p.at ≡ q.at → p ≡ q
same_addressed cpu at = rw (cpu, at)

pub same_word : {p q : WordAddressed} → p.cpu ≡ q.cpu → p.low ≡ q.low → p.high ≡ q.high → p ≡ q
same_word cpu low high = rw (cpu, low, high)

pub same_bit : {p q : BitAddressed} → p.cpu ≡ q.cpu → p.at ≡ q.at → p.bit ≡ q.bit → p ≡ q
same_bit cpu at bit = rw (cpu, at, bit)

pub same_read : {p q : BitRead} → p.cpu ≡ q.cpu → p.bit ≡ q.bit → p ≡ q
same_read cpu bit = rw (cpu, bit)

pub ruleset same = (same_processor, same_produced, same_addressed, same_word, same_bit, same_read)
