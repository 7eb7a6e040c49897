-- The blanked zeros differ from the ones exactly where the map marks an address.
-- Assumes nothing.
use Rattle.std.proofs.Common.{refl}
use Rattle.surveyor.proofs.Marking.{accepted, given_marks}
use Rattle.surveyor.proofs.of_map.Goals as goal

pub returns-in_err-blank : goal.returns-in_err-blank
returns-in_err-blank c = absurd (accepted c.args.map.now c.requires 65536 refl c.blank.ensures c.in_err-blank.was)

pub returns : goal.returns
returns c = given_marks c.args.map.now c.requires 65536 refl c.blank.ensures c.compare.ensures
