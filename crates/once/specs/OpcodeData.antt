-- An opcode's name and modes, and their text, have one outcome each.
-- Assumes nothing.
use Rattle.opcode_data.proofs as crate
use Rattle.opcode_data.proofs.AddressMode as mode
use Rattle.opcode_data.proofs.Modes as modes
use Rattle.opcode_data.proofs.OpcodeData as opcode
use Rattle.once.specs.Law.{One, Answers, Shows, third}
use Rattle.once.specs.Forms.{answers, shows, gives}

pub from_opcode_once : Answers opcode.from_opcode.Reads.Post
from_opcode_once = record { same = answers }

pub takes_once : Answers mode.takes.Reads.Post
takes_once = record { same = λ p q. answers p.0 q.0 }

pub taken_once : Answers modes.taken.Reads.Post
taken_once = record { same = λ p q. answers p.0 q.0 }

pub on_line_once : Answers modes.on_line.Reads.Post
on_line_once = record { same = answers }

pub format_address_modes_once : One crate.format_address_modes.Reads.Post (λ κ. third)
format_address_modes_once = record { same = gives }

pub counted_once : Shows modes.counted.Reads.Post
counted_once = record { same = shows }
