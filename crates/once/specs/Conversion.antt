-- The way from a state record to an SPC file, and the way back, have one outcome each.
-- Assumes nothing.
use Rattle.conversion.proofs as conversion
use Rattle.once.specs.Law.{One, first}
use Rattle.once.specs.Forms.{fills}

pub file_from_record_once : One conversion.file_from_record.Reads.Post (λ κ. first)
file_from_record_once = record { same = fills }

pub record_from_file_once : One conversion.record_from_file.Reads.Post (λ κ. first)
record_from_file_once = record { same = fills }
