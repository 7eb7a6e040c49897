-- What an instruction reads has one outcome.
-- Assumes nothing.
use Rattle.gather.proofs as gather
use Rattle.once.specs.Law.{One, third}
use Rattle.once.specs.Forms.{lent_reading, reads}

pub gather_once : One gather.gather.Reads.Post (λ κ e. lent_reading (third e))
gather_once = record { same = reads }
