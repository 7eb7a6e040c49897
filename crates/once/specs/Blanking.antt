-- Blanking, and maps put together, have one outcome.
-- Assumes nothing.
use Rattle.blanking.proofs as blanking
use Rattle.once.specs.Law.{One, first, second}
use Rattle.once.specs.Forms.{fills, leaves}

pub blank_once : One blanking.blank.Reads.Post (λ κ. first)
blank_once = record { same = fills }

pub join_once : One blanking.join.Reads.Post (λ κ. second)
join_once = record { same = leaves }
