-- A comparison of two memories has one outcome.
-- Assumes nothing.
use Rattle.differences.proofs as differences
use Rattle.once.specs.Law.{One, fourth}
use Rattle.once.specs.Forms.{fills}

pub between_once : One differences.between.Reads.Post (λ κ. fourth)
between_once = record { same = fills }
