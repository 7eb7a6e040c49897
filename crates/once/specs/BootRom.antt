-- A step while the boot ROM is on has one outcome.
-- Assumes nothing.
use Rattle.boot_rom.proofs as boot_rom
use Rattle.once.specs.Law.{One, third}
use Rattle.once.specs.Forms.{lent_bus, steps}

pub step_once : One boot_rom.step.Reads.Post (λ κ e. lent_bus (third e))
step_once = record { same = steps }
