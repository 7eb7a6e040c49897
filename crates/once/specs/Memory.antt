-- Each read and each store has one outcome.
-- Assumes nothing.
use Rattle.memory.proofs.Reading as reading
use Rattle.memory.proofs.Storing as storing
use Rattle.once.specs.Law.{One, first}
use Rattle.once.specs.Forms.{lent_reading, lent_storing, reads, stores}

pub read_once : One reading.read.Reads.Post (λ κ e. lent_reading (first e))
read_once = record { same = reads }

pub read_u16_once : One reading.read_u16.Reads.Post (λ κ e. lent_reading (first e))
read_u16_once = record { same = reads }

pub store_once : One storing.store.Reads.Post (λ κ e. lent_storing (first e))
store_once = record { same = stores }

pub write_u16_once : One storing.write_u16.Reads.Post (λ κ e. lent_storing (first e))
write_u16_once = record { same = stores }
