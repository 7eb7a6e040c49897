-- Reading an SPC file, and writing into one, have one outcome each.
-- Assumes nothing.
use Rattle.spc_file.proofs as spc_file
use Rattle.once.specs.Law.{One, Answers, Shows, first}
use Rattle.once.specs.Forms.{answers, shows, fills}

pub read_once : Answers spc_file.read.Reads.Post
read_once = record { same = answers }

pub memory_once : Shows spc_file.memory.Reads.Post
memory_once = record { same = shows }

pub write_once : One spc_file.write.Reads.Post (λ κ. first)
write_once = record { same = fills }
