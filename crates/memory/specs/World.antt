-- The lent memory and the two maps, and what one access leaves in them.
use Rattle.std.specs.Prelude.{◌≡◌, ℕ, List, length, slice_index, slice_set}
use Rattle.marks.specs.Maps.{marked, marked_unless}

pub record World : Type 0 where
  pub memory : List ℕ
  pub reads : List ℕ
  pub writes : List ℕ

abbrev pub world : List ℕ → List ℕ → List ℕ → World
world memory reads writes = record { memory = memory; reads = reads; writes = writes }

-- The lengths: a byte of memory and a bit of each map for every address.
pub record Sized (w : World) : Type 0 where
  pub memory : length w.memory ≡ 65536
  pub reads : length w.reads ≡ 8192
  pub writes : length w.writes ≡ 8192

-- the byte at an address
abbrev pub byte_at : ℕ → World → ℕ
byte_at a w = slice_index w.memory a

-- A read marks its address in the read map if at that moment the written map lacks it.
abbrev pub seen : ℕ → World → World
seen a w = world w.memory (marked_unless w.reads w.writes a) w.writes

-- A store marks its address in the written map. No access clears a mark.
abbrev pub kept : ℕ → ℕ → World → World
kept a byte w = world (slice_set w.memory a byte) w.reads (marked w.writes a)
