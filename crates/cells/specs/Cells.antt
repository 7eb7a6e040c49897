-- What a row of cells stands for: memory and both maps. A long run works on cells; this page says how they are read.
use Rattle.std.specs.Prelude.{ℕ, zero, suc, ◌+◌, ◌*◌, ◌/◌, ◌%◌, ◌^◌, List, map, get_or}
use Rattle.std.specs.List.{range_with_len}
use Rattle.laws.specs.Lent.{Lent}
use Rattle.memory.specs.World.{World, world}
use Rattle.memory.specs.Access.{Access, outcome, Does}

-- The low byte of a cell is the memory's. Bit 8 is set where the read map marks the address, bit 9 where the written map does.
abbrev pub byte_of : List ℕ → ℕ → ℕ
byte_of cells k = get_or cells k 0 % 256

abbrev pub mark_of : ℕ → List ℕ → ℕ → ℕ
mark_of bit cells k = get_or cells k 0 / 2 ^ bit % 2

-- the marks of the first n of the addresses from one on, in ascending order from the bit of value 1
abbrev pub marks_of : ℕ → List ℕ → ℕ → ℕ → ℕ
marks_of bit cells at zero = 0
marks_of bit cells at (suc n) = mark_of bit cells (at + n) * 2 ^ n + marks_of bit cells at n

-- the byte of a map that holds the marks of eight addresses, in ascending order from the bit of value 1 to that of value 128
abbrev pub eight_of : ℕ → List ℕ → ℕ → ℕ
eight_of bit cells i = marks_of bit cells (i * 8) 8

-- the values of a function at the numbers below n
unfoldable pub values : ℕ → (ℕ → ℕ) → List ℕ
values n f = map f (range_with_len 0 n)

-- The memory and the two maps.
unfoldable pub world_of : List ℕ → World
world_of cells = world (values 65536 (byte_of cells)) (values 8192 (eight_of 8 cells)) (values 8192 (eight_of 9 cells))

-- What a function on cells promises: on what the cells stand for, `p` is performed, and `r` comes of it.
abbrev pub Performs : {R : Type 0} → Access R → Lent → R → Type 0
Performs p cells r = Does p (world_of cells.entry) (outcome r (world_of cells.exit))
