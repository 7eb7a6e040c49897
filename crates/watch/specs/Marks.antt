-- The marks of the device addresses in a map as one number: set aside for a step, and put back behind it.
use Rattle.std.specs.Prelude.{ℕ, ◌-◌, ◌/◌, ◌%◌, ◌<◌, List, ◌≡◌, length, get_or, set}
use Rattle.std.specs.Int.Bits.{bit_and, bit_or}
use Rattle.watch.specs.Devices.{devices_of}

-- A number that holds these marks of a map, which has its length: two bytes of it.
pub record Marks (map : List ℕ) (marks : ℕ) : Type 0 where
  pub size : length map ≡ 8192
  pub all : marks ≡ devices_of map
  pub low : marks % 256 ≡ get_or map 30 0
  pub high : marks / 256 ≡ get_or map 31 0
  pub fits : marks < 65536

-- The map with the marks of a number in the place of its own.
abbrev pub with_marks : List ℕ → ℕ → List ℕ
with_marks map marks = set (set map 30 (marks % 256)) 31 (marks / 256)

-- The marks of both maps are taken out of them.
pub record SetAside (reads writes : List ℕ) (read stored : ℕ) (reads_left writes_left : List ℕ) : Type 0 where
  pub of_reads : Marks reads read
  pub of_writes : Marks writes stored
  pub no_reads : reads_left ≡ with_marks reads 0
  pub no_writes : writes_left ≡ with_marks writes 0

-- They are put back, with those that the maps were given since: of a read, only where nothing was stored before.
pub record PutBack (reads writes : List ℕ) (read stored devices : ℕ) (reads_left writes_left : List ℕ) : Type 0 where
  pub of_reads : Marks reads devices
  pub of_writes : Marks writes (devices_of writes)
  pub all_reads : reads_left ≡ with_marks reads (bit_or read (bit_and devices (65535 - stored)))
  pub all_writes : writes_left ≡ with_marks writes (bit_or stored (devices_of writes))
