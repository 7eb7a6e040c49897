-- The contracts on lent memory and maps, said of the slices themselves: memory, reads, writes, in the order of every function's parameters.
use Rattle.std.specs.Prelude.{◌≡◌, ℕ, List}
use Rattle.laws.specs.Lent.{Lent}
use Rattle.memory.specs.World.{World, Sized, world}
use Rattle.memory.specs.Access.{Access, Outcome, outcome, Does}
use Rattle.memory.specs.declared.Bus.{Bus}
use Rattle.memory.specs.declared.Reading.{Reading}
use Rattle.memory.specs.declared.Storing.{Storing}

-- memory and maps before a call, and after it
abbrev pub before : Lent → Lent → Lent → World
before memory reads writes = world memory.entry reads.entry writes.entry

abbrev pub after : Lent → Lent → Lent → World
after memory reads writes = world memory.exit reads.exit writes.exit

-- what is behind a bus, as it is lent to who steps, to who reads, and to who stores
abbrev pub behind : Bus → World
behind bus = world bus.memory.now bus.reads.now bus.writes.now

abbrev pub behind_reading : Reading → World
behind_reading bus = world bus.memory.now bus.reads.now bus.writes.now

abbrev pub behind_storing : Storing → World
behind_storing bus = world bus.memory.now bus.reads.now bus.writes.now

-- It borrows what it did: the same memory and maps, whatever they hold now.
pub record SameLoans (before after : Bus) : Type 0 where
  pub memory : after.memory.ghost_name ≡ before.memory.ghost_name
  pub reads : after.reads.ghost_name ≡ before.reads.ghost_name
  pub writes : after.writes.ghost_name ≡ before.writes.ghost_name

pub record SameReading (before after : Reading) : Type 0 where
  pub memory : after.memory ≡ before.memory
  pub reads : after.reads.ghost_name ≡ before.reads.ghost_name
  pub writes : after.writes ≡ before.writes

pub record SameStoring (before after : Storing) : Type 0 where
  pub memory : after.memory.ghost_name ≡ before.memory.ghost_name
  pub reads : after.reads ≡ before.reads
  pub writes : after.writes.ghost_name ≡ before.writes.ghost_name

-- `p` is performed on what is behind a bus, the same is lent, and `r` comes of it.
pub record Done {B : Type 0} (world_of : B → World) (Same : B → B → Type 0) {R : Type 0} (p : Access R) (before after : B) (r : R) : Type 0 where
  pub does : Does p (world_of before) (outcome r (world_of after))
  pub same : Same before after

-- What a function inside a step promises: one that reads, one that stores, and one that does both.
abbrev pub Reads : {R : Type 0} → Access R → Reading → Reading → R → Type 0
Reads = Done behind_reading SameReading

abbrev pub Puts : {R : Type 0} → Access R → Storing → Storing → R → Type 0
Puts = Done behind_storing SameStoring

abbrev pub Performs : {R : Type 0} → Access R → Bus → Bus → R → Type 0
Performs = Done behind SameLoans

-- What a call promises that takes any number of steps, or none: `r` and what is left are what `answer` makes of what was behind the bus.
pub record Answers {R : Type 0} (answer : World → Outcome World R) (before after : Bus) (r : R) : Type 0 where
  pub is : outcome r (behind after) ≡ answer (behind before)
  pub same : SameLoans before after

-- What a call from outside promises: `r` and what is left are what `answer` makes of memory and maps.
abbrev pub Yields : {R : Type 0} → (World → Outcome World R) → Lent → Lent → Lent → R → Type 0
Yields answer memory reads writes r = outcome r (after memory reads writes) ≡ answer (before memory reads writes)
