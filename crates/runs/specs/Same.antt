-- Two outcomes, from two images, that differ only in bytes that were never stored.
use Rattle.std.specs.Prelude.{ℕ, ◌<◌, ◌≡◌, true, false, List, get_or}
use Rattle.marks.specs.Maps.{is_marked}
use Rattle.memory.specs.World.{World}
use Rattle.memory.specs.Access.{Outcome}

pub record Same {R : Type 0} (image second : List ℕ) (o q : Outcome World R) : Type 0 where
  -- the same answer, the same maps
  pub result : o.result ≡ q.result
  pub reads : o.left.reads ≡ q.left.reads
  pub writes : o.left.writes ≡ q.left.writes
  -- equal bytes wherever something was stored
  pub stored : (k : ℕ) → k < 65536 → is_marked o.left.writes k ≡ true → get_or o.left.memory k 0 ≡ get_or q.left.memory k 0
  -- everywhere else each keeps its own image's byte
  pub first : (k : ℕ) → k < 65536 → is_marked o.left.writes k ≡ false → get_or o.left.memory k 0 ≡ get_or image k 0
  pub other : (k : ℕ) → k < 65536 → is_marked o.left.writes k ≡ false → get_or q.left.memory k 0 ≡ get_or second k 0
