-- Maps of bytes stay maps of bytes through any accesses: all that an access does to a map is to mark an address.
-- Assumes nothing.
use mathlib.Core.Bool.{Bool, true, false, cond}
use mathlib.Core.List.{List, [], ◌∷◌}
use Rattle.laws.specs.Bytes.{Bytes}
use Rattle.marks.specs.Maps.{is_marked, marked}
use Rattle.marks.proofs.Laws.{bytes_marked}
use Rattle.memory.specs.World.{World}
use Rattle.runs.specs.Trace.{Event}
use Rattle.runs.specs.Trace.Event.{read, store}
use Rattle.runs.proofs.Trace.{effect, replay}

-- the maps hold bytes
pub record Bitmaps (w : World) : Type 0 where
  pub reads : Bytes w.reads
  pub writes : Bytes w.writes

bytes_effect : (e : Event) (w : World) → Bitmaps w → Bitmaps (effect e w)
bytes_effect (read a) w h = record { reads = go (is_marked w.writes a); writes = h.writes }
  where
    go : (b : Bool) → Bytes (cond b w.reads (marked w.reads a))
    go true = h.reads
    go false = bytes_marked w.reads a h.reads
bytes_effect (store a byte) w h = record { reads = h.reads; writes = bytes_marked w.writes a h.writes }

pub bytes_replay : (t : List Event) (w : World) → Bitmaps w → Bitmaps (replay t w)
bytes_replay [] w h = h
bytes_replay (e ∷ t) w h = bytes_replay t (effect e w) (bytes_effect e w h)
