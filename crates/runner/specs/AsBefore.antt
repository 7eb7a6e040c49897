-- The numbers of addresses read and written that a report prints are document 01's counts of the marks of the two maps, as they were before
-- the report told how many are both.
-- Assumes nothing.
use Rattle.std.specs.Prelude.{ℕ, ◌≡◌, refl, List, length}
use Rattle.std.proofs.Common.{eq-eqb}
use Rattle.laws.specs.Bytes.{bytes_zeros}
use Rattle.marks.specs.Counts.{three_counts}
use Rattle.marks.specs.Sums.{marks_in, Sums}
use Rattle.marks.proofs.Sums.{sums}
use Rattle.memory.specs.World.{World, Sized, world}
use Rattle.editions.specs.declared.Edition.{Edition}
use Rattle.processor.specs.declared.Processor.{Processor}
use Rattle.runs.specs.Trace.{trace}
use Rattle.runs.proofs.Trace.{run_replays, sized_replay}
use Rattle.runs.proofs.Bitmaps.{Bitmaps, bytes_replay}
use Rattle.runs.proofs.Exact.{fresh}
use Rattle.engine.specs.Entry.{counted_step}
use Rattle.engine.specs.Provenance.{clear}
use Rattle.runner.specs.Session.{from_clear, closing_text, closing_of}

-- the three numbers of two maps add up to 01's count of each
abbrev Added : World → Type 0
Added w = Sums w.reads w.writes (three_counts w.reads w.writes)

added : (w : World) → Sized w → Bitmaps w → Added w
added w s b = rw (eq-eqb _ _ s.reads, eq-eqb _ _ s.writes) at (sums w.reads w.writes s.reads s.writes b.reads b.writes)

module _ (edition : Edition) (budget : ℕ) (cpu : Processor) (image : List ℕ) (size : length image ≡ 65536) where
  start : World
  start = world image clear clear

  added_left : Added (from_clear edition budget cpu image).left
  unfolding start
  added_left =
      let t = trace (counted_step edition) budget cpu start in
      rw (run_replays (counted_step edition) budget cpu start) (added _ (sized_replay t start sized) (bytes_replay t start bytes))
    where
      sized : Sized start
      sized = (fresh image 8192 size refl).sized

      bytes : Bitmaps start
      bytes = record { reads = bytes_zeros 8192; writes = bytes_zeros 8192 }

  -- What a run on an image of 65,536 bytes prints last: its numbers of addresses read and written are 01's counts of the maps that it left.
  pub closing_as_before :
      closing_of (from_clear edition budget cpu image)
      ≡ closing_text (from_clear edition budget cpu image).result.cpu.psw
      (marks_in (from_clear edition budget cpu image).left.reads)
      (marks_in (from_clear edition budget cpu image).left.writes)
      (three_counts (from_clear edition budget cpu image).left.reads (from_clear edition budget cpu image).left.writes).both
  closing_as_before = rw (added_left.read, added_left.stored)
