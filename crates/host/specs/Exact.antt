-- What the maps of a playing mark, outside the device addresses: the read map what its steps read before any of them has stored there, and
-- the written map what they store to. So it is with a playing as with a run (engine/specs/Provenance), whatever the devices answer.
--
-- The words: `ReadFirst k t`: the list of accesses t splits at a read of k, and nothing before it stores at k. `StoredAt k t`: it splits at
-- a store there. `Whole p`: memory, maps and the sound chip's row have their lengths. `Fresh w`: its maps have no marks.
-- Assumes nothing.
use Prim.Native.Nat.{ℕ, zero, suc, ◌/◌, ◌%◌, ◌^◌, ◌<◌}
use Rattle.std.specs.Prelude.{◌≡◌, Bool, cond, not, ◌&&◌, ◌||◌, List, [], ◌∷◌, ◌++◌, ◌↔◌, eqb}
use Rattle.std.proofs.Math.Path.{refl}
use Rattle.std.proofs.Common.{sym, ap, ◌∙◌}
use Rattle.std.proofs.Math.Bool.{true, false, or-false, or_assoc, and-false}
use Rattle.marks.specs.Maps.{is_marked}
use Rattle.memory.specs.World.{World, Sized}
use Rattle.editions.specs.declared.Edition.{Edition}
use Rattle.runs.specs.Trace.{Event, events}
use Rattle.runs.specs.Marks.{stores_at, stored, ReadFirst, StoredAt}
use Rattle.runs.proofs.Trace.{replays, reads_at, needed, reads_replay, writes_replay}
use Rattle.runs.proofs.Exact.{Fresh, needed_means, stored_means}
use Rattle.engine.specs.Entry.{counted_step}
use Rattle.watch.specs.Marks.{with_marks}
use Rattle.watch.proofs.Maps.{get_other}
use Rattle.host.specs.Turn.{Playing, ready, turn_of}
use Rattle.host.specs.Play.{goes_on, play_of}
use Rattle.host.specs.Lengths.{Whole, ready_sized, turn_keeps}
use Rattle.host.specs.Theorems.{Outside, other_byte}

-- The accesses of one step of a playing, in order, as the definition of the instructions says them.
abbrev pub step_accesses : Edition → Playing → List Event
step_accesses edition p = events (counted_step edition p.player.cpu) (ready p)

-- Those of all its steps. What the host lays out between them is no access.
unfoldable pub accesses : Edition → ℕ → ℕ → Playing → List Event
accesses edition until zero p = []
accesses edition until (suc budget) p =
    cond (goes_on until p.player) (step_accesses edition p ++ accesses edition until budget (turn_of edition p)) []

-- ---- lists of accesses, one behind the other

-- r, w: marked before; n, m: read first, and stored to, in the first list; q: read first in the second
law : (r w n m q : Bool) → ((r || not w && n) || not (w || m) && q) ≡ (r || not w && (n || not m && q))
law true w n m q = refl
law false true n m q = refl
law false false n m q = refl

module _ (k : ℕ) where
  needed_append : (s t : List Event) → needed k (s ++ t) ≡ (needed k s || not (stored k s) && needed k t)
  needed_append [] t = refl
  needed_append (e ∷ s) t = rw (needed_append s t) (sym (law (reads_at k e) (stores_at k e) (needed k s) (stored k s) (needed k t)))

  stored_append : (s t : List Event) → stored k (s ++ t) ≡ (stored k s || stored k t)
  stored_append [] t = refl
  stored_append (e ∷ s) t = rw (stored_append s t, or_assoc)

-- ---- a turn, and a playing

-- Taking the marks of the device addresses out of a map leaves those of all others.
pub unmarked_same : {k : ℕ} → Outside 0xF0 0xFF k → (map : List ℕ) → is_marked (with_marks map 0) k ≡ is_marked map k
unmarked_same {k} other map =
    let n = other_byte other in ap (λ (b : ℕ). eqb (b / 2 ^ (k % 8) % 2) 1) (get_other map 0 (k / 8) n.0 n.1)

-- what the maps say of k behind some accesses, by what they said before
record Marked (k : ℕ) (before after : World) (t : List Event) : Type 0 where
  reads : is_marked after.reads k ≡ (is_marked before.reads k || not (is_marked before.writes k) && needed k t)
  writes : is_marked after.writes k ≡ (is_marked before.writes k || stored k t)

none : (k : ℕ) (w : World) → Marked k w w []
none k w = record { reads = rw (and-false, or-false); writes = rw or-false }

both : {k : ℕ} {a b c : World} {s t : List Event} → Marked k a b s → Marked k b c t → Marked k a c (s ++ t)
both {k} {a} {b} {c} {s} {t} one two = record {
  reads =
      two.reads
      ∙ rw (one.reads, one.writes, needed_append k s t)
      (law (is_marked a.reads k) (is_marked a.writes k) (needed k s) (stored k s) (needed k t));
  writes = two.writes ∙ rw (one.writes, stored_append k s t, or_assoc);
}

module _ (edition : Edition) (until : ℕ) (k : ℕ) (h : k < 65536) (other : Outside 0xF0 0xFF k) where
  in_turn : (p : Playing) → Sized p.world → Marked k p.world (turn_of edition p).world (step_accesses edition p)
  unfolding turn_of
  in_turn p size =
      let step = counted_step edition p.player.cpu in
      let t = step_accesses edition p in
      let sized = ready_sized p size in record {
        reads =
            rw (
              replays step (ready p),
              reads_replay k h t (ready p) sized,
              unmarked_same other p.world.reads,
              unmarked_same other p.world.writes,
            );
        writes = rw (replays step (ready p), writes_replay k h t (ready p) sized, unmarked_same other p.world.writes);
      }

  in_playing : (n : ℕ) (p : Playing) → Whole p → Marked k p.world (play_of edition until n p).playing.world (accesses edition until n p)
  unfolding play_of accesses
  in_playing zero p whole = none k p.world
  in_playing (suc n) p whole =
      go (goes_on until p.player) refl (in_playing n (turn_of edition p) (turn_keeps edition p whole))
    where
      go : (b : Bool) → goes_on until p.player ≡ b
          → Marked k (turn_of edition p).world (play_of edition until n (turn_of edition p)).playing.world (accesses edition until n (turn_of edition p))
          → Marked k p.world (play_of edition until (suc n) p).playing.world (accesses edition until (suc n) p)
      go true e more = rw e (both (in_turn p whole.world) more)
      go false e more = rw e (none k p.world)

  -- From maps without marks, of any number of steps and until any cycle:
  module _ (n : ℕ) (p : Playing) (whole : Whole p) (clear : Fresh p.world) where
    -- the read map marks an address exactly when some step reads it before any step has stored there,
    pub read_map_exact : (is_marked (play_of edition until n p).playing.world.reads k ≡ true) ↔ ReadFirst k (accesses edition until n p)
    read_map_exact =
        rw ((in_playing n p whole).reads, clear.reads k, clear.writes k) (needed_means k (accesses edition until n p))

    -- and the written map exactly when some step stores there.
    pub written_map_exact :
        (is_marked (play_of edition until n p).playing.world.writes k ≡ true) ↔ StoredAt k (accesses edition until n p)
    written_map_exact = rw ((in_playing n p whole).writes, clear.writes k) (stored_means k (accesses edition until n p))
