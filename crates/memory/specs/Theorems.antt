-- What holds of every sequence of accesses: maps keep their lengths, and no mark is ever cleared.
-- Assumes nothing.
use Rattle.std.specs.Prelude.{◌≡◌, ℕ, ◌<◌, Bool, true, false, cond, List, length, ◌==◌}
use Rattle.std.proofs.Math.Bool.{or-true}
use Rattle.std.proofs.Common.{length-set}
use Rattle.marks.specs.Maps.{is_marked, marked}
use Rattle.marks.proofs.Laws.{marked_is, length_marked}
use Rattle.memory.specs.World.{World, Sized, byte_at, seen, kept}
use Rattle.memory.specs.Access.{Access, perform}
use Rattle.memory.specs.Access.Access.{done, read_at, store_at}

-- a map that has all the marks of another
pub record Keeps (before after : List ℕ) : Type 0 where
  pub marks : (k : ℕ) → k < 65536 → is_marked before k ≡ true → is_marked after k ≡ true

-- a world that has the right lengths, and all the marks of another
pub record Kept (before after : World) : Type 0 where
  pub sized : Sized after
  pub reads : Keeps before.reads after.reads
  pub writes : Keeps before.writes after.writes

-- ---- one mark more

pub keeps_itself : (m : List ℕ) → Keeps m m
keeps_itself m = record { marks = λ k h t. t }

one_more : (m : List ℕ) (a : ℕ) → length m ≡ 8192 → Keeps m (marked m a)
one_more m a l = record { marks = λ k h t. rw (marked_is m a k l h, t) (or-true (a == k)) }

-- by whether a read marks
read_keeps : (b : Bool) (m : List ℕ) (a : ℕ) → length m ≡ 8192
    → (length (cond b m (marked m a)) ≡ 8192) × Keeps m (cond b m (marked m a))
read_keeps true m a l = (l, keeps_itself m)
read_keeps false m a l = (rw length_marked l, one_more m a l)

-- one access, and then more
later : {u v w : World} → Keeps u.reads v.reads → Keeps u.writes v.writes → Kept v w → Kept u w
later r s k = record {
  sized = k.sized;
  reads = record { marks = λ a h t. k.reads.marks a h (r.marks a h t) };
  writes = record { marks = λ a h t. k.writes.marks a h (s.marks a h t) };
}

pub kept_itself : (w : World) → Sized w → Kept w w
kept_itself w s = record { sized = s; reads = keeps_itself w.reads; writes = keeps_itself w.writes }

pub kept_trans : {u v w : World} → Kept u v → Kept v w → Kept u w
kept_trans f g = later f.reads f.writes g

-- Performing any accesses on memory and maps of the right lengths leaves the lengths, and every mark of either map.
pub marks_stay : {R : Type 0} (p : Access R) (w : World) → Sized w → Kept w (perform p w).left
unfolding perform
marks_stay (done x) w s = kept_itself w s
marks_stay (read_at a p) w s =
    let r = read_keeps (is_marked w.writes a) w.reads a s.reads in
    later r.1 (keeps_itself w.writes)
    (marks_stay (p (byte_at a w)) (seen a w) (record { memory = s.memory; reads = r.0; writes = s.writes }))
marks_stay (store_at a byte p) w s =
    later (keeps_itself w.reads) (one_more w.writes a s.writes)
    (marks_stay p (kept a byte w) (record { memory = rw length-set s.memory; reads = s.reads; writes = rw length_marked s.writes }))
