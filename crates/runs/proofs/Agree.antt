-- Two images that are equal wherever a run marks a read give the same run. The relation between the two worlds, as the run goes on: the
-- same maps, and equal bytes wherever something was stored or the first run's final map marks a read; so every byte that a step reads
-- is equal in both.
-- Assumes nothing.
use Prim.Native.Nat.{ℕ, ◌<◌}
use mathlib.Core.Path.{◌≡◌, refl, ap, sym, subst, ◌∙◌}
use mathlib.Core.Bool.{Bool, true, false, ◌||◌, cond, or-true, true≢false}
use mathlib.Core.List.{List, [], ◌∷◌}
use native.Mathlib.Omega.{arith}
use native.Mathlib.Decide.{dec_lt}
use lib.ListN.{length, get_or, set, get_or-eq_default}
use lib.Seq.{get_or-set_same, get_or-set_other}
use lib.Dec.{eqb}
use borrow.Author.Tests.{eqb-true, eqb-false, eq-eqb}
use Rattle.marks.specs.Maps.{is_marked}
use Rattle.marks.proofs.Laws.{marked_is}
use Rattle.memory.specs.World.{World, Sized, world, byte_at, seen, kept}
use Rattle.memory.specs.Access.{Access, Outcome, perform}
use Rattle.memory.specs.Access.Access.{done, read_at, store_at}
use Rattle.runs.specs.Run.{Progress, run}
use Rattle.runs.specs.Trace.{Event, events, taken, trace}
use Rattle.runs.specs.Trace.Event.{read, store}
use Rattle.runs.specs.Marks.{stored}
use Rattle.runs.specs.Same.{Same}
use Rattle.runs.proofs.Run.{Agreed, run_both}
use Rattle.runs.proofs.Trace.{effect, replay, replays, run_replays, sized_effect, sized_replay, writes_replay, reads_effect}
use Rattle.runs.proofs.Exact.{Fresh, reads_stay}

-- What is the same stays so under any function of the answer.
pub same_through : {R S : Type 0} (f : R → S) {image second : List ℕ} {o q : Outcome World R} → Same image second o q
    → Same image second (record { result = f o.result; left = o.left }) (record { result = f q.result; left = q.left })
same_through f s =
    record { result = ap f s.result; reads = s.reads; writes = s.writes; stored = s.stored; first = s.first; other = s.other }

get_set : (m : List ℕ) (a v k : ℕ) → k < length m → get_or (set m a v) k 0 ≡ cond (eqb a k) v (get_or m k 0)
get_set m a v k h = go (eqb a k) refl
  where
    go : (b : Bool) → eqb a k ≡ b → get_or (set m a v) k 0 ≡ cond b v (get_or m k 0)
    go true e = rw (eqb-true a k e) (get_or-set_same m k v 0 h)
    go false e = get_or-set_other m a k v 0 (λ q. eqb-false a k e (sym q))

pub record Alike (final : List ℕ) (v w : World) : Type 0 where
  pub left : Sized v
  pub right : Sized w
  pub reads : v.reads ≡ w.reads
  pub writes : v.writes ≡ w.writes
  pub bytes : (k : ℕ) → k < 65536 → (is_marked v.writes k || is_marked final k) ≡ true → get_or v.memory k 0 ≡ get_or w.memory k 0

module _ (final : List ℕ) where
  -- the reads marked so far are in the final map
  abbrev Within : World → Type 0
  Within w = Sized w → (k : ℕ) → k < 65536 → is_marked w.reads k ≡ true → is_marked final k ≡ true

  within_before : (t : List Event) (w : World) → Within (replay t w) → Within w
  within_before t w c s k h e = c (sized_replay t w s) k h (reads_stay t w k h s e)

  -- an address that is read is in the final map, unless it was stored to before
  noted : (a : ℕ) (v : World) → Sized v → Within (seen a v) → a < 65536 → is_marked v.writes a ≡ false → is_marked final a ≡ true
  noted a v s c h e = c (sized_effect (read a) v s) a h (rw (reads_effect a h (read a) v s, e, eq-eqb a a refl, or-true))

  same_byte : (a : ℕ) (v w : World) → Alike final v w → Within (seen a v) → byte_at a v ≡ byte_at a w
  same_byte a v w s c = go (dec_lt a 65536) (is_marked v.writes a) refl
    where
      go : Dec (a < 65536) → (b : Bool) → is_marked v.writes a ≡ b → byte_at a v ≡ byte_at a w
      go (yes h) true e = s.bytes a h (rw e)
      go (yes h) false e = s.bytes a h (rw (noted a v s.left c h e, or-true))
      go (no h) b e = get_or-eq_default v.memory 0 (omega arith) ∙ sym (get_or-eq_default w.memory 0 (omega arith))

  alike_effect : (e : Event) (v w : World) → Alike final v w → Alike final (effect e v) (effect e w)
  alike_effect (read a) v w s = record {
    left = sized_effect (read a) v s.left;
    right = sized_effect (read a) w s.right;
    reads = rw (s.reads, s.writes);
    writes = s.writes;
    bytes = s.bytes;
  }
  alike_effect (store a x) v w s = record {
    left = sized_effect (store a x) v s.left;
    right = sized_effect (store a x) w s.right;
    reads = s.reads;
    writes = rw s.writes;
    bytes = λ k h e. rw (get_set v.memory a x k (omega arith), get_set w.memory a x k (omega arith)) (go k h (eqb a k) (rw (marked_is v.writes a k s.left.writes h) at e));
  }
    where
      go : (k : ℕ) → k < 65536 → (b : Bool) → (b || is_marked v.writes k || is_marked final k) ≡ true
          → cond b x (get_or v.memory k 0) ≡ cond b x (get_or w.memory k 0)
      go k h true e = refl
      go k h false e = s.bytes k h e

  agree : {R : Type 0} (p : Access R) (v w : World) → Alike final v w → Within (perform p v).left → Agreed (Alike final) (perform p v) (perform p w)
  unfolding perform events
  agree (done x) v w s c = record { result = refl; left = s }
  agree (read_at a p) v w s c =
      let x = byte_at a v in
      let covered = within_before (events (p x) (seen a v)) (seen a v) (rw replays at c) in
      subst (λ (y : ℕ). Agreed (Alike final) (perform (p x) (seen a v)) (perform (p y) (seen a w))) (same_byte a v w s covered)
      (agree (p x) (seen a v) (seen a w) (alike_effect (read a) v w s) c)
  agree (store_at a x p) v w s c = agree p (kept a x v) (kept a x w) (alike_effect (store a x) v w s) c

-- ---- bytes that no step stored

own_byte : (k : ℕ) (t : List Event) (w : World) → stored k t ≡ false → get_or (replay t w).memory k 0 ≡ get_or w.memory k 0
own_byte k [] w e = refl
own_byte k (read a ∷ t) w e = own_byte k t (seen a w) e
own_byte k (store a x ∷ t) w e = go (eqb a k) refl e (λ g. own_byte k t (kept a x w) g)
  where
    go : (b : Bool) → eqb a k ≡ b → (b || stored k t) ≡ false → (stored k t ≡ false → get_or (replay t (kept a x w)).memory k 0 ≡ get_or (set w.memory a x) k 0)
        → get_or (replay t (kept a x w)).memory k 0 ≡ get_or w.memory k 0
    go true q e more = absurd (true≢false e)
    go false q e more = more e ∙ get_or-set_other w.memory a k x 0 (λ r. eqb-false a k q (sym r))

neither : (a b : Bool) → (a || b) ≡ false → b ≡ false
neither true b e = absurd (true≢false e)
neither false b e = e

unstored : (t : List Event) (w : World) → Sized w → (k : ℕ) → k < 65536 → is_marked (replay t w).writes k ≡ false
    → get_or (replay t w).memory k 0 ≡ get_or w.memory k 0
unstored t w s k h e = own_byte k t w (neither (is_marked w.writes k) (stored k t) (sym (writes_replay k h t w s) ∙ e))

-- ---- the two runs

abbrev pub on : World → List ℕ → World
on w second = world second w.reads w.writes

module _ {Regs : Type 0} (step : Regs → Access (Progress Regs)) (n : ℕ) (r : Regs) (w : World) (f : Fresh w) where
  pub same_run : (second : List ℕ) → length second ≡ 65536
      → ((k : ℕ) → k < 65536 → is_marked (run (taken step) n r w).left.reads k ≡ true → get_or w.memory k 0 ≡ get_or second k 0)
      → Same w.memory second (run (taken step) n r w) (run (taken step) n r (on w second))
  same_run second l same =
      let final = (run (taken step) n r w).left.reads in
      let size : Sized (on w second) = record { memory = l; reads = f.sized.reads; writes = f.sized.writes } in
      let start : Alike final w (on w second) = record { left = f.sized; right = size; reads = refl; writes = refl; bytes = λ k h e. same k h (rw (f.writes k) at e) } in
      let end = run_both (taken step) (Within final) (Alike final) (λ r w c. within_before final (events (step r) w) w (rw replays at c)) (λ r. agree final (step r)) n r w (on w second) start (λ s k h e. e) in
      record {
        result = end.result;
        reads = end.left.reads;
        writes = end.left.writes;
        stored = λ k h e. end.left.bytes k h (rw e);
        first = λ k h e. rw run_replays (unstored (trace step n r w) w f.sized k h (rw run_replays at e));
        other = λ k h e. rw run_replays (unstored (trace step n r (on w second)) (on w second) size k h (rw (end.left.writes, run_replays) at e));
      }
