-- What is left is what the accesses leave, one after the other; so the marks of a map are a matter of lists of accesses.
-- Assumes nothing.
use Prim.Native.Nat.{ℕ, zero, suc, ◌<◌}
use mathlib.Core.Path.{◌≡◌, refl, ap, subst, ◌∙◌}
use mathlib.Core.Bool.{Bool, true, false, ◌||◌, ◌&&◌, not, cond, or-false, or-true, or_comm, or_assoc, and-false}
use mathlib.Core.List.{List, [], ◌∷◌, ◌++◌}
use lib.ListN.{get_or}
use lib.Dec.{eqb}
use borrow.Author.Tests.{eqb-true}
use Rattle.marks.specs.Maps.{is_marked, marked}
use Rattle.marks.proofs.Laws.{marked_is}
use Rattle.memory.specs.World.{World, Sized, byte_at, seen, kept}
use Rattle.memory.specs.Access.{Access, Outcome, perform}
use Rattle.memory.specs.Access.Access.{done, read_at, store_at}
use Rattle.memory.specs.Theorems.{marks_stay}
use Rattle.runs.specs.Run.{Progress, run}
use Rattle.runs.specs.Trace.{Event, events, taken, trace}
use Rattle.runs.specs.Trace.Event.{read, store}
use Rattle.runs.specs.Marks.{stores_at, stored}

abbrev pub effect : Event → World → World
effect (read a) w = seen a w
effect (store a byte) w = kept a byte w

abbrev pub replay : List Event → World → World
replay [] w = w
replay (e ∷ t) w = replay t (effect e w)

replay_append : (s t : List Event) (w : World) → replay (s ++ t) w ≡ replay t (replay s w)
replay_append [] t w = refl
replay_append (e ∷ s) t w = replay_append s t (effect e w)

pub replays : {R : Type 0} (p : Access R) (w : World) → (perform p w).left ≡ replay (events p w) w
unfolding perform events
replays (done x) w = refl
replays (read_at a p) w = replays (p (byte_at a w)) (seen a w)
replays (store_at a byte p) w = replays p (kept a byte w)

module _ {Regs : Type 0} (turn : Regs → Access (Progress Regs)) where
  pub run_replays : (n : ℕ) (r : Regs) (w : World) → (run (taken turn) n r w).left ≡ replay (trace turn n r w) w
  unfolding run trace
  run_replays zero r w = refl
  run_replays (suc n) r w =
      let o = taken turn r w in rw (replay_append, ← (replays (turn r) w)) (run_replays n o.result.regs o.left)

-- ---- marks

-- an access reads at k; a read of k occurs before any store there
abbrev pub reads_at : ℕ → Event → Bool
reads_at k (read a) = eqb a k
reads_at k (store a byte) = false

abbrev pub needed : ℕ → List Event → Bool
needed k [] = false
needed k (e ∷ t) = reads_at k e || not (stores_at k e) && needed k t

pub sized_effect : (e : Event) (w : World) → Sized w → Sized (effect e w)
unfolding perform
sized_effect (read a) w s = (marks_stay (read_at a done) w s).sized
sized_effect (store a byte) w s = (marks_stay (store_at a byte (done byte)) w s).sized

pub sized_replay : (t : List Event) (w : World) → Sized w → Sized (replay t w)
sized_replay [] w s = s
sized_replay (e ∷ t) w s = sized_replay t (effect e w) (sized_effect e w s)

-- r, w: k was marked before; e, s: the access reads or stores at k; n: k is needed later
law : (r w e s n : Bool) → (r || e && not w || not (s || w) && n) ≡ (r || not w && (e || not s && n))
law true w e s n = refl
law false true true true n = refl
law false true true false n = refl
law false true false true n = refl
law false true false false n = refl
law false false true s n = refl
law false false false true n = refl
law false false false false n = refl

module _ (k : ℕ) (h : k < 65536) where
  writes_effect : (e : Event) (w : World) → Sized w → is_marked (effect e w).writes k ≡ (stores_at k e || is_marked w.writes k)
  writes_effect (read a) w s = refl
  writes_effect (store a byte) w s = marked_is w.writes a k s.writes h

  pub reads_effect : (e : Event) (w : World) → Sized w
      → is_marked (effect e w).reads k ≡ (is_marked w.reads k || reads_at k e && not (is_marked w.writes k))
  reads_effect (store a byte) w s = rw or-false
  reads_effect (read a) w s = go (is_marked w.writes a) refl (eqb a k) refl
    where
      go : (b : Bool) → is_marked w.writes a ≡ b → (c : Bool) → eqb a k ≡ c
          → is_marked (cond b w.reads (marked w.reads a)) k ≡ (is_marked w.reads k || c && not (is_marked w.writes k))
      go true e true q = rw (← (eqb-true a k q), e, or-false)
      go false e true q = rw (marked_is w.reads a k s.reads h, q, ← (eqb-true a k q), e, or-true)
      go true e false q = rw or-false
      go false e false q = rw (marked_is w.reads a k s.reads h, q, or-false)

  pub writes_replay : (t : List Event) (w : World) → Sized w → is_marked (replay t w).writes k ≡ (is_marked w.writes k || stored k t)
  writes_replay [] w s = rw or-false
  writes_replay (e ∷ t) w s =
      writes_replay t (effect e w) (sized_effect e w s)
      ∙ rw (writes_effect e w s, or_comm (stores_at k e) (is_marked w.writes k), or_assoc)

  pub reads_replay : (t : List Event) (w : World) → Sized w
      → is_marked (replay t w).reads k ≡ (is_marked w.reads k || not (is_marked w.writes k) && needed k t)
  reads_replay [] w s = rw (and-false, or-false)
  reads_replay (e ∷ t) w s =
      reads_replay t (effect e w) (sized_effect e w s) ∙ rw (writes_effect e w s, reads_effect e w s, law)

-- ---- the maps have no part in it

-- what is made of one memory, whatever the maps
pub record Unmapped {R : Type 0} (o q : Outcome World R) : Type 0 where
  pub result : o.result ≡ q.result
  pub memory : o.left.memory ≡ q.left.memory

pub perform_unmapped : {R : Type 0} (p : Access R) (v w : World) → v.memory ≡ w.memory
    → Unmapped (perform p v) (perform p w) × (events p v ≡ events p w)
unfolding perform events
perform_unmapped (done x) v w e = (record { result = refl; memory = e }, refl)
perform_unmapped (read_at a p) v w e =
    let b : byte_at a v ≡ byte_at a w = ap (λ (m : List ℕ). get_or m a 0) e in
    let more = perform_unmapped (p (byte_at a v)) (seen a v) (seen a w) e in
    subst (λ (y : ℕ). Unmapped (perform (p (byte_at a v)) (seen a v)) (perform (p y) (seen a w)) × (read a ∷ events (p (byte_at a v)) (seen a v) ≡ read a ∷ events (p y) (seen a w))) b
    (more.0, ap (read a ∷◌) more.1)
perform_unmapped (store_at a byte p) v w e =
    let more = perform_unmapped p (kept a byte v) (kept a byte w) (rw e) in (more.0, ap (store a byte ∷◌) more.1)

module _ {Regs : Type 0} (turn : Regs → Access (Progress Regs)) where
  -- A run's answer, the memory it leaves and the accesses it makes depend on the memory it starts with, and not on the maps.
  pub run_unmapped : (n : ℕ) (r : Regs) (v w : World) → v.memory ≡ w.memory
      → Unmapped (run (taken turn) n r v) (run (taken turn) n r w) × (trace turn n r v ≡ trace turn n r w)
  unfolding run trace
  run_unmapped zero r v w e = (record { result = refl; memory = e }, refl)
  run_unmapped (suc n) r v w e =
      let o = taken turn r v in let u = (taken turn r w).left in
      let one = perform_unmapped (turn r) v w e in
      let more = run_unmapped n o.result.regs o.left u one.0.memory in
      rw (← one.0.result, one.1) (record { result = rw more.0.result; memory = more.0.memory }, rw more.1)
