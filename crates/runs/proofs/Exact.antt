-- From clear maps the marks are exact: an address is marked as read if and only if the list of accesses splits at a read of it with no
-- store there before, and as written if and only if the list splits at a store there.
-- Assumes nothing.
use Prim.Native.Nat.{ℕ, zero, suc, ◌/◌, ◌<◌}
use mathlib.Core.Path.{◌≡◌, refl, ap, ◌∙◌}
use mathlib.Core.Logic.{◌↔◌}
use mathlib.Core.Bool.{Bool, true, false, ◌||◌, ◌&&◌, not, or-true, false≢true, true≢false}
use mathlib.Core.List.{List, [], ◌∷◌, ◌++◌}
use native.Mathlib.Nat.{zero-div}
use lib.ListN.{length, get_or, replicate, length-replicate}
use borrow.Author.Tests.{eqb-true, eq-eqb}
use Rattle.marks.specs.Maps.{is_marked}
use Rattle.memory.specs.World.{World, Sized, world}
use Rattle.memory.specs.Access.{Access}
use Rattle.runs.specs.Run.{Progress, run}
use Rattle.runs.specs.Trace.{Event, taken, trace}
use Rattle.runs.specs.Trace.Event.{read, store}
use Rattle.runs.specs.Marks.{stores_at, stored, ReadFirst, StoredAt}
use Rattle.runs.proofs.Trace.{replay, run_replays, needed, reads_at, writes_replay, reads_replay}

module _ (k : ℕ) where
  is_store : (e : Event) → stores_at k e ≡ true → (v : ℕ) × (e ≡ store k v)
  is_store (read a) h = absurd (false≢true h)
  is_store (store a v) h = (v, ap (λ (x : ℕ). store x v) (eqb-true a k h))

  is_read : (e : Event) → reads_at k e ≡ true → e ≡ read k
  is_read (read a) h = ap read (eqb-true a k h)
  is_read (store a v) h = absurd (false≢true h)

  stores : (t : List Event) → stored k t ≡ true → StoredAt k t
  stores [] h = absurd (false≢true h)
  stores (e ∷ t) h = go (stores_at k e) refl h (λ g. stores t g)
    where
      go : (b : Bool) → stores_at k e ≡ b → (b || stored k t) ≡ true → (stored k t ≡ true → StoredAt k t) → StoredAt k (e ∷ t)
      go true q h more = record { before = []; byte = (is_store e q).0; after = t; split = ap (◌∷ t) (is_store e q).1 }
      go false q h more = let s = more h in record { before = e ∷ s.before; byte = s.byte; after = s.after; split = ap (e ∷◌) s.split }

  stored_split : (s : List Event) (v : ℕ) (t : List Event) → stored k (s ++ store k v ∷ t) ≡ true
  stored_split [] v t = rw (eq-eqb k k refl)
  stored_split (e ∷ s) v t = rw (stored_split s v t, or-true)

  pub stored_means : (t : List Event) → (stored k t ≡ true) ↔ StoredAt k t
  stored_means t = (stores t, λ s. rw s.split (stored_split s.before s.byte s.after))

  needs : (t : List Event) → needed k t ≡ true → ReadFirst k t
  needs [] h = absurd (false≢true h)
  needs (e ∷ t) h = go (reads_at k e) refl (stores_at k e) refl h (λ g. needs t g)
    where
      go : (b : Bool) → reads_at k e ≡ b → (c : Bool) → stores_at k e ≡ c → (b || not c && needed k t) ≡ true
          → (needed k t ≡ true → ReadFirst k t) → ReadFirst k (e ∷ t)
      go true q c r h more = record { before = []; after = t; split = ap (◌∷ t) (is_read e q); first = refl }
      go false q true r h more = absurd (false≢true h)
      go false q false r h more =
          let n = more h in record { before = e ∷ n.before; after = n.after; split = ap (e ∷◌) n.split; first = rw r n.first }

  needed_split : (s t : List Event) → stored k s ≡ false → needed k (s ++ read k ∷ t) ≡ true
  needed_split [] t h = rw (eq-eqb k k refl)
  needed_split (e ∷ s) t h = go (stores_at k e) refl h (λ g. needed_split s t g)
    where
      go : (b : Bool) → stores_at k e ≡ b → (b || stored k s) ≡ false → (stored k s ≡ false → needed k (s ++ read k ∷ t) ≡ true)
          → needed k (e ∷ s ++ read k ∷ t) ≡ true
      go true q h more = absurd (true≢false h)
      go false q h more = rw (q, more h, or-true)

  pub needed_means : (t : List Event) → (needed k t ≡ true) ↔ ReadFirst k t
  needed_means t = (needs t, λ n. rw n.split (needed_split n.before n.after n.first))

-- a world whose maps are clear
pub record Fresh (w : World) : Type 0 where
  pub sized : Sized w
  pub reads : (k : ℕ) → is_marked w.reads k ≡ false
  pub writes : (k : ℕ) → is_marked w.writes k ≡ false

-- maps of zero bytes are clear
zeros : (n k : ℕ) → get_or {A = ℕ} (replicate n 0) k 0 ≡ 0
zeros zero k = refl
zeros (suc n) zero = refl
zeros (suc n) (suc k) = zeros n k

pub no_marks : (n k : ℕ) → is_marked (replicate n 0) k ≡ false
no_marks n k = rw (zeros n (k / 8), zero-div)

-- over the map's length, so that no list of 8,192 zeros is ever written out
pub fresh : (image : List ℕ) (n : ℕ) → length image ≡ 65536 → n ≡ 8192 → Fresh (world image (replicate n 0) (replicate n 0))
fresh image n l e =
    let size = length-replicate {A = ℕ} n 0 ∙ e in
    record { sized = record { memory = l; reads = size; writes = size }; reads = no_marks n; writes = no_marks n }

pub reads_stay : (t : List Event) (w : World) (k : ℕ) → k < 65536 → Sized w → is_marked w.reads k ≡ true → is_marked (replay t w).reads k ≡ true
reads_stay t w k h s e = rw (reads_replay k h t w s, e)

module _ {Regs : Type 0} (step : Regs → Access (Progress Regs)) (n : ℕ) (r : Regs) (w : World) (f : Fresh w) (k : ℕ) (h : k < 65536) where
  pub reads_exact : (is_marked (run (taken step) n r w).left.reads k ≡ true) ↔ ReadFirst k (trace step n r w)
  reads_exact = rw (run_replays, reads_replay k h (trace step n r w) w f.sized, f.reads, f.writes) (needed_means k (trace step n r w))

  pub writes_exact : (is_marked (run (taken step) n r w).left.writes k ≡ true) ↔ StoredAt k (trace step n r w)
  writes_exact = rw (run_replays, writes_replay k h (trace step n r w) w f.sized, f.writes) (stored_means k (trace step n r w))
