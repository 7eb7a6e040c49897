-- What accesses do to one byte of both maps depends on that byte of both alone. And where a byte of both is zero at first, what they do to
-- it tells what they do to any other that stands there.
-- Assumes nothing.
use Prim.Native.Nat.{ℕ, ◌-◌, ◌/◌, ◌%◌, ◌^◌, ◌<◌}
use mathlib.Core.Path.{◌≡◌, refl, ap, sym, ◌∙◌}
use mathlib.Core.Bool.{Bool, true, false, ◌||◌, cond}
use mathlib.Core.List.{List, [], ◌∷◌}
use native.Mathlib.Omega.{arith}
use native.Mathlib.Decide.{ℕ_discrete}
use lib.Bits.{bit_and, bit_or, or_zero_r}
use lib.Dec.{eqb}
use lib.ListN.{length, get_or}
use lib.Seq.{get_or-set_same, get_or-set_other}
use borrow.Author.Tests.{eq-eqb, ne_eqb}
use Rattle.marks.specs.Maps.{is_marked, marked}
use Rattle.marks.proofs.Laws.{either_bit, less_bits, length_marked}
use Rattle.memory.specs.World.{World, world}
use Rattle.memory.specs.Access.{Access, perform}
use Rattle.runs.specs.Trace.{Event, events}
use Rattle.runs.specs.Trace.Event.{read, store}
use Rattle.runs.proofs.Trace.{effect, replay, replays, perform_unmapped}
use Rattle.watch.specs.Bits.{is_set, or_assoc, and_or}

-- Both maps have their lengths, whatever the memory's is; accesses leave them.
pub record Maps (w : World) : Type 0 where
  pub reads : length w.reads ≡ 8192
  pub writes : length w.writes ≡ 8192

maps_effect : (e : Event) (w : World) → Maps w → Maps (effect e w)
maps_effect (read a) w s = go (is_marked w.writes a)
  where
    go : (b : Bool) → Maps (world w.memory (cond b w.reads (marked w.reads a)) w.writes)
    go true = record { reads = s.reads; writes = s.writes }
    go false = record { reads = rw length_marked s.reads; writes = s.writes }
maps_effect (store a x) w s = record { reads = s.reads; writes = rw length_marked s.writes }

maps_replay : (t : List Event) (w : World) → Maps w → Maps (replay t w)
maps_replay [] w s = s
maps_replay (e ∷ t) w s = maps_replay t (effect e w) (maps_effect e w s)

pub maps_left : {R : Type 0} (p : Access R) (w : World) → Maps w → Maps (perform p w).left
maps_left p w s = rw replays (maps_replay (events p w) w s)

-- one byte of both maps
pub record Both : Type 0 where
  pub read : ℕ
  pub stored : ℕ

abbrev pub both : ℕ → ℕ → Both
both r s = record { read = r; stored = s }

abbrev pub byte_of : ℕ → World → Both
byte_of i w = both (get_or w.reads i 0) (get_or w.writes i 0)

-- ---- what an access does to it

abbrev read_in : ℕ → Both → Both
read_in j b = both (cond (is_set b.stored j) b.read (bit_or b.read (2 ^ j))) b.stored

abbrev stored_in : ℕ → Both → Both
stored_in j b = both b.read (bit_or b.stored (2 ^ j))

abbrev touch : ℕ → Event → Both → Both
touch i (read a) b = cond (eqb (a / 8) i) (read_in (a % 8) b) b
touch i (store a x) b = cond (eqb (a / 8) i) (stored_in (a % 8) b) b

abbrev touches : ℕ → List Event → Both → Both
touches i [] b = b
touches i (e ∷ t) b = touches i t (touch i e b)

module _ (i : ℕ) (h : i < 8192) where
  touch_effect : (e : Event) (w : World) → Maps w → byte_of i (effect e w) ≡ touch i e (byte_of i w)
  touch_effect (read a) w s = go (ℕ_discrete i (a / 8)) (is_marked w.writes a) refl
    where
      go : Dec (i ≡ a / 8) → (b : Bool) → is_marked w.writes a ≡ b
          → both (get_or (cond b w.reads (marked w.reads a)) i 0) (get_or w.writes i 0) ≡ touch i (read a) (byte_of i w)
      go (yes q) true e = rw (q, eq-eqb (a / 8) (a / 8) refl, e)
      go (yes q) false e = rw (q, eq-eqb (a / 8) (a / 8) refl, e, get_or-set_same w.reads (a / 8) _ 0 (omega arith))
      go (no q) true e = rw (ne_eqb (a / 8) i (λ r. q (sym r)))
      go (no q) false e = rw (ne_eqb (a / 8) i (λ r. q (sym r)), get_or-set_other w.reads (a / 8) i _ 0 q)
  touch_effect (store a x) w s = go (ℕ_discrete i (a / 8))
    where
      go : Dec (i ≡ a / 8) → both (get_or w.reads i 0) (get_or (marked w.writes a) i 0) ≡ touch i (store a x) (byte_of i w)
      go (yes q) = rw (q, eq-eqb (a / 8) (a / 8) refl, get_or-set_same w.writes (a / 8) _ 0 (omega arith))
      go (no q) = rw (ne_eqb (a / 8) i (λ r. q (sym r)), get_or-set_other w.writes (a / 8) i _ 0 q)

  touches_replay : (t : List Event) (w : World) → Maps w → byte_of i (replay t w) ≡ touches i t (byte_of i w)
  touches_replay [] w s = refl
  touches_replay (e ∷ t) w s = touches_replay t (effect e w) (maps_effect e w s) ∙ ap (touches i t) (touch_effect e w s)

-- ---- from a byte of zero to any other

-- What is made of bytes that stood there before, where a byte of zero became `b`: what was read is marked, but where something had been
-- stored; what was stored is marked.
abbrev pub over : Both → Both → Both
over before b = both (bit_or before.read (bit_and b.read (255 - before.stored))) (bit_or before.stored b.stored)

-- by whether the bit was set before, and whether it is now
read_over : (old new less one : ℕ) (x y : Bool) → bit_and one less ≡ cond x 0 one
    → cond (x || y) (bit_or old (bit_and new less)) (bit_or (bit_or old (bit_and new less)) one)
    ≡ bit_or old (bit_and (cond y new (bit_or new one)) less)
read_over old new less one true true e = refl
read_over old new less one true false e = rw (and_or, e, or_zero_r)
read_over old new less one false true e = refl
read_over old new less one false false e = rw (and_or, e, or_assoc)

module _ (i : ℕ) (before : Both) (h : before.stored < 256) where
  read_in_over : (j : ℕ) → j < 8 → (b : Both) → read_in j (over before b) ≡ over before (read_in j b)
  read_in_over j g b =
      rw (either_bit before.stored b.stored j)
      (ap (λ (n : ℕ). both n (bit_or before.stored b.stored))
      (read_over before.read b.read (255 - before.stored) (2 ^ j) (is_set before.stored j) (is_set b.stored j)
      (less_bits before.stored j h g)))

  touch_over : (e : Event) (b : Both) → touch i e (over before b) ≡ over before (touch i e b)
  touch_over (read a) b = go (eqb (a / 8) i)
    where
      go : (c : Bool) → cond c (read_in (a % 8) (over before b)) (over before b) ≡ over before (cond c (read_in (a % 8) b) b)
      go true = read_in_over (a % 8) (omega arith) b
      go false = refl
  touch_over (store a x) b = go (eqb (a / 8) i)
    where
      go : (c : Bool) → cond c (stored_in (a % 8) (over before b)) (over before b) ≡ over before (cond c (stored_in (a % 8) b) b)
      go true = rw or_assoc
      go false = refl

  touches_over : (t : List Event) (b : Both) → touches i t (over before b) ≡ over before (touches i t b)
  touches_over [] b = refl
  touches_over (e ∷ t) b = rw touch_over (touches_over t (touch i e b))

-- ---- the accesses of a step

module _ {R : Type 0} (p : Access R) (i : ℕ) (h : i < 8192) (v w : World) (s : Maps v) (t : Maps w) (e : v.memory ≡ w.memory) where
  through : (u : World) → Maps u → events p u ≡ events p w → byte_of i (perform p u).left ≡ touches i (events p w) (byte_of i u)
  through u sized same = rw (replays, ← same) (touches_replay i h (events p u) u sized)

  -- the same byte before, and so the same byte after
  pub same_byte : byte_of i v ≡ byte_of i w → byte_of i (perform p v).left ≡ byte_of i (perform p w).left
  same_byte q = through v s (perform_unmapped p v w e).1 ∙ rw q (sym (through w t refl))

  -- set aside before, and put back after
  pub put_over : byte_of i v ≡ both 0 0 → (byte_of i w).stored < 256
      → byte_of i (perform p w).left ≡ over (byte_of i w) (byte_of i (perform p v).left)
  put_over q below =
      through w t refl
      ∙ ap (touches i (events p w)) start
      ∙ touches_over i (byte_of i w) below (events p w) (both 0 0)
      ∙ ap (over (byte_of i w)) (ap (touches i (events p w)) (sym q) ∙ sym (through v s (perform_unmapped p v w e).1))
    where
      start : byte_of i w ≡ over (byte_of i w) (both 0 0)
      start = rw (or_zero_r (get_or w.reads i 0), or_zero_r (get_or w.writes i 0))
