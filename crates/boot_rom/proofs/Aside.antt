-- Any accesses while the last n bytes of both maps are set aside: put back, they are as the accesses by themselves leave them, and what was
-- marked there meanwhile is what is marked from clear maps.
-- Assumes nothing.
use Prim.Native.Nat.{ℕ, ◌+◌, ◌<◌}
use mathlib.Core.Path.{◌≡◌, refl, ap, ap₂, sym, ◌∙◌}
use mathlib.Core.List.{List, ◌++◌}
use native.Mathlib.Omega.{arith}
use lib.ListN.{length, get_or, take, drop, replicate, length-replicate, get_or-replicate}
use lib.Seq.{get_or-drop, ext_get_or}
use Rattle.memory.specs.World.{World, world}
use Rattle.memory.specs.Access.{Access, perform}
use Rattle.blanking.specs.Together.{together, get_together, length_together}
use Rattle.watch.proofs.Byte.{Maps, maps_left, Both, both, byte_of, over, same_byte, put_over}
use Rattle.boot_rom.specs.Inside.{read_back}
use Rattle.boot_rom.proofs.Back.{length_back, get_back}
use Rattle.boot_rom.proofs.Part.{length_last, length_put, get_before, get_inside, only_put}

module _ {R : Type 0} (p : Access R) (from n : ℕ) (ends : 8192 ≡ from + n) (w : World) (maps : Maps w)
    (bytes : (i : ℕ) → get_or w.writes (from + i) 0 < 256) where
  -- these bytes of a map, and the map with others in their place
  abbrev own : List ℕ → List ℕ
  own map = drop from map

  abbrev put : List ℕ → List ℕ → List ℕ
  put map part = take from map ++ part

  abbrev none : List ℕ
  none = replicate n 0

  none_long : length none ≡ n
  none_long = length-replicate {A = ℕ} n 0

  reads_end : length w.reads ≡ from + n
  reads_end = maps.reads ∙ ends

  writes_end : length w.writes ≡ from + n
  writes_end = maps.writes ∙ ends

  -- the world without these marks
  abbrev pub bare : World
  bare = world w.memory (put w.reads none) (put w.writes none)

  bare_maps : Maps bare
  bare_maps = record {
    reads = length_put from n w.reads reads_end none none_long ∙ maps.reads;
    writes = length_put from n w.writes writes_end none none_long ∙ maps.writes;
  }

  abbrev after : World
  after = (perform p bare).left

  after_maps : Maps after
  after_maps = maps_left p bare bare_maps

  -- ---- byte by byte

  no_marks : (i : ℕ) → i < n → byte_of (from + i) bare ≡ both 0 0
  no_marks i h =
      let zero = get_or-replicate {A = ℕ} n i 0 0 h in
      ap₂ both
      (get_inside from n w.reads reads_end none none_long i ∙ zero)
      (get_inside from n w.writes writes_end none none_long i ∙ zero)

  elsewhere : (i : ℕ) → i < from → byte_of i after ≡ byte_of i (perform p w).left
  elsewhere i h =
      same_byte p i (omega arith) bare w bare_maps maps refl
      (ap₂ both
      (get_before from n w.reads reads_end none none_long i h)
      (get_before from n w.writes writes_end none none_long i h))

  inside : (i : ℕ) → i < n → byte_of (from + i) (perform p w).left ≡ over (byte_of (from + i) w) (byte_of (from + i) after)
  inside i h = put_over p (from + i) (omega arith) bare w bare_maps maps refl (no_marks i h) (bytes i)

  -- ---- the maps, with these marks put back

  pub reads_back : put after.reads (read_back (own after.reads) (own w.reads) (own w.writes)) ≡ (perform p w).left.reads
  reads_back =
      let end = after_maps.reads ∙ ends in
      let since = length_last from n after.reads end in
      let read = length_last from n w.reads reads_end in
      let stored = length_last from n w.writes writes_end in
      only_put from n after.reads end (read_back (own after.reads) (own w.reads) (own w.writes)) (rw length_back since)
      (perform p w).left.reads ((maps_left p w maps).reads ∙ sym after_maps.reads)
      (λ i h. ap (λ (b : Both). b.read) (elsewhere i h))
      (λ i h.
      get_back (own after.reads) (own w.reads) (own w.writes) i (since ∙ sym read) (since ∙ sym stored) (omega arith)
      ∙ simp get_or-drop (sym (ap (λ (b : Both). b.read) (inside i h))))

  pub writes_back : put after.writes (together (own w.writes) (own after.writes)) ≡ (perform p w).left.writes
  writes_back =
      let end = after_maps.writes ∙ ends in
      let since = length_last from n after.writes end in
      let stored = length_last from n w.writes writes_end in
      only_put from n after.writes end (together (own w.writes) (own after.writes))
      (length_together (own w.writes) (own after.writes) (stored ∙ sym since) ∙ stored)
      (perform p w).left.writes ((maps_left p w maps).writes ∙ sym after_maps.writes)
      (λ i h. ap (λ (b : Both). b.stored) (elsewhere i h))
      (λ i h.
      get_together (own w.writes) (own after.writes) i
      ∙ simp get_or-drop (sym (ap (λ (b : Both). b.stored) (inside i h))))

  -- ---- what was marked meanwhile; over the length of clear maps, so that no list of 8,192 zeros is ever written out

  pub marked_alone : (m : ℕ) → m ≡ 8192
      → own after.reads ≡ own (perform p (world w.memory (replicate m 0) (replicate m 0))).left.reads
  marked_alone m e =
      let long = length_last from n after.reads (after_maps.reads ∙ ends) in
      let as_long = length_last from n (perform p cleared).left.reads ((maps_left p cleared cleared_maps).reads ∙ ends) in
      ext_get_or 0 (own after.reads) (own (perform p cleared).left.reads) (long ∙ sym as_long)
      (λ i h. simp get_or-drop (as_cleared i (omega arith)))
    where
      cleared : World
      cleared = world w.memory (replicate m 0) (replicate m 0)

      cleared_maps : Maps cleared
      cleared_maps = let long = length-replicate {A = ℕ} m 0 ∙ e in record { reads = long; writes = long }

      as_cleared : (i : ℕ) → i < n → (byte_of (from + i) after).read ≡ (byte_of (from + i) (perform p cleared).left).read
      as_cleared i h =
          let zero = get_or-replicate {A = ℕ} m (from + i) 0 0 (omega arith) in
          ap (λ (b : Both). b.read)
          (same_byte p (from + i) (omega arith) bare cleared bare_maps cleared_maps refl (no_marks i h ∙ sym (ap₂ both zero zero)))
