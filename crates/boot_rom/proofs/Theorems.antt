-- What is told of FFC0 to FFFF, in the words in which it is asked: that a step reads there, exactly when it does, at any place of the step
-- and whatever was read and stored before.
--
-- The words: `reads_rom edition cpu memory` is what `boot_rom::step` answers in `rom`; its contract says so of the code. `events p w`: the
-- accesses of p, in order; of one step where p is `counted_step edition cpu`. `ReadIn k t`: the list of accesses t has a read of k.
-- `Sized w`: memory and maps have the right lengths. `Bytes w`: the memory holds bytes.
-- Assumes nothing.
use Rattle.std.specs.Prelude.{ℕ, zero, suc, ◌+◌, ◌-◌, ◌*◌, ◌/◌, ◌%◌, ◌<◌, ◌≤◌, ◌≡◌, refl, true, cond, not, List, [], ◌∷◌, ◌↔◌, eqb, leb, length, get_or, drop}
use Rattle.std.proofs.Common.{sym, ◌∙◌, arith, length-drop, get_or-drop, eq-eqb, ne_eqb}
use Rattle.std.proofs.Math.Bool.{or-true}
use Rattle.std.proofs.lemmas.Bool.{false≢true}
use Rattle.std.proofs.Math.Nat.{zero-div}
use Rattle.std.proofs.Math.Decide.{ℕ_discrete}
use Rattle.laws.specs.Below.{most_below}
use Rattle.laws.specs.Table.{same_table}
use Rattle.marks.specs.Maps.{is_marked}
use Rattle.memory.specs.World.{World, Sized}
use Rattle.memory.specs.Inside.{Bytes}
use Rattle.editions.specs.declared.Edition.{Edition}
use Rattle.processor.specs.declared.Processor.{Processor}
use Rattle.runs.specs.Trace.{Event, events}
use Rattle.runs.proofs.Exact.{fresh}
use Rattle.engine.specs.Entry.{counted_step}
use Rattle.engine.specs.Theorems.{step_keeps}
use Rattle.watch.specs.Bits.{is_set}
use Rattle.watch.specs.Devices.{alone}
use Rattle.watch.specs.Theorems.{alone_bytes, mark_told}
use Rattle.watch.specs.Reads.{ReadIn, read_is_first}
use Rattle.boot_rom.specs.Inside.{any_marked}
use Rattle.boot_rom.specs.Reading.{reads_rom}

-- ---- a part of a map that has a mark

-- The highest bit of a byte that is set, where one is.
top : ℕ → ℕ
top byte =
    cond (leb 128 byte) 7
    (cond (leb 64 byte) 6
    (cond (leb 32 byte) 5 (cond (leb 16 byte) 4 (cond (leb 8 byte) 3 (cond (leb 4 byte) 2 (cond (leb 2 byte) 1 0))))))

top_below : (byte : ℕ) → byte < 256 → top byte ≤ 7
unfolding top
top_below = most_below 256 top (λ byte. 7) tt

top_set : (byte : ℕ) → byte < 256 → is_set byte (top byte) ≡ not (eqb byte 0)
unfolding top
top_set = same_table 256 (λ byte. is_set byte (top byte)) (λ byte. not (eqb byte 0)) refl

record SomeMark (map : List ℕ) : Type 0 where
  place : ℕ
  within : place < length map
  there : get_or map place 0 ≡ 0 → ⊥

some_mark : (map : List ℕ) → any_marked map ≡ true → SomeMark map
unfolding any_marked
some_mark [] e = absurd (false≢true e)
some_mark (byte ∷ map) e =
    elim (ℕ_discrete byte 0) [
      | yes z ↦
          let m = some_mark map (rw (eq-eqb byte 0 z) at e) in
          record { place = suc m.place; within = omega (arith, m.within); there = m.there }
      | no n ↦ record { place = 0; within = omega arith; there = n }
    ]

is_marked_lem : (map : List ℕ) (i : ℕ) → (get_or map i 0 ≡ 0 → ⊥) → any_marked map ≡ true
unfolding any_marked
is_marked_lem [] i n = absurd (n refl)
is_marked_lem (byte ∷ map) zero n = rw (ne_eqb byte 0 n)
is_marked_lem (byte ∷ map) (suc i) n = rw (is_marked_lem map i n, or-true)

-- ---- a step

-- The accesses have a read of some address from FFC0 to FFFF.
pub record ReadsThere (t : List Event) : Type 0 where
  pub address : ℕ
  pub low : 65472 ≤ address
  pub high : address < 65536
  pub read : ReadIn address t

module _ (edition : Edition) (cpu : Processor) (w : World) (size : Sized w) (bytes : Bytes w) where
  abbrev map : List ℕ
  map = (alone edition cpu w.memory).left.reads

  map_size : length map ≡ 8192
  map_size = (step_keeps edition cpu _ (fresh w.memory 8192 size.memory refl).sized).sized.reads

  told : reads_rom edition cpu w.memory ≡ true → ReadsThere (events (counted_step edition cpu) w)
  told e =
      let bytes_of = alone_bytes edition cpu w size in
      let m = some_mark (drop 8184 map) e in
      let i = 8184 + m.place in
      let few : m.place < 8 = omega (arith, m.within, length-drop 8184 map, map_size) in
      let byte = get_or map i 0 in
      let other : byte ≡ 0 → ⊥ = λ z. m.there (get_or-drop 8184 map m.place 0 ∙ z) in
      let last = top_below byte (bytes_of i) in
      let k = 8 * i + top byte in
      let at : k / 8 ≡ i = omega arith in
      let bit : k % 8 ≡ top byte = omega arith in
      let marked : is_marked map k ≡ true = rw (at, bit) (top_set byte (bytes_of i) ∙ rw (ne_eqb byte 0 other)) in
      let r = (mark_told edition cpu w size k (omega arith)).0 marked in record {
        address = k;
        low = omega arith;
        high = omega arith;
        read = record { before = r.before; after = r.after; split = r.split };
      }

  shown : ReadsThere (events (counted_step edition cpu) w) → reads_rom edition cpu w.memory ≡ true
  shown r =
      let k = r.address in
      let i = k / 8 - 8184 in
      let at : 8184 + i ≡ k / 8 = omega (arith, r.low) in
      let marked = (mark_told edition cpu w size k r.high).1 (read_is_first edition cpu w k bytes r.read) in
      is_marked_lem (drop 8184 map) i
      (λ z.
      let none : get_or map (k / 8) 0 ≡ 0 = rw at at (sym (get_or-drop 8184 map i 0) ∙ z) in
      false≢true (rw (none, zero-div) at marked))

  -- On memory and maps of the right lengths, where memory holds bytes, it is told exactly when the step reads there.
  pub rom_read_told : (reads_rom edition cpu w.memory ≡ true) ↔ ReadsThere (events (counted_step edition cpu) w)
  rom_read_told = (told, shown)
