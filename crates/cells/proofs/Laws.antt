-- What a row of cells stands for: a cell holds its address's byte and marks, and a row in which every cell holds those of a world stands
-- for that world. So one more mark in a cell is one more mark in the world's map.
-- Assumes nothing.
use Rattle.std.proofs.Common.{◌≡◌, ◌≢◌, ℕ, ◌+◌, ◌*◌, ◌/◌, ◌%◌, ◌<◌, true, cond, List, eqb, length, get_or, set, length-set, get_or-set_same, get_or-set_other, refl, sym, ◌∙◌, arith, ne_eqb}
use Rattle.std.proofs.Math.Decide.{ℕ_discrete}
use Rattle.std.proofs.lemmas.List.{set-get_or}
use Rattle.std.specs.Int.{from_bool}
use Rattle.laws.specs.Bytes.{Bytes}
use Rattle.marks.specs.Maps.{is_marked}
use Rattle.marks.proofs.Laws.{length_marked, bytes_marked}
use Rattle.memory.specs.World.{World, world, Sized, seen, kept}
use Rattle.memory.specs.Access.{ask, put, outcome, perform, Does}
use Rattle.cells.specs.Cells.{byte_of, eight_of, values, world_of}
use Rattle.cells.proofs.Values.{length_values, value_at, are_values}
use Rattle.cells.proofs.Marks.{map_marks, map_bytes, map_is}
use Rattle.cells.proofs.Marks.{marked_here, marked_elsewhere, unless_here, unless_elsewhere, unless_length, unless_bytes}
use Rattle.cells.proofs.Bits.{read_set, stored_clear, still_clear, only_read, its_byte, its_read, its_stored}
use Rattle.cells.proofs.Bits.{mark_small, mark_test, mark_value}

-- A cell holds the byte and the marks that a world has at an address.
pub record Holds (cell : ℕ) (w : World) (k : ℕ) : Type 0 where
  pub byte : cell % 256 ≡ get_or w.memory k 0
  pub read : eqb (cell / 256 % 2) 1 ≡ is_marked w.reads k
  pub stored : eqb (cell / 512 % 2) 1 ≡ is_marked w.writes k

-- Both maps of a world are of bytes.
pub record Mapped (w : World) : Type 0 where
  pub reads : Bytes w.reads
  pub writes : Bytes w.writes

module _ (cells : List ℕ) where
  -- What cells stand for has the right lengths, whatever they are;
  pub sized : Sized (world_of cells)
  unfolding world_of
  sized = record {
    memory = length_values 65536 (byte_of cells);
    reads = length_values 8192 (eight_of 8 cells);
    writes = length_values 8192 (eight_of 9 cells);
  }

  -- its maps are of bytes;
  pub mapped : Mapped (world_of cells)
  unfolding world_of
  mapped = record { reads = map_bytes 8 cells; writes = map_bytes 9 cells }

  -- and each cell holds the byte and the marks of its address.
  pub holds : (k : ℕ) → k < 65536 → Holds (get_or cells k 0) (world_of cells) k
  unfolding world_of
  holds k h = record {
    byte = sym (value_at 65536 (byte_of cells) k h);
    read = sym (map_marks 8 cells k h);
    stored = sym (map_marks 9 cells k h);
  }

  -- Memory and maps that are filled from the cells are what they stand for.
  pub filled : {memory reads writes : List ℕ} → memory ≡ values 65536 (byte_of cells) → reads ≡ values 8192 (eight_of 8 cells)
      → writes ≡ values 8192 (eight_of 9 cells) → world memory reads writes ≡ world_of cells
  unfolding world_of
  filled m r w = rw (m, r, w)

  -- A world whose bytes and marks the cells hold is what they stand for.
  pub world_is : (w : World) → Sized w → Mapped w → ((k : ℕ) → k < 65536 → Holds (get_or cells k 0) w k) → world_of cells ≡ w
  unfolding world_of
  world_is w size bytes each =
      let memory = are_values 65536 (byte_of cells) w.memory size.memory (λ k h. sym (each k h).byte) in
      let reads = map_is 8 cells w.reads size.reads bytes.reads (λ k h. (each k h).read) in
      let writes = map_is 9 cells w.writes size.writes bytes.writes (λ k h. (each k h).stored) in
      rw (← memory, reads, writes)

-- With one cell more of a world, where all others are that world's already, they stand for it.
pub set_is : (cells : List ℕ) (a cell : ℕ) → length cells ≡ 65536 → a < 65536 → (w : World) → Sized w → Mapped w → Holds cell w a
    → ((k : ℕ) → k < 65536 → k ≢ a → Holds (get_or cells k 0) w k) → world_of (set cells a cell) ≡ w
set_is cells a cell laid h w size bytes here others = world_is (set cells a cell) w size bytes (λ k q. go k q (ℕ_discrete k a))
  where
    go : (k : ℕ) → k < 65536 → Dec (k ≡ a) → Holds (get_or (set cells a cell) k 0) w k
    go k q (yes same) = rw (same, get_or-set_same cells a cell 0 (omega arith)) here
    go k q (no other) = rw (get_or-set_other cells a k cell 0 other) (others k q other)

-- ---- what an access leaves

-- What a read makes of a cell: byte and stored mark stay, and the read mark is set unless the stored mark is.
record Touched (old cell : ℕ) : Type 0 where
  byte : cell % 256 ≡ old % 256
  read : eqb (cell / 256 % 2) 1 ≡ cond (eqb (old / 512 % 2) 1) (eqb (old / 256 % 2) 1) true
  stored : cell / 512 % 2 ≡ old / 512 % 2

-- It makes nothing of a cell that has a mark.
touched_already : (cell : ℕ) → cell / 256 % 4 ≢ 0 → Touched cell cell
touched_already cell some = go (ℕ_discrete (cell / 512 % 2) 1)
  where
    go : Dec (cell / 512 % 2 ≡ 1) → Touched cell cell
    go (yes q) = record { byte = refl; read = rw q; stored = refl }
    go (no q) = record { byte = refl; read = rw (ne_eqb _ _ q, only_read cell some q); stored = refl }

module _ (cells : List ℕ) (a : ℕ) (laid : length cells ≡ 65536) (h : a < 65536) where
  -- With such a cell the address is seen.
  touched : (cell : ℕ) → Touched (get_or cells a 0) cell → world_of (set cells a cell) ≡ seen a (world_of cells)
  touched cell to =
      let w = world_of cells in
      let size = sized cells in
      set_is cells a cell laid h (seen a w)
      (record {
        memory = size.memory;
        reads = unless_length w.reads size.reads a w.writes;
        writes = size.writes;
      })
      (record { reads = unless_bytes w.reads size.reads a w.writes (mapped cells).reads; writes = (mapped cells).writes })
      (let held = holds cells a h in
      record {
        byte = to.byte ∙ held.byte;
        read = to.read ∙ rw (held.stored, held.read) (sym (unless_here w.reads size.reads a w.writes h));
        stored = rw to.stored held.stored;
      })
      (λ k q other. let held = holds cells k q in
      record {
        byte = held.byte;
        read = held.read ∙ sym (unless_elsewhere w.reads size.reads a w.writes k q other);
        stored = held.stored;
      })

  -- A first touch sets the read mark.
  first_touch : get_or cells a 0 / 256 % 4 ≡ 0 → world_of (set cells a (get_or cells a 0 + 256)) ≡ seen a (world_of cells)
  first_touch clear =
      let cell = get_or cells a 0 in
      touched (cell + 256)
      (record {
        byte = omega arith;
        read = rw (read_set cell clear, stored_clear cell clear);
        stored = still_clear cell clear ∙ sym (stored_clear cell clear);
      })

  -- A later read changes nothing.
  later_touch : get_or cells a 0 / 256 % 4 ≢ 0 → world_of cells ≡ seen a (world_of cells)
  later_touch some = rw set-get_or at (touched (get_or cells a 0) (touched_already (get_or cells a 0) some))

  -- A store puts its byte in the place of the old one, sets the stored mark and leaves the read mark.
  stored_there : (byte : ℕ) → byte < 256
      → world_of (set cells a (get_or cells a 0 / 256 % 2 * 256 + 512 + byte)) ≡ kept a byte (world_of cells)
  stored_there byte small =
      let w = world_of cells in
      let size = sized cells in
      let old = get_or cells a 0 in
      let cell = old / 256 % 2 * 256 + 512 + byte in
      let mark = old / 256 % 2 in
      let one : mark < 2 = omega arith in
      let is : cell ≡ byte + mark * 256 + 1 * 512 = omega arith in
      set_is cells a cell laid h (kept a byte w)
      (record {
        memory = length-set w.memory a byte ∙ size.memory;
        reads = size.reads;
        writes = length_marked w.writes a ∙ size.writes;
      })
      (record { reads = (mapped cells).reads; writes = bytes_marked w.writes a (mapped cells).writes })
      (record {
        byte =
            its_byte cell byte mark 1 small one (omega arith) is
            ∙ sym (get_or-set_same w.memory a byte 0 (omega (arith, size.memory)));
        read = rw (its_read cell byte mark 1 small one (omega arith) is) (holds cells a h).read;
        stored = rw (its_stored cell byte mark 1 small one (omega arith) is) (sym (marked_here w.writes size.writes a h));
      })
      (λ k q other. let held = holds cells k q in
      record {
        byte = held.byte ∙ sym (get_or-set_other w.memory a k byte 0 other);
        read = held.read;
        stored = held.stored ∙ sym (marked_elsewhere w.writes size.writes a k q other);
      })

  -- So these are what performing a read, or a store, does.
  does_read : {left : World} → left ≡ seen a (world_of cells) → Does (ask a) (world_of cells) (outcome (get_or cells a 0 % 256) left)
  unfolding perform
  does_read e = record { is = rw (e, (holds cells a h).byte) }

  pub first_read : get_or cells a 0 / 256 % 4 ≡ 0
      → Does (ask a) (world_of cells) (outcome (get_or cells a 0 % 256) (world_of (set cells a (get_or cells a 0 + 256))))
  first_read clear = does_read (first_touch clear)

  pub later_read : get_or cells a 0 / 256 % 4 ≢ 0 → Does (ask a) (world_of cells) (outcome (get_or cells a 0 % 256) (world_of cells))
  later_read some = does_read (later_touch some)

  pub one_store : (byte : ℕ) → byte < 256
      → Does (put a byte) (world_of cells) (outcome tt (world_of (set cells a (get_or cells a 0 / 256 % 2 * 256 + 512 + byte))))
  unfolding perform
  one_store byte small = record { is = rw (stored_there byte small) }

-- ---- the way in

module _ (memory reads writes : List ℕ) where
  -- the cell of an address
  abbrev pub cell_of : ℕ → ℕ
  cell_of k = get_or memory k 0 + cond (is_marked reads k) 256 0 + cond (is_marked writes k) 512 0

  -- Cells that are made of a world's bytes and marks stand for it.
  pub laid_out : (cells : List ℕ) → ((k : ℕ) → k < 65536 → get_or cells k 0 ≡ cell_of k) → Sized (world memory reads writes) → Bytes memory → Bytes reads
      → Bytes writes → world_of cells ≡ world memory reads writes
  laid_out cells each size bytes r w =
      world_is cells (world memory reads writes) size (record { reads = r; writes = w })
      (λ k h. rw (each k h) (cell_holds k))
    where
      cell_holds : (k : ℕ) → Holds (cell_of k) (world memory reads writes) k
      cell_holds k =
          let byte = get_or memory k 0 in
          let r = is_marked reads k in
          let w = is_marked writes k in
          let is : cell_of k ≡ byte + from_bool r * 256 + from_bool w * 512 = rw (mark_value r 256, mark_value w 512) in
          record {
            byte = its_byte (cell_of k) byte (from_bool r) (from_bool w) (bytes k) (mark_small r) (mark_small w) is;
            read = rw (its_read (cell_of k) byte (from_bool r) (from_bool w) (bytes k) (mark_small r) (mark_small w) is) (mark_test r);
            stored = rw (its_stored (cell_of k) byte (from_bool r) (from_bool w) (bytes k) (mark_small r) (mark_small w) is) (mark_test w);
          }
