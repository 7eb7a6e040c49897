-- A packet as the code cuts it: its head, and then the memory, the image and three maps.
-- Assumes nothing.
use Rattle.std.specs.Prelude.{ℕ, ◌+◌, ◌<◌, ◌≡◌, List, ◌++◌, length, get_or, take, drop, Ok, Err, None}
use Rattle.std.proofs.Common.{ap, sym, ◌∙◌, arith, append_assoc, take-append-drop, length-take-le, get_or-take, eq-eqb, ne_eqb, true}
use Rattle.std.proofs.lemmas.List.{drop-take, take-take}
use Rattle.std.proofs.lemmas.List.Edits.{sets, sets-eq}
use Rattle.std.specs.Int.Bits.{bit_or}
use Rattle.refusals.specs.declared.Refusal.{Refusal}
use Rattle.refusals.specs.declared.Refusal.TheVariants as reason
use Rattle.laws.specs.Filled.{filled}
use Rattle.marks.specs.Counts.{three_counts}
use Rattle.memory.specs.World.{World, world}
use Rattle.memory.specs.Access.{Outcome, outcome}
use Rattle.editions.specs.Editions.{is_edition, edition_of, edition_named}
use Rattle.editions.specs.declared.Edition.{Edition}
use Rattle.processor.specs.declared.Processor.{Processor}
use Rattle.state.specs.Registers.{is_whole, whole_of, whole_in}
use Rattle.engine.proofs.Refused.{when_ok, when_err, edition_ok, edition_err}
use Rattle.watch.specs.Calls.{watching}
use Rattle.watch.specs.declared.Watched.{Watched}
use Rattle.auditor.specs.Packet.{bytes_at, edition_in, budget_in, byte_in, registers_in, devices_in, image_in, kept_in}
use Rattle.auditor.specs.Audit.{refusal_of, run_on, audit_of}
use Rattle.auditor.specs.Inside.{Keeping, told, told_in}
use Rattle.auditor.specs.Accepted.{accepts}
use Rattle.auditor.specs.Fields.{Parts, memory_part, image_part, reads_part, writes_part, kept_part, row_size, told_size, by_parts}

-- The first n bytes, and the rest.
pub record Cut (n : ℕ) (whole first rest : List ℕ) : Type 0 where
  pub front : first ≡ take n whole
  pub back : rest ≡ drop n whole
  pub long : length rest + n ≡ length whole

pub cut : {n : ℕ} {whole first rest : List ℕ} → (first ≡ take n whole) × (rest ≡ drop n whole) × (length rest + n ≡ length whole)
    → Cut n whole first rest
cut c = record { front = c.0; back = c.1; long = c.2 }

module _ {n : ℕ} {whole first rest : List ℕ} (c : Cut n whole first rest) where
  pub again : first ++ rest ≡ whole
  again = rw (c.front, c.back) (take-append-drop n whole)

  sized : length first ≡ n
  sized = rw c.front (length-take-le n whole (omega (arith, c.long)))

in_a_row : (a b c d e f : List ℕ) → a ++ (b ++ (c ++ (d ++ (e ++ f)))) ≡ a ++ b ++ c ++ d ++ e ++ f
in_a_row a b c d e f = simp append_assoc

-- The same run from parts that are known by equations.
same_run : {edition edition₂ : Edition} {budget budget₂ : ℕ} {cpu cpu₂ : Processor} {w w₂ : World} → edition ≡ edition₂ → budget ≡ budget₂
    → cpu ≡ cpu₂ → w ≡ w₂ → watching edition budget cpu w ≡ watching edition₂ budget₂ cpu₂ w₂
same_run p q r s = rw (p, q, r, s)

same_world : {memory memory₂ reads reads₂ writes writes₂ : List ℕ} → memory₂ ≡ memory → reads₂ ≡ reads → writes₂ ≡ writes
    → world memory reads writes ≡ world memory₂ reads₂ writes₂
same_world p q r = rw (p, q, r)

same_keeping : {reads kept kept₂ image image₂ both given : List ℕ} {byte byte₂ blanked : ℕ} → kept₂ ≡ kept → image₂ ≡ image → byte ≡ byte₂
    → Keeping reads kept image byte both given blanked → Keeping reads kept₂ image₂ byte₂ both given blanked
same_keeping p q r k = rw (p, q, ← r) k

module _ {packet : List ℕ} where
  -- a wrong length
  pub short : {now : List ℕ} → now ≡ packet → (length packet ≡ 155712 → ⊥) → filled (Err reason.Form) now ≡ audit_of packet
  unfolding refusal_of
  short e n = rw (e, ne_eqb _ _ n)

  module _ {head r₁ : List ℕ} (c₁ : Cut 64 packet head r₁) where
    -- ---- the head

    byte : (i : ℕ) → i < 64 → get_or head i 0 ≡ get_or packet i 0
    byte i h = rw c₁.front (get_or-take 64 packet i 0 h)

    registers : registers_in head ≡ registers_in packet
    registers = rw (c₁.front, drop-take 6 58 packet) (take-take 8 58 (drop 6 packet) (omega arith))

    budget : budget_in head ≡ budget_in packet
    budget = rw (byte 1 (omega arith), byte 2 (omega arith), byte 3 (omega arith), byte 4 (omega arith))

    devices : devices_in head ≡ devices_in packet
    devices = rw (byte 35 (omega arith), byte 36 (omega arith))

    asked : take 6 head ≡ take 6 packet
    asked = rw c₁.front (take-take 6 64 packet (omega arith))

    rest_of : drop 37 head ≡ bytes_at 37 27 packet
    rest_of = rw c₁.front (drop-take 37 27 packet)

    -- what is stored behind what was asked
    laid : (part : List ℕ) → length part ≡ 31 → sets head 6 part ≡ take 6 packet ++ part ++ bytes_at 37 27 packet
    laid part long =
        let at : 6 + length part ≡ 37 = omega (arith, long) in
        sets-eq part head 6 (omega (arith, long, sized c₁)) ∙ rw (at, asked, rest_of)

    module _ {memory r₂ image r₃ reads r₄ writes kept : List ℕ} (c₂ : Cut 65536 r₁ memory r₂) (c₃ : Cut 65536 r₂ image r₃)
        (c₄ : Cut 8192 r₃ reads r₄) (c₅ : Cut 8192 r₄ writes kept) (long : length kept ≡ 8192) where
      pub whole : head ++ (memory ++ (image ++ (reads ++ (writes ++ kept)))) ≡ packet
      whole = rw (again c₅, again c₄, again c₃, again c₂, again c₁)

      parts : Parts head memory image reads writes kept packet
      parts = record {
        is = sym whole ∙ in_a_row head memory image reads writes kept;
        of_head = sized c₁;
        of_memory = sized c₂;
        of_image = sized c₃;
        of_reads = sized c₄;
        of_writes = sized c₅;
        of_kept = long;
      }

      size : length packet ≡ 155712
      size = row_size parts

      -- ---- refused

      pub no_record : {e : Refusal} → Err e ≡ whole_in (registers_in head)
          → filled (Err e) (head ++ (memory ++ (image ++ (reads ++ (writes ++ kept))))) ≡ audit_of packet
      unfolding refusal_of
      no_record h =
          let n = when_err (is_whole (registers_in head)) _ _ reason.Form h in
          rw (whole, n.1, eq-eqb _ _ size, ← registers, n.0)

      module _ {cpu : Processor} (h : Ok cpu ≡ whole_in (registers_in head)) where
        record_is : (is_whole (registers_in packet) ≡ true) × (cpu ≡ whole_of (registers_in packet))
        record_is = rw registers at (when_ok (is_whole (registers_in head)) _ _ reason.Form h)

        pub no_edition : {e : Refusal} → Err e ≡ edition_named (get_or head 0 0)
            → filled (Err e) (head ++ (memory ++ (image ++ (reads ++ (writes ++ kept))))) ≡ audit_of packet
        unfolding refusal_of
        no_edition g =
            let n = rw (byte 0 (omega arith)) at (edition_err (get_or head 0 0) g) in
            rw (whole, n.1, eq-eqb _ _ size, record_is.0, n.0)

        -- ---- answered

        module _ {edition : Edition} (g : Ok edition ≡ edition_named (get_or head 0 0)) where
          edition_is : (is_edition (edition_in packet) ≡ true) × (edition ≡ edition_of (edition_in packet))
          edition_is = rw (byte 0 (omega arith)) at (edition_ok (get_or head 0 0) g)

          accepted : refusal_of packet ≡ None
          accepted = accepts packet (record { size = size; whole = record_is.0; named = edition_is.0 })

          pub taken : {watched : Watched} {left_memory left_reads left_writes both given after : List ℕ} {blanked : ℕ}
              → outcome watched (world left_memory left_reads left_writes) ≡ watching edition (budget_in head) cpu (world memory reads writes)
              → Keeping left_reads kept image (get_or head 5 0) both given blanked
              → after ≡ told_in head watched (three_counts left_reads left_writes) blanked
              → filled (Ok tt) (after ++ (left_memory ++ (given ++ (left_reads ++ (left_writes ++ both))))) ≡ audit_of packet
          taken {watched} {left_memory} {left_reads} {left_writes} {both} {given} {after} {blanked} e keeping a =
              let counted = three_counts left_reads left_writes in
              let joined = bit_or (devices_in head) watched.devices in
              let run : outcome watched (world left_memory left_reads left_writes) ≡ run_on packet =
              e ∙ same_run edition_is.1 budget record_is.1 (same_world (memory_part parts) (reads_part parts) (writes_part parts)) in
              let keeps : Keeping left_reads (kept_in packet) (image_in packet) (byte_in packet) both given blanked =
              same_keeping (kept_part parts) (image_part parts) (byte 5 (omega arith)) keeping in
              let ran_is = ap (λ (o : Outcome World Watched). o.result.ran) run in
              let devices_are = ap (λ (o : Outcome World Watched). o.result.devices) run in
              let memory_is = ap (λ (o : Outcome World Watched). o.left.memory) run in
              let reads_are = ap (λ (o : Outcome World Watched). o.left.reads) run in
              let writes_are = ap (λ (o : Outcome World Watched). o.left.writes) run in
              rw (
                accepted,
                a,
                laid (told watched.ran counted blanked joined) (told_size watched.ran counted blanked joined),
                devices,
                by_parts packet,
                ← ran_is,
                ← devices_are,
                ← memory_is,
                ← reads_are,
                ← writes_are,
                ← keeps.count,
                ← keeps.left,
                ← keeps.stays,
              )
              (simp append_assoc)
