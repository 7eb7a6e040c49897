-- What holds of SPC files: which are accepted, that a write keeps to its places, and what comes of reading and writing one after the other.
-- The one hypothesis is that a file holds bytes, which the code's types give.
-- Assumes nothing.
use Rattle.std.specs.Prelude.{ℕ, ◌+◌, ◌-◌, ◌/◌, ◌%◌, ◌<◌, ◌≤◌, ◌≡◌, refl, Bool, true, false, ◌⊎◌}
use Rattle.std.specs.Prelude.{List, Result, Ok, Err, nat_eq, length, get_or, take, drop}
use Rattle.std.specs.Bool.{Decides}
use Rattle.std.specs.List.{starts_with}
use Rattle.std.specs.Result.{result_unwrap_or}
use Rattle.std.proofs.Common.{sym, ap, subst, ◌∙◌, inl, inr, ⊎_elim, arith, length-drop, ext_get_or, length-take-le}
use Rattle.std.proofs.Math.Decide.{ℕ_discrete, dec_le}
use Rattle.std.proofs.Math.Seq.{length-sets}
use Rattle.std.proofs.lemmas.List.Edits.{sets}
use Rattle.std.proofs.lemmas.Slice.Eq.{bytes_eq-Decides}
use borrow.Author.Tests.{eq-eqb, ne_eqb}
use Rattle.laws.specs.Bytes.{Bytes}
use Rattle.laws.specs.Filled.{Filled, filled}
use Rattle.laws.specs.Stored.{other_place, stored_place, before_stored, stored_part, standing_stays, stored_again}
use Rattle.refusals.specs.declared.Refusal.{Refusal}
use Rattle.waking.specs.States.{is_awake}
use Rattle.psw.specs.Theorems.{byte_to_flags_and_back, flags_to_byte_and_back}
use Rattle.processor.specs.Record.{woken, word_of}
use Rattle.processor.specs.Theorems.{woken_again}
use Rattle.processor.specs.declared.Processor.{Processor}
use Rattle.spc_file.specs.Layout.{signature, record_in, record_bytes, memory_in, laid}
use Rattle.spc_file.specs.Calls.{refusal_of, read_of, memory_of, write_refusal, write_of}
use Rattle.spc_file.specs.Refused.{not_refused, answers}

-- ---- which files are accepted

pub record Accepted (file : List ℕ) : Type 0 where
  pub size : length file ≡ 66048
  pub begins : take 33 file ≡ signature

-- The test of the beginning passes exactly if the first 33 bytes are the signature.
begins_decides : (file : List ℕ) → Decides (starts_with nat_eq file signature) (take 33 file ≡ signature)
unfolding signature
begins_decides file = let tells = bytes_eq-Decides signature (take 33 file) in (λ t. sym (tells.0 t), λ e. tells.1 (sym e))

-- A file is accepted if it has the length and begins with the signature,
pub accepts : {file : List ℕ} → Accepted file → refusal_of file ≡ Ok tt
accepts {file} a = rw (eq-eqb _ _ a.size, (begins_decides file).1 a.begins)

-- and only then.
pub accepted : {file : List ℕ} → refusal_of file ≡ Ok tt → Accepted file
accepted {file} e = go (ℕ_discrete (length file) 66048) (starts_with nat_eq file signature) refl
  where
    go : Dec (length file ≡ 66048) → (b : Bool) → starts_with nat_eq file signature ≡ b → Accepted file
    go (yes size) true t = record { size = size; begins = (begins_decides file).0 t }
    go (yes size) false t = let other = rw (eq-eqb _ _ size, t) at e in cc
    go (no n) b t = let other = rw (ne_eqb _ _ n) at e in cc

-- What reading then gives: the record,
pub gives_record : (file : List ℕ) → refusal_of file ≡ Ok tt → read_of file ≡ Ok (record_in file)
gives_record file z = rw z

-- and the memory.
pub gives_part : (file : List ℕ) → refusal_of file ≡ Ok tt → memory_of file ≡ memory_in file
gives_part file z = rw z

-- A record that reading gives is that of an accepted file, and a refusal is the file's own.
module _ (file : List ℕ) where
  pub given : {cpu : Processor} → read_of file ≡ Ok cpu → (refusal_of file ≡ Ok tt) × (record_in file ≡ cpu)
  given {cpu} e = go (refusal_of file) refl
    where
      go : (r : Result Unit Refusal) → refusal_of file ≡ r → (refusal_of file ≡ Ok tt) × (record_in file ≡ cpu)
      go (Ok x) z = let same = rw z at e in (z, cc)
      go (Err refusal) z = let other = rw z at e in cc

  pub not_given : {refusal : Refusal} → read_of file ≡ Err refusal → refusal_of file ≡ Err refusal
  not_given {refusal} e = go (refusal_of file) refl
    where
      go : (r : Result Unit Refusal) → refusal_of file ≡ r → refusal_of file ≡ Err refusal
      go (Ok x) z = let other = rw z at e in cc
      go (Err d) z = let same = rw z at e in cc

-- Such a record is awake.
pub gives_awake : (file : List ℕ) (cpu : Processor) → read_of file ≡ Ok cpu → is_awake cpu.state ≡ true
unfolding record_in
gives_awake file cpu e = let own = (given file e).1 in rw (← own) refl

-- The memory of an accepted file is a whole one.
pub memory_size : {file : List ℕ} → Accepted file → length (memory_in file) ≡ 65536
memory_size {file} a = length-take-le 65536 (drop 256 file) (rw length-drop (omega (arith, a.size)))

-- ---- a write

-- what a write asks for: an accepted file, a memory that has its length, and a record that is awake
pub record Writable (cpu : Processor) (memory file : List ℕ) : Type 0 where
  pub accepted : Accepted file
  pub size : length memory ≡ 65536
  pub awake : is_awake cpu.state ≡ true

module _ (cpu : Processor) (memory file : List ℕ) where
  -- It is accepted then,
  pub writes : Writable cpu memory file → write_refusal cpu memory file ≡ Ok tt
  writes w = rw (accepts w.accepted, eq-eqb _ _ w.size, w.awake)

  -- and only then.
  pub written : write_refusal cpu memory file ≡ Ok tt → Writable cpu memory file
  written e = go (refusal_of file) refl (ℕ_discrete (length memory) 65536) (is_awake cpu.state) refl
    where
      go : (r : Result Unit Refusal) → refusal_of file ≡ r → Dec (length memory ≡ 65536) → (b : Bool) → is_awake cpu.state ≡ b
          → Writable cpu memory file
      go (Ok x) z (yes size) true awake = record { accepted = accepted z; size = size; awake = awake }
      go (Ok x) z (yes size) false rest = let other = rw (z, eq-eqb _ _ size, rest) at e in cc
      go (Ok x) z (no n) b f = let other = rw (z, ne_eqb _ _ n) at e in cc
      go (Err refusal) z size b f = let other = rw z at e in cc

  -- A file that reading refuses is refused by a write for the same reason, and stays as it was.
  pub refused_file : {refusal : Refusal} → refusal_of file ≡ Err refusal → write_of cpu memory file ≡ filled (Err refusal) file
  refused_file z = rw z

-- the places to which it stores
abbrev pub Stored : ℕ → Type 0
Stored at = ((37 ≤ at) × (at ≤ 43)) ⊎ ((256 ≤ at) × (at ≤ 65791))

stored_or_not : (at : ℕ) → Dec (Stored at)
stored_or_not at = go (dec_le at 36) (dec_le at 43) (dec_le at 255) (dec_le at 65791)
  where
    go : Dec (at ≤ 36) → Dec (at ≤ 43) → Dec (at ≤ 255) → Dec (at ≤ 65791) → Dec (Stored at)
    go (yes a) b c d = no (⊎_elim (λ p. omega arith) (λ p. omega arith))
    go (no a) (yes b) c d = yes (inl (omega arith, omega arith))
    go (no a) (no b) (yes c) d = no (⊎_elim (λ p. omega arith) (λ p. omega arith))
    go (no a) (no b) (no c) (yes d) = yes (inr (omega arith, omega arith))
    go (no a) (no b) (no c) (no d) = no (⊎_elim (λ p. omega arith) (λ p. omega arith))

module _ (cpu : Processor) (memory file : List ℕ) where
  -- Record and memory, laid into a file, leave every other byte as it was,
  pub laid_elsewhere : length memory ≡ 65536 → (at : ℕ) → (Stored at → ⊥) → get_or (laid cpu memory file) at 0 ≡ get_or file at 0
  unfolding record_bytes
  laid_elsewhere size at other =
      other_place memory (sets file 37 (record_bytes cpu)) 256 at (λ i h e. other (inr (omega arith, omega arith)))
      ∙ other_place (record_bytes cpu) file 37 at (λ i h e. other (inl (omega arith, omega arith)))

  -- and the file as long as it was.
  pub laid_length : length (laid cpu memory file) ≡ length file
  laid_length = length-sets (sets file 37 (record_bytes cpu)) 256 memory ∙ length-sets file 37 (record_bytes cpu)

  laid_record : length file ≡ 66048 → (i : ℕ) → i < 7 → get_or (laid cpu memory file) (37 + i) 0 ≡ get_or (record_bytes cpu) i 0
  unfolding record_bytes
  laid_record whole i h =
      other_place memory (sets file 37 (record_bytes cpu)) 256 (37 + i) (λ j k e. omega arith)
      ∙ stored_place (record_bytes cpu) file 37 i (omega arith) h

  laid_memory : length file ≡ 66048 → length memory ≡ 65536 → (i : ℕ) → i < 65536
      → get_or (laid cpu memory file) (256 + i) 0 ≡ get_or memory i 0
  laid_memory whole size i h = stored_place memory (sets file 37 (record_bytes cpu)) 256 i (rw length-sets (omega arith)) (omega arith)

  -- Accepted, it leaves record and memory in their places.
  pub lays : write_refusal cpu memory file ≡ Ok tt → write_of cpu memory file ≡ filled (Ok tt) (laid cpu memory file)
  lays z = not_refused (write_refusal cpu memory file) (laid cpu memory file) file z

  -- what holds of the file as it was, and with record and memory in it where they are accepted, holds of the file that is left
  of_what_is_left : (P : List ℕ → Type 0) → P file → (write_refusal cpu memory file ≡ Ok tt → P (laid cpu memory file))
      → P (write_of cpu memory file).left
  of_what_is_left P as_it_was laid_there = go (write_refusal cpu memory file) refl
    where
      go : (r : Result Unit Refusal) → write_refusal cpu memory file ≡ r → P (write_of cpu memory file).left
      go (Ok x) z = rw z (laid_there z)
      go (Err refusal) z = rw z as_it_was

  -- Whatever it answers, every other byte of the file stays,
  pub others_stay : (at : ℕ) → (Stored at → ⊥) → get_or (write_of cpu memory file).left at 0 ≡ get_or file at 0
  others_stay at other = of_what_is_left (λ l. get_or l at 0 ≡ get_or file at 0) refl (λ z. laid_elsewhere (written cpu memory file z).size at other)

  -- and the file is as long as it was.
  pub same_length : length (write_of cpu memory file).left ≡ length file
  same_length = of_what_is_left (λ l. length l ≡ length file) refl (λ z. laid_length)

-- What is laid into two files that agree at all other places leaves the same file.
pub laid_alike : (cpu : Processor) (memory first second : List ℕ) → length memory ≡ 65536
    → length first ≡ 66048 → length second ≡ 66048
    → ((at : ℕ) → at < 66048 → (Stored at → ⊥) → get_or first at 0 ≡ get_or second at 0)
    → laid cpu memory first ≡ laid cpu memory second
laid_alike cpu memory first second size f s alike =
    ext_get_or 0 (laid cpu memory first) (laid cpu memory second)
    (laid_length cpu memory first ∙ f ∙ sym s ∙ sym (laid_length cpu memory second))
    (λ at h. go at (omega (arith, laid_length cpu memory first)) (stored_or_not at))
  where
    Same : ℕ → Type 0
    Same at = get_or (laid cpu memory first) at 0 ≡ get_or (laid cpu memory second) at 0

    in_record : (i : ℕ) → i < 7 → Same (37 + i)
    in_record i h = laid_record cpu memory first f i h ∙ sym (laid_record cpu memory second s i h)

    in_memory : (i : ℕ) → i < 65536 → Same (256 + i)
    in_memory i h = laid_memory cpu memory first f size i h ∙ sym (laid_memory cpu memory second s size i h)

    elsewhere : (at : ℕ) → at < 66048 → (Stored at → ⊥) → Same at
    elsewhere at h other =
        laid_elsewhere cpu memory first size at other ∙ alike at h other ∙ sym (laid_elsewhere cpu memory second size at other)

    go : (at : ℕ) → at < 66048 → Dec (Stored at) → Same at
    go at h (yes (inl p)) = let e : 37 + (at - 37) ≡ at = omega arith in rw e at (in_record (at - 37) (omega arith))
    go at h (yes (inr p)) = let e : 256 + (at - 256) ≡ at = omega arith in rw e at (in_memory (at - 256) (omega arith))
    go at h (no n) = elsewhere at h n

-- ---- both ways round

module _ (file : List ℕ) (bytes : Bytes file) where
  same_record : sets file 37 (record_bytes (record_in file)) ≡ file
  unfolding record_bytes record_in
  same_record =
      let low : word_of (get_or file 37 0) (get_or file 38 0) % 256 ≡ get_or file 37 0 = omega (arith, bytes 37) in
      let high : word_of (get_or file 37 0) (get_or file 38 0) / 256 ≡ get_or file 38 0 = omega (arith, bytes 37) in
      rw (low, high, byte_to_flags_and_back (get_or file 42 0) (bytes 42)) (standing_stays 7 37 file)

  -- A file's own record and memory, laid into it, change nothing.
  pub same_file : Accepted file → laid (record_in file) (memory_in file) file ≡ file
  same_file a = rw same_record (stored_again 65536 file 256 (omega (arith, a.size)))

  -- What a file gives can be written into it,
  own_record : Accepted file → Writable (record_in file) (memory_in file) file
  unfolding record_in
  own_record a = record { accepted = a; size = memory_size a; awake = refl }

  -- Reading a file and then writing into it what was read changes nothing; a file that is refused is refused both times, for one reason,
  -- whatever record is there in place of the one that it does not give.
  pub read_then_write : (other : Processor)
      → write_of (result_unwrap_or (read_of file) other) (memory_of file) file ≡ filled (refusal_of file) file
  read_then_write other = go (refusal_of file) refl
    where
      go : (r : Result Unit Refusal) → refusal_of file ≡ r
          → write_of (result_unwrap_or (read_of file) other) (memory_of file) file ≡ filled (refusal_of file) file
      go (Ok x) z =
          ap (λ (r : Result Processor Refusal). write_of (result_unwrap_or r other) (memory_of file) file) (gives_record file z)
          ∙ ap (λ (m : List ℕ). write_of (record_in file) m file) (gives_part file z)
          ∙ lays (record_in file) (memory_in file) file (writes (record_in file) (memory_in file) file (own_record (accepted z)))
          ∙ ap (λ (l : List ℕ). filled (Ok tt) l) (same_file (accepted z))
          ∙ ap (λ (r : Result Unit Refusal). filled r file) (sym z)
      go (Err refusal) z = rw z

-- what reading gives of a file in which this record and this memory stand
pub record GivesBack (cpu : Processor) (memory file : List ℕ) : Type 0 where
  pub read : read_of file ≡ Ok cpu
  pub part : memory_of file ≡ memory

module _ (cpu : Processor) (memory file : List ℕ) where
  module _ (a : Accepted file) (size : length memory ≡ 65536) where
    -- Laid into an accepted file, they leave one that is accepted, too,
    pub still_accepted : Accepted (laid cpu memory file)
    still_accepted = record {
      size = laid_length cpu memory file ∙ a.size;
      begins =
          before_stored 33 memory (sets file 37 (record_bytes cpu)) 256 (omega arith)
          ∙ before_stored 33 (record_bytes cpu) file 37 (omega arith)
          ∙ a.begins;
    }

    at_37 : (i : ℕ) → i < 7 → get_or (laid cpu memory file) (37 + i) 0 ≡ get_or (record_bytes cpu) i 0
    at_37 = laid_record cpu memory file a.size

    -- in which the record, awake,
    pub same_registers : record_in (laid cpu memory file) ≡ woken cpu
    unfolding record_in record_bytes
    same_registers =
        let word : word_of (cpu.pc % 256) (cpu.pc / 256) ≡ cpu.pc = omega arith in
        rw (
          at_37 0 (omega arith),
          at_37 1 (omega arith),
          at_37 2 (omega arith),
          at_37 3 (omega arith),
          at_37 4 (omega arith),
          at_37 5 (omega arith),
          at_37 6 (omega arith),
          word,
          flags_to_byte_and_back cpu.psw,
        )

    -- and the memory stand.
    pub same_memory : memory_in (laid cpu memory file) ≡ memory
    same_memory =
        let room : 256 + length memory ≤ length (sets file 37 (record_bytes cpu)) = rw length-sets (omega (arith, a.size, size)) in
        rw size at (stored_part memory (sets file 37 (record_bytes cpu)) 256 room)

    laid_gives_back : GivesBack (woken cpu) memory (laid cpu memory file)
    laid_gives_back = record {
      read = gives_record (laid cpu memory file) (accepts still_accepted) ∙ ap (λ (c : Processor). Ok c) same_registers;
      part = gives_part (laid cpu memory file) (accepts still_accepted) ∙ same_memory;
    }

  -- Writing and then reading gives back what was written.
  pub write_then_read : (write_of cpu memory file).answer ≡ Ok tt → GivesBack cpu memory (write_of cpu memory file).left
  write_then_read e =
      let z = sym (answers (write_refusal cpu memory file) (laid cpu memory file) file) ∙ e in
      let w = written cpu memory file z in
      subst (λ (o : Filled (Result Unit Refusal)). GivesBack cpu memory o.left) (sym (lays cpu memory file z))
      (subst (λ (c : Processor). GivesBack c memory (laid cpu memory file)) (woken_again cpu w.awake) (laid_gives_back w.accepted w.size))
