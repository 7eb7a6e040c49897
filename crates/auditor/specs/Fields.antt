-- What stands where in an answer.
-- Assumes nothing.
use Rattle.std.specs.Prelude.{ℕ, ◌+◌, ◌*◌, ◌/◌, ◌%◌, ◌<◌, ◌≤◌, ◌≡◌, refl, List, [], ◌∷◌, ◌++◌, length, get_or, take, drop, None, Result, Ok}
use Rattle.std.proofs.Common.{sym, ◌∙◌, append-nil, append_assoc, arith, length-drop, take_at, drop_at, get_or-take, get_or-append-add, length-take-le}
use Rattle.std.proofs.Math.Path.{ap}
use Rattle.std.specs.Int.Bits.{bit_or}
use Rattle.std.proofs.Math.ListN.{length-append, get_or-append}
use Rattle.std.proofs.Math.Seq.{take-append-le}
use Rattle.refusals.specs.declared.Refusal.{Refusal}
use Rattle.waking.specs.States.{number_of}
use Rattle.marks.specs.Counts.{three_counts}
use Rattle.marks.specs.declared.Counted.{Counted}
use Rattle.memory.specs.World.{World, Sized}
use Rattle.memory.specs.Access.{Outcome, outcome}
use Rattle.editions.specs.Editions.{edition_of}
use Rattle.processor.specs.declared.Processor.{Processor}
use Rattle.state.specs.Registers.{bytes_of, whole_of, whole_bytes_of}
use Rattle.runs.specs.Run.{Progress}
use Rattle.engine.specs.Entry.{refusal_of, answer_of, accepted, run_of, run_answer}
use Rattle.engine.specs.Accepted.{accepts}
use Rattle.engine.specs.Theorems.{run_keeps}
use Rattle.engine.specs.declared.Ran.{Ran}
use Rattle.watch.specs.Calls.{watched_run}
use Rattle.watch.specs.Devices.{devices_read}
use Rattle.blanking.specs.Calls.{blanked_image, unmarked}
use Rattle.blanking.specs.Image.{length_blanked}
use Rattle.blanking.specs.Together.{together_size}
use Rattle.auditor.specs.Packet.{bytes_at, number_at, edition_in, budget_in, byte_in, registers_in, memory_in, reads_in, writes_in}
use Rattle.state.specs.Registers.{four_bytes}
use Rattle.auditor.specs.Packet.{devices_in, image_in, kept_in}
use Rattle.auditor.specs.Audit.{run_on, keeps_of, head_of, answered}
use Rattle.auditor.specs.Inside.{world_in, told}
use Rattle.auditor.specs.Accepted.{Accepted}

-- Where the numbers of an answer stand: the stop and the steps; the addresses that are read only, stored only, and both; those that were
-- given the byte.
abbrev pub stop_in : List ℕ → ℕ
stop_in packet = get_or packet 14 0

abbrev pub steps_in : List ℕ → ℕ
steps_in packet = number_at 15 packet

abbrev pub read_only_in : List ℕ → ℕ
read_only_in packet = number_at 19 packet

abbrev pub stored_only_in : List ℕ → ℕ
stored_only_in packet = number_at 23 packet

abbrev pub both_in : List ℕ → ℕ
both_in packet = number_at 27 packet

abbrev pub blanked_in : List ℕ → ℕ
blanked_in packet = number_at 31 packet

-- ---- lists

-- The part of a row between what stands before it and behind it.
part_of : (at n : ℕ) (row before part behind : List ℕ) → row ≡ before ++ part ++ behind → length before ≡ at → length part ≡ n
    → bytes_at at n row ≡ part
part_of at n row before part behind e p q =
    rw (e, append_assoc, drop_at before (part ++ behind) at p) (take_at part behind n q)

-- A number behind what stands before it.
behind : (before row : List ℕ) {at : ℕ} (n : ℕ) → length before ≡ at → get_or (before ++ row) (at + n) 0 ≡ get_or row n 0
behind before row n e = rw (← e) (get_or-append-add before row n 0)

-- Four bytes are the number that they are made of.
four_again : (n : ℕ) → n % 256 + 256 * (n / 256 % 256) + 65536 * (n / 65536 % 256) + 16777216 * (n / 16777216) ≡ n
four_again n = omega arith

-- A part of a packet is as long as it says.
pub part_size : (at n : ℕ) (packet : List ℕ) → length packet ≡ 155712 → at + n ≤ 155712 → length (bytes_at at n packet) ≡ n
part_size at n packet size h = length-take-le n (drop at packet) (rw length-drop (omega arith))

-- ---- the run

-- The run that a packet asks for, as the definition of the instructions makes it.
abbrev pub steps_of : List ℕ → Outcome World (Progress Processor)
steps_of packet = run_of (edition_of (edition_in packet)) (budget_in packet) (whole_of (registers_in packet)) (world_in packet)

-- What the engine answers to it.
abbrev pub ran_on : List ℕ → Outcome World (Result Ran Refusal)
ran_on packet = run_answer (edition_in packet) (budget_in packet) (whole_of (registers_in packet)) (world_in packet)

module _ (packet : List ℕ) (a : Accepted packet) where
  -- An accepted packet holds memory and maps of the right lengths, so the engine does not refuse its run.
  start_sized : Sized (world_in packet)
  start_sized = record {
    memory = part_size 64 65536 packet a.size (omega arith);
    reads = part_size 131136 8192 packet a.size (omega arith);
    writes = part_size 139328 8192 packet a.size (omega arith);
  }

  none_refused : refusal_of (edition_in packet) (world_in packet) ≡ None
  none_refused = accepts (edition_in packet) (world_in packet) a.named start_sized

  pub ran_is : ran_on packet ≡ accepted (steps_of packet)
  ran_is = rw none_refused

  -- Nor is it refused where it is watched.
  pub watched_is :
      watched_run (edition_in packet) (budget_in packet) (whole_of (registers_in packet)) (world_in packet)
      ≡ outcome (Ok (run_on packet).result) (run_on packet).left
  watched_is = rw none_refused

  -- What the run leaves, what it answers, and which devices it reads, are the definition's.
  pub left_is : (run_on packet).left ≡ (steps_of packet).left
  left_is = refl

  pub answer_is : (run_on packet).result.ran ≡ answer_of (steps_of packet).result
  answer_is = refl

  pub devices_are :
      (run_on packet).result.devices
      ≡ devices_read (edition_of (edition_in packet)) (budget_in packet) (whole_of (registers_in packet)) (memory_in packet)
  devices_are = refl

  -- It leaves the lengths as they were.
  pub left_sized : Sized (run_on packet).left
  left_sized =
      (run_keeps (edition_of (edition_in packet)) (budget_in packet) (whole_of (registers_in packet)) (world_in packet) start_sized).sized

-- ---- a packet by its parts

-- a row that is made of parts with these lengths
pub record Parts (head memory image reads writes kept row : List ℕ) : Type 0 where
  pub is : row ≡ head ++ memory ++ image ++ reads ++ writes ++ kept
  pub of_head : length head ≡ 64
  pub of_memory : length memory ≡ 65536
  pub of_image : length image ≡ 65536
  pub of_reads : length reads ≡ 8192
  pub of_writes : length writes ≡ 8192
  pub of_kept : length kept ≡ 8192

-- Each part is found in its place.
module _ {head memory image reads writes kept row : List ℕ} (p : Parts head memory image reads writes kept row) where
  pub memory_part : memory_in row ≡ memory
  memory_part =
      part_of 64 65536 row head memory (image ++ (reads ++ (writes ++ kept))) (p.is ∙ simp append_assoc) p.of_head p.of_memory

  pub image_part : image_in row ≡ image
  image_part =
      part_of 65600 65536 row (head ++ memory) image (reads ++ (writes ++ kept)) (p.is ∙ simp append_assoc)
      (rw length-append (omega (arith, p.of_head, p.of_memory)))
      p.of_image

  pub reads_part : reads_in row ≡ reads
  reads_part =
      part_of 131136 8192 row (head ++ memory ++ image) reads (writes ++ kept) (p.is ∙ simp append_assoc)
      (simp length-append (omega (arith, p.of_head, p.of_memory, p.of_image)))
      p.of_reads

  pub writes_part : writes_in row ≡ writes
  writes_part =
      part_of 139328 8192 row (head ++ memory ++ image ++ reads) writes kept p.is
      (simp length-append (omega (arith, p.of_head, p.of_memory, p.of_image, p.of_reads)))
      p.of_writes

  pub kept_part : kept_in row ≡ kept
  kept_part =
      part_of 147520 8192 row (head ++ memory ++ image ++ reads ++ writes) kept [] (p.is ∙ sym (append-nil _))
      (simp length-append (omega (arith, p.of_head, p.of_memory, p.of_image, p.of_reads, p.of_writes)))
      p.of_kept

  pub row_size : length row ≡ 155712
  row_size =
      rw p.is
      (simp length-append (omega (arith, p.of_head, p.of_memory, p.of_image, p.of_reads, p.of_writes, p.of_kept)))

-- A number of four bytes among bytes that stand behind six others.
number_behind : (row part : List ℕ) (size : ℕ) → ((i : ℕ) → i < size → get_or row (6 + i) 0 ≡ get_or part i 0) → (n : ℕ) → n + 3 < size
    → number_at (6 + n) row ≡ number_at n part
number_behind row part size each n h =
    let one : 6 + n + 1 ≡ 6 + (n + 1) = omega arith in
    let two : 6 + n + 2 ≡ 6 + (n + 2) = omega arith in
    let three : 6 + n + 3 ≡ 6 + (n + 3) = omega arith in
    rw (
      one,
      two,
      three,
      each n (omega arith),
      each (n + 1) (omega arith),
      each (n + 2) (omega arith),
      each (n + 3) (omega arith),
    )

-- ---- the answer

-- What is told of a run takes 31 bytes.
pub told_size : (ran : Ran) (counted : Counted) (blanked devices : ℕ) → length (told ran counted blanked devices) ≡ 31
unfolding told whole_bytes_of bytes_of
told_size ran counted blanked devices = refl

regroup : (a b c d e f g h i m n r w k : List ℕ)
    → a ++ b ++ c ++ d ++ e ++ f ++ g ++ (h ++ i) ++ m ++ n ++ r ++ w ++ k
    ≡ a ++ (b ++ c ++ (d ++ e ++ f ++ g) ++ h) ++ (i ++ m ++ n ++ r ++ w ++ k)
regroup a b c d e f g h i m n r w k = simp append_assoc

module _ (packet : List ℕ) where
  -- what is told of the run, and what stands behind that
  abbrev told_of : List ℕ
  told_of =
      told (run_on packet).result.ran (three_counts (run_on packet).left.reads (run_on packet).left.writes) (unmarked (keeps_of packet))
      (bit_or (devices_in packet) (run_on packet).result.devices)

  abbrev further : List ℕ
  further =
      bytes_at 37 27 packet
      ++ (run_on packet).left.memory
      ++ blanked_image (keeps_of packet) (byte_in packet) (image_in packet)
      ++ (run_on packet).left.reads
      ++ (run_on packet).left.writes
      ++ keeps_of packet

  -- An answer is what was asked, what is told of the run, and what stands behind that.
  pub by_parts : answered packet ≡ take 6 packet ++ told_of ++ further
  unfolding answered head_of told
  by_parts =
      let ran = (run_on packet).result.ran in
      let counted = three_counts (run_on packet).left.reads (run_on packet).left.writes in
      let devices = bit_or (devices_in packet) (run_on packet).result.devices in
      regroup (take 6 packet) (whole_bytes_of ran.cpu) (number_of ran.cpu.state ∷ four_bytes ran.steps) (four_bytes counted.read_only)
      (four_bytes counted.stored_only) (four_bytes counted.both) (four_bytes (unmarked (keeps_of packet)))
      (devices % 256 ∷ devices / 256 ∷ []) (bytes_at 37 27 packet) (run_on packet).left.memory
      (blanked_image (keeps_of packet) (byte_in packet) (image_in packet)) (run_on packet).left.reads (run_on packet).left.writes
      (keeps_of packet)

  behind_asked : answered packet ≡ take 6 packet ++ (told_of ++ further)
  behind_asked = by_parts ∙ append_assoc (take 6 packet) told_of further

  as_told : length told_of ≡ 31
  as_told =
      told_size (run_on packet).result.ran (three_counts (run_on packet).left.reads (run_on packet).left.writes) (unmarked (keeps_of packet))
      (bit_or (devices_in packet) (run_on packet).result.devices)

  module _ (a : Accepted packet) where
    six : length (take 6 packet) ≡ 6
    six = length-take-le 6 packet (omega (arith, a.size))

    head_size : length (head_of packet) ≡ 64
    unfolding head_of whole_bytes_of bytes_of
    head_size = simp length-append (omega (arith, six, part_size 37 27 packet a.size (omega arith)))

    pub kept_size : length (keeps_of packet) ≡ 8192
    kept_size =
        together_size (run_on packet).left.reads (kept_in packet) (left_sized packet a).reads
        (part_size 147520 8192 packet a.size (omega arith))

    image_size : length (blanked_image (keeps_of packet) (byte_in packet) (image_in packet)) ≡ 65536
    image_size =
        length_blanked (keeps_of packet) (byte_in packet) (image_in packet) ∙ part_size 65600 65536 packet a.size (omega arith)

    -- What was asked stays.
    pub asked_stays : (at : ℕ) → at < 6 → get_or (answered packet) at 0 ≡ get_or packet at 0
    asked_stays at h =
        ap (λ (l : List ℕ). get_or l at 0) behind_asked
        ∙ get_or-append (take 6 packet) (told_of ++ further) 0 at (omega (arith, six))
        ∙ get_or-take 6 packet at 0 h

    byte_of : (n : ℕ) → n < 31 → get_or (answered packet) (6 + n) 0 ≡ get_or told_of n 0
    byte_of n h =
        ap (λ (l : List ℕ). get_or l (6 + n) 0) behind_asked
        ∙ behind (take 6 packet) (told_of ++ further) n six
        ∙ get_or-append told_of further 0 n (omega (arith, as_told))

    four_of : (n : ℕ) → n + 3 < 31 → number_at (6 + n) (answered packet) ≡ number_at n told_of
    four_of = number_behind (answered packet) told_of 31 byte_of

    -- The registers, the stop, the steps and the counts are those of the run,
    pub registers_are : registers_in (answered packet) ≡ whole_bytes_of (run_on packet).result.ran.cpu
    unfolding told whole_bytes_of bytes_of
    registers_are =
        ap (bytes_at 6 8) behind_asked
        ∙ ap (take 8) (drop_at (take 6 packet) (told_of ++ further) 6 six)
        ∙ take-append-le 8 told_of further (omega (arith, as_told))

    pub stop_is : stop_in (answered packet) ≡ number_of (run_on packet).result.ran.cpu.state
    unfolding told whole_bytes_of bytes_of
    stop_is = byte_of 8 (omega arith)

    pub steps_are : steps_in (answered packet) ≡ (run_on packet).result.ran.steps
    unfolding told whole_bytes_of bytes_of
    steps_are = four_of 9 (omega arith) ∙ four_again (run_on packet).result.ran.steps

    pub counts_are :
        let counted = three_counts (run_on packet).left.reads (run_on packet).left.writes in
        (read_only_in (answered packet) ≡ counted.read_only)
        × (stored_only_in (answered packet) ≡ counted.stored_only)
        × (both_in (answered packet) ≡ counted.both)
    unfolding told whole_bytes_of bytes_of
    counts_are = (
      four_of 13 (omega arith) ∙ four_again _,
      four_of 17 (omega arith) ∙ four_again _,
      four_of 21 (omega arith) ∙ four_again _,
    )

    pub blanked_are : blanked_in (answered packet) ≡ unmarked (keeps_of packet)
    unfolding told whole_bytes_of bytes_of
    blanked_are = four_of 25 (omega arith) ∙ four_again (unmarked (keeps_of packet))

    -- and the devices those that it or an earlier part has read.
    pub devices_in_answer : devices_in (answered packet) ≡ bit_or (devices_in packet) (run_on packet).result.devices
    unfolding told whole_bytes_of bytes_of
    devices_in_answer = rw (byte_of 29 (omega arith), byte_of 30 (omega arith)) (omega arith)

    in_parts : Parts (head_of packet) (run_on packet).left.memory (blanked_image (keeps_of packet) (byte_in packet) (image_in packet))
        (run_on packet).left.reads (run_on packet).left.writes (keeps_of packet) (answered packet)
    unfolding answered
    in_parts = record {
      is = refl;
      of_head = head_size;
      of_memory = (left_sized packet a).memory;
      of_image = image_size;
      of_reads = (left_sized packet a).reads;
      of_writes = (left_sized packet a).writes;
      of_kept = kept_size;
    }

    -- The memory and both maps are what the run leaves; the image is blanked by what is to stay, and the last map says what that is.
    pub memory_is : memory_in (answered packet) ≡ (run_on packet).left.memory
    memory_is = memory_part in_parts

    pub reads_are : reads_in (answered packet) ≡ (run_on packet).left.reads
    reads_are = reads_part in_parts

    pub writes_are : writes_in (answered packet) ≡ (run_on packet).left.writes
    writes_are = writes_part in_parts

    pub image_is : image_in (answered packet) ≡ blanked_image (keeps_of packet) (byte_in packet) (image_in packet)
    image_is = image_part in_parts

    pub kept_is : kept_in (answered packet) ≡ keeps_of packet
    kept_is = kept_part in_parts

    -- It has as many bytes as the packet.
    pub answer_size : length (answered packet) ≡ 155712
    answer_size = row_size in_parts
