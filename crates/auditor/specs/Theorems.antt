-- What the answers to packets are worth: a run in parts is one run, and the image that is handed back gives the same run.
--
-- The words: `answered packet` is what stands in a packet's bytes once it is answered: the contract of `auditor::session` says so of the
-- code. `registers_in`, `memory_in` and the like say what stands where in a packet, asked or answered (Packet, Fields). `ran_on packet` is
-- what the engine answers to the run that a packet asks for, and leaves. `Same` has a field for each thing that two runs have in common
-- (runs/specs/Same); `clear` is a map without marks.
-- Assumes nothing.
use Rattle.std.specs.Prelude.{ℕ, ◌+◌, ◌≡◌, refl, List, length, Option, Some, None, Result}
use Rattle.std.proofs.Common.{sym, ap, subst, ◌∙◌, arith}
use Rattle.refusals.specs.declared.Refusal.{Refusal}
use Rattle.std.specs.Int.Bits.{bit_or}
use Rattle.laws.specs.Filled.{Filled}
use Rattle.waking.specs.States.{number_of}
use Rattle.memory.specs.World.{World, world}
use Rattle.memory.specs.Access.{Outcome}
use Rattle.memory.specs.Theorems.{Keeps}
use Rattle.editions.specs.Editions.{is_edition, edition_of}
use Rattle.processor.specs.declared.Processor.{Processor}
use Rattle.state.specs.Registers.{is_whole, whole_of, whole_bytes_of}
use Rattle.state.specs.Theorems.{record_to_whole_and_back, bytes_whole}
use Rattle.runs.specs.Same.{Same}
use Rattle.runs.specs.Run.{Progress, joined}
use Rattle.engine.specs.Entry.{run_of, run_answer}
use Rattle.engine.specs.Theorems.{in_parts}
use Rattle.engine.specs.Provenance.{clear}
use Rattle.engine.specs.declared.Ran.{Ran}
use Rattle.watch.specs.Devices.{devices_read}
use Rattle.watch.specs.Theorems.{devices_in_parts}
use Rattle.watch.specs.Bits.{or_assoc}
use Rattle.blanking.specs.Calls.{blank_of}
use Rattle.blanking.specs.Theorems.{not_refused}
use Rattle.blanking.specs.Answers.{answer_to, same_answer}
use Rattle.blanking.specs.Together.{keeps_first}
use Rattle.auditor.specs.Packet.{edition_in, budget_in, byte_in, registers_in, memory_in, reads_in, writes_in, devices_in, image_in, kept_in}
use Rattle.auditor.specs.Audit.{refusal_of, run_on, keeps_of, answered, by_refusal, audit_of}
use Rattle.auditor.specs.Inside.{world_in}
use Rattle.auditor.specs.Accepted.{Accepted, accepted}
use Rattle.auditor.specs.Fields.{stop_in, steps_in, steps_of, ran_on, ran_is, left_is, answer_is, devices_are, registers_are, stop_is, steps_are}
use Rattle.auditor.specs.Fields.{devices_in_answer, memory_is, reads_are, writes_are, image_is, kept_size, answer_size, part_size}

-- ---- lengths

-- Answered or refused, a packet keeps its length.
pub same_length : (packet : List ℕ) → length (audit_of packet).left ≡ length packet
same_length packet = go (refusal_of packet) refl
  where
    go : (r : Option Refusal) → refusal_of packet ≡ r → length (by_refusal r packet).left ≡ length packet
    go None z = let a = accepted packet z in answer_size packet a ∙ sym a.size
    go (Some r) z = refl

-- ---- a run in parts

-- A packet that asks on from the answer to another: in its edition, and with its registers, memory, maps and devices. The budget, the byte,
-- the image and the kept map are free.
pub record AsksOn (packet next : List ℕ) : Type 0 where
  pub size : length next ≡ 155712
  pub edition : edition_in next ≡ edition_in packet
  pub registers : registers_in next ≡ registers_in (answered packet)
  pub memory : memory_in next ≡ memory_in (answered packet)
  pub reads : reads_in next ≡ reads_in (answered packet)
  pub writes : writes_in next ≡ writes_in (answered packet)
  pub devices : devices_in next ≡ devices_in (answered packet)

-- A packet that asks at once for what one and the next ask in turn: as the first, with the budgets of both.
pub record AsksBoth (packet next both : List ℕ) : Type 0 where
  pub size : length both ≡ 155712
  pub edition : edition_in both ≡ edition_in packet
  pub budget : budget_in both ≡ budget_in packet + budget_in next
  pub registers : registers_in both ≡ registers_in packet
  pub memory : memory_in both ≡ memory_in packet
  pub reads : reads_in both ≡ reads_in packet
  pub writes : writes_in both ≡ writes_in packet
  pub devices : devices_in both ≡ devices_in packet

-- The second answer is that to both at once, in all that is told of the run; only the steps are those of the two parts together.
pub record InParts (packet next both : List ℕ) : Type 0 where
  pub registers : registers_in (answered next) ≡ registers_in (answered both)
  pub memory : memory_in (answered next) ≡ memory_in (answered both)
  pub reads : reads_in (answered next) ≡ reads_in (answered both)
  pub writes : writes_in (answered next) ≡ writes_in (answered both)
  pub devices : devices_in (answered next) ≡ devices_in (answered both)
  pub stop : stop_in (answered next) ≡ stop_in (answered both)
  pub steps : steps_in (answered packet) + steps_in (answered next) ≡ steps_in (answered both)

-- the devices that the steps of a packet's run read
abbrev devices_on : List ℕ → ℕ
devices_on packet = devices_read (edition_of (edition_in packet)) (budget_in packet) (whole_of (registers_in packet)) (memory_in packet)

-- What an answer tells of the run, as the definition of the instructions makes it.
module _ (packet : List ℕ) (a : Accepted packet) where
  registers_of : registers_in (answered packet) ≡ whole_bytes_of (steps_of packet).result.regs
  registers_of = registers_are packet a ∙ ap (λ (r : Ran). whole_bytes_of r.cpu) (answer_is packet a)

  stop_of : stop_in (answered packet) ≡ number_of (steps_of packet).result.regs.state
  stop_of = stop_is packet a ∙ ap (λ (r : Ran). number_of r.cpu.state) (answer_is packet a)

  steps_told : steps_in (answered packet) ≡ (steps_of packet).result.steps
  steps_told = steps_are packet a ∙ ap (λ (r : Ran). r.steps) (answer_is packet a)

  memory_of : memory_in (answered packet) ≡ (steps_of packet).left.memory
  memory_of = memory_is packet a ∙ ap (λ (w : World). w.memory) (left_is packet a)

  reads_of : reads_in (answered packet) ≡ (steps_of packet).left.reads
  reads_of = reads_are packet a ∙ ap (λ (w : World). w.reads) (left_is packet a)

  writes_of : writes_in (answered packet) ≡ (steps_of packet).left.writes
  writes_of = writes_are packet a ∙ ap (λ (w : World). w.writes) (left_is packet a)

  devices_of : devices_in (answered packet) ≡ bit_or (devices_in packet) (devices_on packet)
  devices_of = devices_in_answer packet a ∙ ap (bit_or (devices_in packet)) (devices_are packet a)

-- A world is known by its memory and its maps.
world_is : {memory reads writes : List ℕ} (w : World) → memory ≡ w.memory → reads ≡ w.reads → writes ≡ w.writes
    → world memory reads writes ≡ w
world_is w m r s = rw (m, r, s)

-- The same run from parts that are known by equations.
asked : {number other budget most : ℕ} {cpu regs : Processor} {w v : World} → number ≡ other → budget ≡ most → cpu ≡ regs → w ≡ v
    → run_of (edition_of number) budget cpu w ≡ run_of (edition_of other) most regs v
asked n b c w = rw (n, b, c, w)

same_asked : {number other budget most : ℕ} {cpu regs : Processor} {w v : World} → number ≡ other → budget ≡ most → cpu ≡ regs → w ≡ v
    → run_answer number budget cpu w ≡ run_answer other most regs v
same_asked n b c w = rw (n, b, c, w)

watched : {number other budget most : ℕ} {cpu regs : Processor} {memory image : List ℕ} → number ≡ other → budget ≡ most → cpu ≡ regs
    → memory ≡ image → devices_read (edition_of number) budget cpu memory ≡ devices_read (edition_of other) most regs image
watched n b c m = rw (n, b, c, m)

-- registers, steps, and what is left
abbrev Made : Type 0
Made = Outcome World (Progress Processor)

module _ (packet next : List ℕ) (a : Accepted packet) (on : AsksOn packet next) where
  -- A packet that asks on is accepted, too.
  pub next_accepted : Accepted next
  next_accepted = record {
    size = on.size;
    whole = ap is_whole (on.registers ∙ registers_of packet a) ∙ bytes_whole (steps_of packet).result.regs;
    named = ap is_edition on.edition ∙ a.named;
  }

  -- Its run goes on from the registers and the world that the first has left;
  next_regs : whole_of (registers_in next) ≡ (steps_of packet).result.regs
  next_regs = ap whole_of (on.registers ∙ registers_of packet a) ∙ record_to_whole_and_back (steps_of packet).result.regs

  next_world : world_in next ≡ (steps_of packet).left
  next_world =
      world_is (steps_of packet).left (on.memory ∙ memory_of packet a) (on.reads ∙ reads_of packet a) (on.writes ∙ writes_of packet a)

  next_steps : steps_of next ≡ run_of (edition_of (edition_in packet)) (budget_in next) (steps_of packet).result.regs (steps_of packet).left
  next_steps = asked on.edition refl next_regs next_world

  module _ (both : List ℕ) (all : AsksBoth packet next both) where
    pub both_accepted : Accepted both
    both_accepted =
        record { size = all.size; whole = ap is_whole all.registers ∙ a.whole; named = ap is_edition all.edition ∙ a.named }

    -- so both at once is the one and then the other.
    both_steps : steps_of both ≡ joined (steps_of packet) (steps_of next)
    both_steps =
        asked all.edition all.budget (ap whole_of all.registers)
        (world_is (world_in packet) all.memory all.reads all.writes)
        ∙ in_parts (edition_of (edition_in packet)) (budget_in packet) (budget_in next) (whole_of (registers_in packet)) (world_in packet)
        ∙ ap (joined (steps_of packet)) (sym next_steps)

    both_devices : devices_on both ≡ bit_or (devices_on packet) (devices_on next)
    both_devices =
        watched all.edition all.budget (ap whole_of all.registers) all.memory
        ∙ devices_in_parts (edition_of (edition_in packet)) (budget_in packet) (budget_in next) (whole_of (registers_in packet)) (world_in packet)
        ∙ ap (bit_or (devices_on packet)) (sym (watched on.edition refl next_regs (on.memory ∙ memory_of packet a)))

    -- A run in parts is one run.
    pub run_in_parts : InParts packet next both
    run_in_parts =
        let n = next_accepted in
        let b = both_accepted in
        record {
          registers = registers_of next n ∙ sym (registers_of both b ∙ ap (λ (o : Made). whole_bytes_of o.result.regs) both_steps);
          memory = memory_of next n ∙ sym (memory_of both b ∙ ap (λ (o : Made). o.left.memory) both_steps);
          reads = reads_of next n ∙ sym (reads_of both b ∙ ap (λ (o : Made). o.left.reads) both_steps);
          writes = writes_of next n ∙ sym (writes_of both b ∙ ap (λ (o : Made). o.left.writes) both_steps);
          devices =
              devices_of next n
              ∙ ap (λ (d : ℕ). bit_or d (devices_on next)) (on.devices ∙ devices_of packet a)
              ∙ or_assoc (devices_in packet) (devices_on packet) (devices_on next)
              ∙ ap (bit_or (devices_in packet)) (sym both_devices)
              ∙ sym (devices_of both b ∙ ap (λ (d : ℕ). bit_or d (devices_on both)) all.devices);
          stop = stop_of next n ∙ sym (stop_of both b ∙ ap (λ (o : Made). number_of o.result.regs.state) both_steps);
          steps =
              ap (λ (k : ℕ). k + steps_in (answered next)) (steps_told packet a)
              ∙ ap (λ (k : ℕ). (steps_of packet).result.steps + k) (steps_told next n)
              ∙ sym (steps_told both b ∙ ap (λ (o : Made). o.result.steps) both_steps);
        }

    -- Who asks on from the second answer asks on from the one answer, too: so a run in any number of parts is one run.
    pub asks_on_from_both : (third : List ℕ) → AsksOn next third → AsksOn both third
    asks_on_from_both third then =
        let same = run_in_parts in
        record {
          size = then.size;
          edition = then.edition ∙ on.edition ∙ sym all.edition;
          registers = then.registers ∙ same.registers;
          memory = then.memory ∙ same.memory;
          reads = then.reads ∙ same.reads;
          writes = then.writes ∙ same.writes;
          devices = then.devices ∙ same.devices;
        }

-- ---- the blanked image

-- A packet whose run begins: nothing is marked yet.
pub record Begins (packet : List ℕ) : Type 0 where
  pub reads : reads_in packet ≡ clear
  pub writes : writes_in packet ≡ clear

-- A packet that asks for the run of another one again, on an image and from clear maps.
pub record AsksAgain (packet image second : List ℕ) : Type 0 where
  pub edition : edition_in second ≡ edition_in packet
  pub budget : budget_in second ≡ budget_in packet
  pub registers : registers_in second ≡ registers_in packet
  pub memory : memory_in second ≡ image
  pub begins : Begins second

-- Of a whole run that begins, and of the packet that tells its read map and blanks the image on which it began: the whole run's own, or
-- that of the last part.
module _ (whole last second : List ℕ) (w : Accepted whole) (l : Accepted last) (begins : Begins whole)
    (image : image_in last ≡ memory_in whole) (reads : reads_in (answered last) ≡ reads_in (answered whole))
    (again : AsksAgain whole (image_in (answered last)) second) where
  first_run : ran_on whole ≡ answer_to (edition_in whole) (budget_in whole) (whole_of (registers_in whole)) (image_in last)
  first_run = same_asked refl refl refl (world_is (world (image_in last) clear clear) (sym image) begins.reads begins.writes)

  second_run : ran_on second ≡ answer_to (edition_in whole) (budget_in whole) (whole_of (registers_in whole)) (image_in (answered last))
  second_run =
      same_asked again.edition again.budget (ap whole_of again.registers)
      (world_is (world (image_in (answered last)) clear clear) again.memory again.begins.reads again.begins.writes)

  -- What stays has at least the marks of the run's read map;
  marks_stay : Keeps (answer_to (edition_in whole) (budget_in whole) (whole_of (registers_in whole)) (image_in last)).left.reads (keeps_of last)
  marks_stay =
      subst (λ (m : List ℕ). Keeps m (keeps_of last))
      (sym (reads_are last l)
      ∙ reads
      ∙ reads_are whole w
      ∙ ap (λ (o : Outcome World (Result Ran Refusal)). o.left.reads) (sym (ran_is whole w) ∙ first_run))
      (keeps_first (run_on last).left.reads (kept_in last))

  blanked : (blank_of (keeps_of last) (byte_in last) (image_in last)).left ≡ image_in (answered last)
  blanked =
      ap (λ (f : Filled (Result ℕ Refusal)). f.left)
      (not_refused (keeps_of last) (byte_in last) (image_in last) (kept_size last l) (part_size 65600 65536 last l.size (omega arith)))
      ∙ sym (image_is last l)

  -- so the image that is handed back gives the same run.
  handed_back : Same (image_in last) (image_in (answered last)) (ran_on whole) (ran_on second)
  handed_back =
      let cpu = whole_of (registers_in whole) in
      let run = answer_to (edition_in whole) (budget_in whole) cpu in
      let same = same_answer (edition_in whole) (budget_in whole) cpu (image_in last) (keeps_of last) (byte_in last) marks_stay in
      subst (λ (o : Outcome World (Result Ran Refusal)). Same (image_in last) (image_in (answered last)) o (ran_on second)) (sym first_run)
      (subst (λ (q : Outcome World (Result Ran Refusal)). Same (image_in last) (image_in (answered last)) (run (image_in last)) q) (sym second_run)
      (subst (λ (second : List ℕ). Same (image_in last) second (run (image_in last)) (run second)) blanked same))

module _ (packet : List ℕ) (a : Accepted packet) (begins : Begins packet) where
  -- The image of an answer gives the same run: the same registers, step count, stop and maps, and equal bytes wherever a step stored; at
  -- every other address each run leaves its own image's byte. That holds whatever the kept map is.
  pub same_run : image_in packet ≡ memory_in packet → (second : List ℕ) → AsksAgain packet (image_in (answered packet)) second
      → Same (image_in packet) (image_in (answered packet)) (ran_on packet) (ran_on second)
  same_run image second again = handed_back packet packet second a a begins image refl again

  -- So does that of the last part of a run, if it has blanked the image with which the first part began: in place of the run in parts
  -- stands the one run that both are.
  pub same_run_in_parts : (next both second : List ℕ) → AsksOn packet next → AsksBoth packet next both → image_in next ≡ memory_in packet
      → AsksAgain both (image_in (answered next)) second
      → Same (image_in next) (image_in (answered next)) (ran_on both) (ran_on second)
  same_run_in_parts next both second on all image again =
      handed_back both next second (both_accepted packet next a on both all) (next_accepted packet next a on)
      (record { reads = all.reads ∙ begins.reads; writes = all.writes ∙ begins.writes })
      (image ∙ sym all.memory)
      (run_in_parts packet next a on both all).reads
      again
