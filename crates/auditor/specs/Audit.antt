-- What a packet is answered with.
use Rattle.std.specs.Prelude.{ℕ, ◌/◌, ◌%◌, cond, ◌&&◌, List, ◌∷◌, ◌++◌, eqb, length, take, Option, Some, None, Result, Ok, Err}
use Rattle.refusals.specs.declared.Refusal.{Refusal}
use Rattle.refusals.specs.declared.Refusal.TheVariants as reason
use Rattle.waking.specs.States.{number_of}
use Rattle.std.specs.Int.Bits.{bit_or}
use Rattle.laws.specs.Filled.{Filled, filled}
use Rattle.marks.specs.Counts.{three_counts}
use Rattle.memory.specs.World.{World, world}
use Rattle.memory.specs.Access.{Outcome}
use Rattle.editions.specs.Editions.{is_edition, edition_of}
use Rattle.state.specs.Registers.{is_whole, whole_of, whole_bytes_of}
use Rattle.watch.specs.Calls.{watching}
use Rattle.watch.specs.declared.Watched.{Watched}
use Rattle.blanking.specs.Calls.{blanked_image, unmarked}
use Rattle.blanking.specs.Together.{together}
use Rattle.auditor.specs.Packet.{bytes_at, edition_in, budget_in, byte_in, registers_in, memory_in, reads_in, writes_in}
use Rattle.state.specs.Registers.{four_bytes}
use Rattle.auditor.specs.Packet.{devices_in, image_in, kept_in}

-- Form exactly if the packet is not 155,712 bytes, or its registers have a last byte that is no state's number; then Edition exactly if its
-- edition is neither 1 nor 2; else there is no refusal.
unfoldable pub refusal_of : List ℕ → Option Refusal
refusal_of packet =
    cond (eqb (length packet) 155712 && is_whole (registers_in packet))
    (cond (is_edition (edition_in packet)) None (Some reason.Edition))
    (Some reason.Form)

-- The run that it asks for.
abbrev pub run_on : List ℕ → Outcome World Watched
run_on packet =
    watching (edition_of (edition_in packet)) (budget_in packet) (whole_of (registers_in packet))
    (world (memory_in packet) (reads_in packet) (writes_in packet))

-- What is to stay in the image: what the run has read, in this part and in those before it, and what the kept map marks.
abbrev pub keeps_of : List ℕ → List ℕ
keeps_of packet = together (run_on packet).left.reads (kept_in packet)

-- The first 64 bytes of the answer. What was asked, edition, budget and byte, stays; then the registers; the stop, and the steps that were
-- taken; how many addresses are read only, stored only, and both; how many were given the byte; the device addresses that some step has
-- read, in this part or before it. The rest has no meaning yet, and stays.
unfoldable pub head_of : List ℕ → List ℕ
head_of packet =
    let o = run_on packet in
    let ran = o.result.ran in
    let counted = three_counts o.left.reads o.left.writes in
    let devices = bit_or (devices_in packet) o.result.devices in
    take 6 packet
    ++ whole_bytes_of ran.cpu
    ++ number_of ran.cpu.state ∷ four_bytes ran.steps
    ++ four_bytes counted.read_only
    ++ four_bytes counted.stored_only
    ++ four_bytes counted.both
    ++ four_bytes (unmarked (keeps_of packet))
    ++ devices % 256 ∷ devices / 256 ∷ bytes_at 37 27 packet

-- The answer: the head; the memory that the run leaves; the image with the byte at every address that is not to stay; both maps that the
-- run leaves; the map of what stays.
unfoldable pub answered : List ℕ → List ℕ
answered packet =
    let o = run_on packet in
    head_of packet
    ++ o.left.memory
    ++ blanked_image (keeps_of packet) (byte_in packet) (image_in packet)
    ++ o.left.reads
    ++ o.left.writes
    ++ keeps_of packet

-- The answer by the refusal: a refused packet stays as it was.
abbrev pub by_refusal : Option Refusal → List ℕ → Filled (Result Unit Refusal)
by_refusal None packet = filled (Ok tt) (answered packet)
by_refusal (Some r) packet = filled (Err r) packet

abbrev pub audit_of : List ℕ → Filled (Result Unit Refusal)
audit_of packet = by_refusal (refusal_of packet) packet
