-- What a packet is answered with.
use Rattle.std.specs.Prelude.{ℕ, Bool, cond, ◌&&◌, List, eqb, leb, length, set, Result, Ok, Err}
use Rattle.std.specs.Result.{result_and}
use Rattle.refusals.specs.declared.Refusal.{Refusal}
use Rattle.refusals.specs.declared.Refusal.TheVariants as reason
use Rattle.psw.specs.Status.{one_if}
use Rattle.memory.specs.World.{World, world}
use Rattle.editions.specs.Editions.{is_edition, edition_of}
use Rattle.state.specs.Registers.{is_whole, whole_of}
use Rattle.watch.specs.Marks.{with_marks}
use Rattle.blanking.specs.Together.{together}
use Rattle.samples.specs.Fetched.{voices}
use Rattle.processor.specs.declared.Processor.{Processor}
use Rattle.devices.specs.Devices.{started}
use Rattle.devices.specs.declared.Devices.{Devices}
use Rattle.host.specs.Turn.{Playing}
use Rattle.host.specs.Play.{play_of}
use Rattle.host.specs.Beside.{beside_of}
use Rattle.host.specs.declared.Player.{Player}
use Rattle.player.specs.Head.{edition_in, budget_in, until_in, begins_in, registers_in, devices_in, devices_of, head_of}

-- A packet: a head of 64 bytes; the sound chip's row of 512; memory and both maps; the map of what the sound chip may fetch; the map of what
-- the playing is made of.
pub record Packet : Type 0 where
  pub head : List ℕ
  pub chip : List ℕ
  pub world : World
  pub fetched : List ℕ
  pub made : List ℕ

-- ---- refusals

-- Form exactly if the head is not 64 bytes or the row not 512, or if the registers have a last byte that is no state's number, or if the
-- playing is to end behind cycle 4,294,967,280; then Edition exactly if the edition is neither 1 nor 2; then Memory exactly if memory is not
-- 65,536 bytes; then Map exactly if a map is not 8,192 bytes; else it is accepted.
unfoldable pub refusal_of : Packet → Result Unit Refusal
refusal_of p =
    cond (eqb (length p.head) 64 && eqb (length p.chip) 512
    && is_whole (registers_in p.head) && leb (until_in p.head) 4294967280)
    (cond (is_edition (edition_in p.head))
    (cond (eqb (length p.world.memory) 65536)
    (cond (eqb (length p.world.reads) 8192 && eqb (length p.world.writes) 8192
    && eqb (length p.fetched) 8192 && eqb (length p.made) 8192)
    (Ok tt) (Err reason.Map))
    (Err reason.Memory))
    (Err reason.Edition))
    (Err reason.Form)

-- ---- a playing

-- the player with which a part begins, and the map of what the sound chip may fetch
pub record Start : Type 0 where
  pub player : Player
  pub fetched : List ℕ

abbrev pub start : Processor → Devices → List ℕ → Start
start cpu devices fetched = record { player = record { cpu = cpu; devices = devices }; fetched = fetched }

-- Where a playing begins the devices are as the image leaves them, and all eight voices may be sounding already: their samples count. Else
-- it goes on from where an earlier part has left it.
unfoldable pub start_of : List ℕ → List ℕ → List ℕ → List ℕ → List ℕ → Start
start_of head chip memory writes fetched =
    let cpu = whole_of (registers_in head) in
    cond (begins_in head)
    (start cpu (started memory) (voices 8 0 255 chip memory writes fetched))
    (start cpu (devices_of (devices_in head)) fetched)

abbrev pub begun_of : Packet → Playing
begun_of p =
    let s = start_of p.head p.chip p.world.memory p.world.writes p.fetched in
    record { player = s.player; world = p.world; chip = p.chip; fetched = s.fetched }

-- What a playing is made of: what the processor read of the image, what the sound chip may fetch of it, and the devices' own sixteen
-- addresses, 00F0 to 00FF, from which a player takes their first state.
abbrev pub made_of : List ℕ → List ℕ → List ℕ
made_of reads fetched = with_marks (together reads fetched) 65535

-- The answer to a packet whose playing has come so far. Marks of the devices tell of the last step alone and are taken out of both maps.
unfoldable pub finished : List ℕ → Playing → Packet
finished head p =
    let reads = with_marks p.world.reads 0 in
    record {
      head = head;
      chip = p.chip;
      world = world p.world.memory reads (with_marks p.world.writes 0);
      fetched = p.fetched;
      made = made_of reads p.fetched;
    }

-- ---- answers

-- whether it was accepted, and what is left of a packet
pub record Answer : Type 0 where
  pub result : Result Unit Refusal
  pub left : Packet

abbrev pub answer : Result Unit Refusal → Packet → Answer
answer result left = record { result = result; left = left }

-- Refused, it stays as it was.
abbrev pub answered : Result Unit Refusal → Packet → Packet → Answer
answered (Ok u) p left = answer (Ok u) left
answered (Err r) p left = answer (Err r) p

-- A packet is played on with its own budget, in its own edition, up to its own cycle.
unfoldable pub played_of : Packet → Answer
played_of p =
    let o = play_of (edition_of (edition_in p.head)) (until_in p.head) (budget_in p.head) (begun_of p) in
    answered (refusal_of p) p (finished (head_of p.head o.playing.player o.steps) o.playing)

-- whether both were accepted, and what is left of two packets
pub record Answers : Type 0 where
  pub result : Result Unit Refusal
  pub first : Packet
  pub second : Packet

abbrev pub answers : Result Unit Refusal → Packet → Packet → Answers
answers result first second = record { result = result; first = first; second = second }

abbrev pub answered_both : Result Unit Refusal → Packet → Packet → Packet → Packet → Answers
answered_both (Ok u) p q first second = answers (Ok u) first second
answered_both (Err r) p q first second = answers (Err r) p q

-- Byte 50 of a head tells whether two packets were alike.
abbrev pub told : Bool → List ℕ → List ℕ
told alike head = set head 50 (one_if alike)

-- Two packets are played on side by side, as the first one asks, and both heads tell whether they were alike to the last step. The first
-- one's refusal comes before the second's.
unfoldable pub played_beside : Packet → Packet → Answers
played_beside p q =
    let o = beside_of (edition_of (edition_in p.head)) (until_in p.head) (budget_in p.head) (begun_of p) (begun_of q) in
    answered_both (result_and (refusal_of p) (refusal_of q)) p q
    (finished (told o.alike (head_of p.head o.first.player o.steps)) o.first)
    (finished (told o.alike (head_of q.head o.second.player o.steps)) o.second)
