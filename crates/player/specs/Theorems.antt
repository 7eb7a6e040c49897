-- What the maps of an answer mark, and the map of what a playing is made of; and that a playing goes on from what an answer holds.
-- Assumes nothing.
use Rattle.std.specs.Prelude.{ℕ, ◌+◌, ◌*◌, ◌/◌, ◌%◌, ◌^◌, ◌<◌, ◌≤◌, ◌≡◌, refl, Bool, true, not, cond, ◌||◌, List, ◌↔◌, length, get_or, set, take, drop, Ok}
use Rattle.std.proofs.Math.Path.{sym, ap}
use Rattle.std.proofs.Common.{subst, ◌∙◌, arith, length-set, set-set, drop_at, take-add, get_or-set_same, length-take-le, eq-eqb, ne_eqb}
use Rattle.std.proofs.Math.Bool.{false}
use Rattle.std.proofs.Math.Decide.{ℕ_discrete}
use Rattle.std.proofs.Math.Dec.{eqb}
use Rattle.std.proofs.lemmas.List.{set_comm}
use Rattle.std.proofs.lemmas.List.Edits.{sets}
use Rattle.std.proofs.Math.Seq.{length-sets}
use Rattle.laws.specs.Stored.{before_stored, other_place, stored_part}
use Rattle.laws.specs.Table.{same_table}
use Rattle.marks.specs.Maps.{is_marked}
use Rattle.psw.specs.Status.{one_if}
use Rattle.processor.specs.Record.{word_of}
use Rattle.processor.specs.declared.Processor.{Processor}
use Rattle.state.specs.Registers.{bytes_of, whole_bytes_of, whole_of, four_bytes}
use Rattle.state.specs.Theorems.{record_to_whole_and_back}
use Rattle.editions.specs.Editions.{edition_of}
use Rattle.runs.specs.Trace.{Event}
use Rattle.runs.specs.Marks.{ReadFirst, StoredAt}
use Rattle.runs.proofs.Exact.{Fresh}
use Rattle.watch.specs.Marks.{with_marks}
use Rattle.watch.proofs.Maps.{get_low, get_high, get_other}
use Rattle.blanking.specs.Together.{together, together_size, marks_of_either}
use Rattle.devices.specs.declared.Devices.{Devices}
use Rattle.devices.specs.declared.timer.Timer.{Timer}
use Rattle.devices.specs.Devices.{timer_at, port_at, with_parts, started}
use Rattle.devices.specs.Lengths.{Full, started_full}
use Rattle.samples.specs.Fetched.{voices}
use Rattle.samples.specs.Lengths.{length_voices}
use Rattle.host.specs.Turn.{Playing}
use Rattle.host.specs.Play.{Progress}
use Rattle.host.specs.Full.{parts_of_full, play_full}
use Rattle.host.specs.Lengths.{Whole}
use Rattle.host.specs.Theorems.{Outside}
use Rattle.host.specs.Exact as exact
use Rattle.host.specs.Exact.{accesses, unmarked_same}
use Rattle.host.specs.declared.Player.{Player}
use Rattle.player.specs.Head.{edition_in, budget_in, until_in, begins_in, registers_in, devices_in, devices_of, devices_bytes, head_of}
use Rattle.player.specs.Packet.{Packet, refusal_of, Start, start, start_of, begun_of, made_of, finished, played_of}
use Rattle.player.specs.Accepted.{Accepted, accepts, accepted}
use Rattle.player.specs.Promises.{played_to}

-- ---- devices

flag_again : (flag : Bool) → not (eqb (one_if flag) 0) ≡ flag
flag_again true = refl
flag_again false = refl

-- Devices that go into 27 bytes come back as they were, whatever their three timers, their four ports and the rest of them are.
pub devices_and_back : (t0 t1 t2 : Timer) (p0 p1 p2 p3 : ℕ) (rest : Devices)
    → let d = with_parts t0 t1 t2 p0 p1 p2 p3 rest in devices_of (devices_bytes d) ≡ d
unfolding devices_of devices_bytes
devices_and_back t0 t1 t2 p0 p1 p2 p3 d =
    let four : d.cycles % 256 + 256 * (d.cycles / 256 % 256) + 65536 * (d.cycles / 65536 % 256) + 16777216 * (d.cycles / 16777216)
    ≡ d.cycles = omega arith in
    let two : (n : ℕ) → word_of (n % 256) (n / 256) ≡ n = λ n. omega arith in
    rw (
      four,
      two d.read,
      two d.stored,
      two d.last,
      flag_again d.rom,
      flag_again t0.on,
      flag_again t1.on,
      flag_again t2.on,
    )

-- The same of devices whose lists are said to have these lengths.
pub devices_and_back_full : (d : Devices) → Full d → devices_of (devices_bytes d) ≡ d
devices_and_back_full d full =
    subst (λ (e : Devices). devices_of (devices_bytes e) ≡ e) (parts_of_full d full)
    (devices_and_back (timer_at d 0) (timer_at d 1) (timer_at d 2) (port_at d 0) (port_at d 1) (port_at d 2) (port_at d 3) d)

-- Bytes hold three timers and four ports, and so do those of an image; so there are as many to the end of a playing.
begun_full : (p : Packet) → Full (begun_of p).player.devices
unfolding start_of devices_of
begun_full p = go (begins_in p.head)
  where
    go : (b : Bool)
        → Full
        (cond b
        (start (whole_of (registers_in p.head)) (started p.world.memory) (voices 8 0 255 p.chip p.world.memory p.world.writes p.fetched))
        (start (whole_of (registers_in p.head)) (devices_of (devices_in p.head)) p.fetched)).player.devices
    go true = started_full p.world.memory
    go false = record { timers = refl; ports = refl }

pub played_full : (p : Packet) → Full (played_to p).playing.player.devices
played_full p = play_full _ _ _ (begun_of p) (begun_full p)

-- ---- what a playing is made of

-- the devices' own sixteen addresses, 00F0 to 00FF, eight to a byte
abbrev pub is_device : ℕ → Bool
is_device k = eqb (k / 8) 30 || eqb (k / 8) 31

-- Every bit of 255 is set.
all_bits : (j : ℕ) → j < 8 → eqb (255 / 2 ^ j % 2) 1 ≡ true
all_bits = same_table 8 (λ j. eqb (255 / 2 ^ j % 2) 1) (λ j. true) refl

module _ (reads fetched : List ℕ) (r : length reads ≡ 8192) (f : length fetched ≡ 8192) (k : ℕ) where
  byte_of : {byte : ℕ} → get_or (made_of reads fetched) (k / 8) 0 ≡ byte → is_marked (made_of reads fetched) k ≡ eqb (byte / 2 ^ (k % 8) % 2) 1
  byte_of e = ap (λ (byte : ℕ). eqb (byte / 2 ^ (k % 8) % 2) 1) e

  -- An address is marked there exactly if it is a device address, or marked as read, or marked as one that may be fetched.
  pub made_marks : is_marked (made_of reads fetched) k ≡ (is_device k || (is_marked reads k || is_marked fetched k))
  made_marks = go (ℕ_discrete (k / 8) 30) (ℕ_discrete (k / 8) 31)
    where
      size : length (together reads fetched) ≡ 8192
      size = together_size reads fetched r f

      go : Dec (k / 8 ≡ 30) → Dec (k / 8 ≡ 31)
          → is_marked (made_of reads fetched) k ≡ (is_device k || (is_marked reads k || is_marked fetched k))
      go (yes e) n = byte_of (rw e (get_low (together reads fetched) 65535 size)) ∙ all_bits (k % 8) (omega arith) ∙ rw (eq-eqb _ _ e)
      go (no m) (yes e) =
          byte_of (rw e (get_high (together reads fetched) 65535 size))
          ∙ all_bits (k % 8) (omega arith)
          ∙ rw (ne_eqb _ _ m, eq-eqb _ _ e)
      go (no m) (no n) =
          byte_of (get_other (together reads fetched) 65535 (k / 8) m n)
          ∙ marks_of_either reads fetched k
          ∙ rw (ne_eqb _ _ m, ne_eqb _ _ n)

-- ---- what the maps of an answer mark

-- of two beginnings, whichever
either_size : (b : Bool) (one other : Start) → length one.fetched ≡ 8192 → length other.fetched ≡ 8192
    → length (cond b one other).fetched ≡ 8192
either_size true one other e f = e
either_size false one other e f = f

module _ (p : Packet) (a : Accepted p) where
  start_size : length (begun_of p).fetched ≡ 8192
  unfolding start_of
  start_size =
      either_size (begins_in p.head) _ _
      (length_voices p.world.memory p.world.writes p.chip 8 0 255 p.fetched ∙ a.fetched)
      a.fetched

  begun_whole : Whole (begun_of p)
  begun_whole = record { world = a.sized; chip = a.chip; fetched = start_size }

  -- The accesses of all steps that an accepted packet is played on by.
  abbrev pub accesses_of : List Event
  accesses_of = accesses (edition_of (edition_in p.head)) (until_in p.head) (budget_in p.head) (begun_of p)

  -- Where its maps have no marks, and outside the device addresses: the read map that is answered marks an address exactly when some step
  -- reads it before any step has stored there, and the written map exactly when some step stores there.
  module _ (clear : Fresh p.world) (k : ℕ) (h : k < 65536) (other : Outside 0xF0 0xFF k) where
    pub read_map_exact : (is_marked (played_of p).left.world.reads k ≡ true) ↔ ReadFirst k accesses_of
    unfolding played_of finished
    read_map_exact =
        rw (accepts p a, unmarked_same other (played_to p).playing.world.reads)
        (exact.read_map_exact _ _ k h other _ (begun_of p) begun_whole clear)

    pub written_map_exact : (is_marked (played_of p).left.world.writes k ≡ true) ↔ StoredAt k accesses_of
    unfolding played_of finished
    written_map_exact =
        rw (accepts p a, unmarked_same other (played_to p).playing.world.writes)
        (exact.written_map_exact _ _ k h other _ (begun_of p) begun_whole clear)

-- ---- a playing in parts

-- A playing goes on as another one was left: all is the same, but that no device address is marked in either map. A turn takes those marks
-- out before its step.
pub record GoesOn (left next : Playing) : Type 0 where
  pub player : next.player ≡ left.player
  pub memory : next.world.memory ≡ left.world.memory
  pub reads : next.world.reads ≡ with_marks left.world.reads 0
  pub writes : next.world.writes ≡ with_marks left.world.writes 0
  pub chip : next.chip ≡ left.chip
  pub fetched : next.fetched ≡ left.fetched

-- A part of a row that stands before what is stored.
part_before : (n from : ℕ) (xs row : List ℕ) (at : ℕ) → from + n ≤ at → from ≤ length row
    → take n (drop from (sets row at xs)) ≡ take n (drop from row)
part_before n from xs row at h room =
    part (sets row at xs) (rw length-sets room) ∙ ap (drop from) (before_stored (from + n) xs row at h) ∙ sym (part row room)
  where
    part : (l : List ℕ) → from ≤ length l → take n (drop from l) ≡ drop from (take (from + n) l)
    part l g = sym (rw take-add (drop_at (take from l) (take n (drop from l)) from (length-take-le from l g)))

-- Where the parts of a head stand.
module _ (head : List ℕ) (size : length head ≡ 64) (player : Player) (steps : ℕ) where
  abbrev one : List ℕ
  one = set head 9 1

  abbrev two : List ℕ
  two = sets one 10 (whole_bytes_of player.cpu)

  abbrev three : List ℕ
  three = sets two 18 (four_bytes steps)

  one_size : length one ≡ 64
  one_size = length-set head 9 1 ∙ size

  two_size : length two ≡ 64
  two_size = length-sets one 10 (whole_bytes_of player.cpu) ∙ one_size

  three_size : length three ≡ 64
  three_size = length-sets two 18 (four_bytes steps) ∙ two_size

  goes : get_or (head_of head player steps) 9 0 ≡ 1
  goes =
      other_place (devices_bytes player.devices) three 23 9 (λ i h e. omega arith)
      ∙ other_place (four_bytes steps) two 18 9 (λ i h e. omega arith)
      ∙ other_place (whole_bytes_of player.cpu) one 10 9 (λ i h e. omega arith)
      ∙ get_or-set_same head 9 1 0 (omega arith)

  registers_there : registers_in (head_of head player steps) ≡ whole_bytes_of player.cpu
  unfolding whole_bytes_of bytes_of
  registers_there =
      part_before 8 10 (devices_bytes player.devices) three 23 (omega arith) (omega (arith, three_size))
      ∙ part_before 8 10 (four_bytes steps) two 18 (omega arith) (omega (arith, two_size))
      ∙ stored_part (whole_bytes_of player.cpu) one 10 (omega (arith, one_size))

  devices_there : devices_in (head_of head player steps) ≡ devices_bytes player.devices
  unfolding devices_bytes
  devices_there = stored_part (devices_bytes player.devices) three 23 (omega (arith, three_size))

-- A player by its parts, and where it stands in a head.
module _ (head : List ℕ) (size : length head ≡ 64) (steps : ℕ)
    (cpu : Processor) (t0 t1 t2 : Timer) (p0 p1 p2 p3 : ℕ) (rest : Devices) where
  abbrev player : Player
  player = record { cpu = cpu; devices = with_parts t0 t1 t2 p0 p1 p2 p3 rest }

  -- Who begins from it has the player back.
  player_back : (chip memory writes fetched : List ℕ)
      → start_of (head_of head player steps) chip memory writes fetched ≡ record { player = player; fetched = fetched }
  unfolding start_of
  player_back chip memory writes fetched =
      let later : eqb (get_or (head_of head player steps) 9 0) 0 ≡ false = rw (goes head size player steps) in
      let registers = ap whole_of (registers_there head size player steps) ∙ record_to_whole_and_back cpu in
      let devices = ap devices_of (devices_there head size player steps) ∙ devices_and_back t0 t1 t2 p0 p1 p2 p3 rest in
      rw (later, registers, devices)

  -- So does a packet with this head, in which a playing was left.
  from_there : (q : Playing) → q.player ≡ player → GoesOn q (begun_of (finished (head_of head player steps) q))
  unfolding finished
  from_there q is =
      let back = player_back q.chip q.world.memory (with_marks q.world.writes 0) q.fetched in
      record {
        player = ap (λ (s : Start). s.player) back ∙ sym is;
        memory = refl;
        reads = refl;
        writes = refl;
        chip = refl;
        fetched = ap (λ (s : Start). s.fetched) back;
      }

-- The same of a player whose devices are said to have three timers and four ports.
from_there_full : (head : List ℕ) (size : length head ≡ 64) (steps : ℕ) (player : Player) → Full player.devices
    → (q : Playing) → q.player ≡ player → GoesOn q (begun_of (finished (head_of head player steps) q))
from_there_full head size steps player full =
    let d = player.devices in
    subst
    (λ (e : Devices). let again : Player = record { cpu = player.cpu; devices = e } in
    (q : Playing) → q.player ≡ again → GoesOn q (begun_of (finished (head_of head again steps) q)))
    (parts_of_full d full)
    (from_there head size steps player.cpu (timer_at d 0) (timer_at d 1) (timer_at d 2) (port_at d 0) (port_at d 1) (port_at d 2)
    (port_at d 3) d)

module _ (p : Packet) (z : refusal_of p ≡ Ok tt) where
  abbrev o : Progress
  o = played_to p

  left_is : (played_of p).left ≡ finished (head_of p.head o.playing.player o.steps) o.playing
  unfolding played_of
  left_is = rw z

  -- The packet that an accepted one leaves goes on from there.
  pub goes_on : GoesOn (played_to p).playing (begun_of (played_of p).left)
  goes_on =
      subst (λ (l : Packet). GoesOn o.playing (begun_of l)) (sym left_is)
      (from_there_full p.head (accepted p z).head o.steps o.playing.player (played_full p) o.playing refl)

-- ---- marks that were taken out

unmarked_again : (map : List ℕ) → with_marks (with_marks map 0) 0 ≡ with_marks map 0
unmarked_again map =
    ap (λ (l : List ℕ). set l 31 0) (set_comm (set map 30 0) 31 30 0 0 (λ e. omega arith))
    ∙ set-set (set (set map 30 0) 30 0) 31 0 0
    ∙ ap (λ (l : List ℕ). set l 31 0) (set-set map 30 0 0)
