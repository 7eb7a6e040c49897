-- The head of a packet, 64 bytes: what is asked, and the player. Bytes that are not named have no meaning, and stay.
use Rattle.std.specs.Prelude.{ℕ, ◌+◌, ◌*◌, ◌/◌, ◌%◌, Bool, cond, not, ◌&&◌, List, [], ◌∷◌, ◌++◌, eqb, leb, get_or, set, take, drop, Result, Ok, Err}
use Rattle.std.proofs.lemmas.List.Edits.{sets}
use Rattle.psw.specs.Status.{one_if}
use Rattle.processor.specs.Record.{word_of}
use Rattle.refusals.specs.declared.Refusal.{Refusal}
use Rattle.refusals.specs.declared.Refusal.TheVariants as reason
use Rattle.editions.specs.Editions.{is_edition, edition_of}
use Rattle.state.specs.Registers.{is_whole, whole_bytes_of, four_bytes}
use Rattle.devices.specs.Timers.{timer}
pub use Rattle.devices.specs.Devices.{timer_at}
use Rattle.devices.specs.Devices.{port_at}
use Rattle.devices.specs.declared.timer.Timer.{Timer}
use Rattle.devices.specs.declared.Devices.{Devices}
use Rattle.host.specs.declared.Player.{Player}
use Rattle.player.specs.declared.head.Request.{Request}

-- a number of four bytes, low first
abbrev pub number_at : ℕ → List ℕ → ℕ
number_at at bytes = get_or bytes at 0 + 256 * get_or bytes (at + 1) 0 + 65536 * get_or bytes (at + 2) 0 + 16777216 * get_or bytes (at + 3) 0

-- ---- what is asked

-- the number of the edition; how many steps may be taken; at which cycle the playing ends
abbrev pub edition_in : List ℕ → ℕ
edition_in head = get_or head 0 0

abbrev pub budget_in : List ℕ → ℕ
budget_in head = number_at 1 head

abbrev pub until_in : List ℕ → ℕ
until_in head = number_at 5 head

-- the registers, A X Y SP PC-low PC-high PSW and the number of the state
abbrev pub registers_in : List ℕ → List ℕ
registers_in head = take 8 (drop 10 head)

abbrev pub request_of : List ℕ → Request
request_of head = record { edition = edition_of (edition_in head); until = until_in head; budget = budget_in head }

-- What is asked, but a head is refused as of no form if its registers have a last byte that is no state's number, or if the playing is to end
-- behind cycle 4,294,967,280; and then if the edition is neither 1 nor 2.
abbrev pub asked_in : List ℕ → Result Request Refusal
asked_in head =
    cond (is_whole (registers_in head) && leb (until_in head) 4294967280)
    (cond (is_edition (edition_in head)) (Ok (request_of head)) (Err reason.Edition))
    (Err reason.Form)

-- whether the playing begins, or goes on from what an earlier part has left
abbrev pub begins_in : List ℕ → Bool
begins_in head = eqb (get_or head 9 0) 0

-- ---- the player

-- The devices, 27 bytes: the cycles; the device addresses that were read, those that were stored to, and those of the last step, two bytes
-- each; whether the boot ROM was read; of each timer whether it is on, its target, its ticks and its counter; the ports.
abbrev pub devices_in : List ℕ → List ℕ
devices_in head = take 27 (drop 23 head)

abbrev pub word_in : ℕ → List ℕ → ℕ
word_in at bytes = word_of (get_or bytes at 0) (get_or bytes (at + 1) 0)

abbrev pub timer_in : ℕ → List ℕ → Timer
timer_in at bytes = timer (not (eqb (get_or bytes at 0) 0)) (get_or bytes (at + 1) 0) (get_or bytes (at + 2) 0) (get_or bytes (at + 3) 0)

unfoldable pub devices_of : List ℕ → Devices
devices_of bytes = record {
  cycles = number_at 0 bytes;
  read = word_in 4 bytes;
  stored = word_in 6 bytes;
  last = word_in 8 bytes;
  rom = not (eqb (get_or bytes 10 0) 0);
  timers = timer_in 11 bytes ∷ timer_in 15 bytes ∷ timer_in 19 bytes ∷ [];
  ports = get_or bytes 23 0 ∷ get_or bytes 24 0 ∷ get_or bytes 25 0 ∷ get_or bytes 26 0 ∷ [];
}

abbrev two_bytes : ℕ → List ℕ
two_bytes n = n % 256 ∷ n / 256 ∷ []

abbrev timer_bytes : Timer → List ℕ
timer_bytes t = one_if t.on ∷ t.target ∷ t.ticks ∷ t.count ∷ []

unfoldable pub devices_bytes : Devices → List ℕ
devices_bytes d =
    four_bytes d.cycles
    ++ two_bytes d.read
    ++ two_bytes d.stored
    ++ two_bytes d.last
    ++ one_if d.rom ∷ timer_bytes (timer_at d 0)
    ++ timer_bytes (timer_at d 1)
    ++ timer_bytes (timer_at d 2)
    ++ port_at d 0 ∷ port_at d 1 ∷ port_at d 2 ∷ port_at d 3 ∷ []

-- The head of an answer: it goes on from here, with these registers at 10, after so many steps, told at 18, and with these devices at 23.
abbrev pub head_of : List ℕ → Player → ℕ → List ℕ
head_of head player steps =
    sets (sets (sets (set head 9 1) 10 (whole_bytes_of player.cpu)) 18 (four_bytes steps)) 23 (devices_bytes player.devices)
