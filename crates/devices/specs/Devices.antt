-- The devices of the processor at 00F0 to 00FF: how they begin, and what reads, stores and cycles do to them.
use Rattle.std.specs.Prelude.{ℕ, ◌+◌, ◌/◌, ◌%◌, ◌^◌, Bool, false, cond, List, [], ◌∷◌, ◌==◌, bit_or, get_or, slice_index}
use Rattle.devices.specs.declared.timer.Timer.{Timer}
use Rattle.devices.specs.declared.Devices.{Devices}
use Rattle.devices.specs.Timers.{timer, ticked, switched, cleared, aimed}

-- Whether the bit of value 2^j is set: in a byte, or in sixteen bits that stand for 00F0 to 00FF.
abbrev pub bit : ℕ → ℕ → Bool
bit n j = n / 2 ^ j % 2 == 1

-- the byte at an address
abbrev pub byte : List ℕ → ℕ → ℕ
byte memory a = slice_index memory a

-- ---- the parts

-- Timer k of three, and port k of four.
abbrev pub timer_at : Devices → ℕ → Timer
timer_at d k = get_or d.timers k (timer false 0 0 0)

abbrev pub port_at : Devices → ℕ → ℕ
port_at d k = get_or d.ports k 0

-- Devices of these timers and these ports, the rest as in d. Those of the code are all of this form: their types have three and four.
abbrev pub with_parts : Timer → Timer → Timer → ℕ → ℕ → ℕ → ℕ → Devices → Devices
with_parts t0 t1 t2 p0 p1 p2 p3 d = record d { timers = t0 ∷ t1 ∷ t2 ∷ []; ports = p0 ∷ p1 ∷ p2 ∷ p3 ∷ [] }

-- ---- the beginning

-- Timer k as an image leaves it: 00F1 has a bit for each that is on, at 00FA to 00FC are their targets, and at 00FD to 00FF their counters
-- of four bits.
abbrev pub timer_in : ℕ → List ℕ → Timer
timer_in k memory = timer (bit (byte memory 0xF1) k) (byte memory (0xFA + k)) 0 (byte memory (0xFD + k) % 16)

-- When a playing begins, the image holds the timers, and at 00F4 to 00F7 what the console sent last.
abbrev pub started : List ℕ → Devices
started memory = record {
  timers = timer_in 0 memory ∷ timer_in 1 memory ∷ timer_in 2 memory ∷ [];
  ports = byte memory 0xF4 ∷ byte memory 0xF5 ∷ byte memory 0xF6 ∷ byte memory 0xF7 ∷ [];
  cycles = 0;
  read = 0;
  stored = 0;
  last = 0;
  rom = false;
}

-- ---- after a step

-- things in a row, each changed by a function of its number, from a first number on
abbrev pub numbered : {A : Type 0} → ℕ → (ℕ → A → A) → List A → List A
numbered k f [] = []
numbered k f (x ∷ xs) = f k x ∷ numbered (k + 1) f xs

-- A step has read these device addresses: reading 00FD, 00FE or 00FF sets that counter to zero.
unfoldable pub after_reads : ℕ → Devices → Devices
after_reads read d = record d {
  timers = numbered 13 (λ j t. cond (bit read j) (cleared t) t) d.timers;
  read = bit_or d.read read;
}

-- A store to 00F1: bits 0 to 2 turn the timers on and off; bit 4 clears what is read at 00F4 and 00F5, bit 5 at 00F6 and 00F7.
unfoldable pub controlled : ℕ → Devices → Devices
controlled control d = record d {
  timers = numbered 0 (λ j t. switched (bit control j) t) d.timers;
  ports = numbered 0 (λ j port. cond (bit control (4 + j / 2)) 0 port) d.ports;
}

-- Stores to 00FA, 00FB and 00FC: targets.
unfoldable pub aimed_all : ℕ → List ℕ → Devices → Devices
aimed_all stored memory d = record d {
  timers = numbered 10 (λ j t. cond (bit stored j) (aimed (byte memory (0xF0 + j)) t) t) d.timers;
}

-- A step has stored to these device addresses what stands in memory there now. A store to a port goes to the console: it is noted, and what
-- is read there stays.
unfoldable pub after_stores : ℕ → List ℕ → Devices → Devices
after_stores stored memory d =
    let next = aimed_all stored memory (cond (bit stored 1) (controlled (byte memory 0xF1) d) d) in
    record next { stored = bit_or next.stored stored; last = stored }

-- ---- the clock

-- A timer whose ticks are so many cycles apart, between two cycles that are less than that apart.
abbrev pub ticked_between : ℕ → ℕ → ℕ → Timer → Timer
ticked_between apart before after t = cond (before / apart == after / apart) t (ticked t)

-- Cycles pass: timers 0 and 1 tick every 128 cycles, timer 2 every 16. No step has as many as 16, so that in one each ticks once at most.
unfoldable pub passed : ℕ → Devices → Devices
passed n d =
    let after = d.cycles + n in
    record d { timers = numbered 0 (λ k t. ticked_between (cond (k == 2) 16 128) d.cycles after t) d.timers; cycles = after }
