-- A playing's devices stay three timers and four ports, whatever its steps do.
-- Assumes nothing.
use Rattle.std.specs.Prelude.{ℕ, zero, suc, ◌+◌, Bool, true, false, cond, ◌||◌, List, ◌≡◌, refl, [], ◌∷◌, length, get_or}
use Rattle.std.proofs.Common.{arith}
use Rattle.editions.specs.declared.Edition.{Edition}
use Rattle.devices.specs.Devices.{timer_at, port_at, with_parts, after_reads, after_stores}
use Rattle.devices.specs.declared.Devices.{Devices}
use Rattle.devices.specs.Timers.{timer}
use Rattle.devices.specs.Lengths.{Full, after_reads_full, after_stores_full, passed_full}
use Rattle.host.specs.Turn.{Playing, noted, turn_of}
use Rattle.host.specs.Play.{goes_on, progress, play_of}

-- A list of three, or of four, is what stands at its places.
pub three_at : {A : Type 0} (x : A) (xs : List A) → length xs ≡ 3 → get_or xs 0 x ∷ get_or xs 1 x ∷ get_or xs 2 x ∷ [] ≡ xs
three_at x (a ∷ b ∷ c ∷ []) h = refl
three_at x [] h = absurd (omega arith)
three_at x (a ∷ []) h = absurd (omega arith)
three_at x (a ∷ b ∷ []) h = absurd (omega arith)
three_at x (a ∷ b ∷ c ∷ d ∷ xs) h = absurd (omega arith)

pub four_at : {A : Type 0} (x : A) (xs : List A) → length xs ≡ 4
    → get_or xs 0 x ∷ get_or xs 1 x ∷ get_or xs 2 x ∷ get_or xs 3 x ∷ [] ≡ xs
four_at x (a ∷ b ∷ c ∷ d ∷ []) h = refl
four_at x [] h = absurd (omega arith)
four_at x (a ∷ []) h = absurd (omega arith)
four_at x (a ∷ b ∷ []) h = absurd (omega arith)
four_at x (a ∷ b ∷ c ∷ []) h = absurd (omega arith)
four_at x (a ∷ b ∷ c ∷ d ∷ e ∷ xs) h = absurd (omega arith)

-- Devices with three timers and four ports are those of these parts.
pub parts_of_full : (d : Devices) → Full d
    → with_parts (timer_at d 0) (timer_at d 1) (timer_at d 2) (port_at d 0) (port_at d 1) (port_at d 2) (port_at d 3) d ≡ d
parts_of_full d full = rw (three_at (timer false 0 0 0) d.timers full.timers, four_at 0 d.ports full.ports)

noted_full : (read stored : ℕ) (memory : List ℕ) (rom : Bool) (cost : ℕ) (d : Devices) → Full d → Full (noted read stored memory rom cost d)
unfolding noted
noted_full read stored memory rom cost d full =
    let next = after_stores stored memory (after_reads read d) in
    let still = after_stores_full stored memory (after_reads read d) (after_reads_full read d full) in
    passed_full cost (record next { rom = next.rom || rom }) (record { timers = still.timers; ports = still.ports })

turn_full : (edition : Edition) (p : Playing) → Full p.player.devices → Full (turn_of edition p).player.devices
unfolding turn_of
turn_full edition p full = noted_full _ _ _ _ _ p.player.devices full

-- So does a playing of any budget, up to any cycle.
pub play_full : (edition : Edition) (until n : ℕ) (p : Playing) → Full p.player.devices
    → Full (play_of edition until n p).playing.player.devices
unfolding play_of
play_full edition until zero p full = full
play_full edition until (suc n) p full = go (goes_on until p.player) (play_full edition until n (turn_of edition p) (turn_full edition p full))
  where
    go : (b : Bool) → let more = play_of edition until n (turn_of edition p) in Full more.playing.player.devices
        → Full (cond b (progress more.playing (more.steps + 1)) (progress p 0)).playing.player.devices
    go true later = later
    go false later = full
