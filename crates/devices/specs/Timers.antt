-- A timer: what a tick does to it, and what the processor's reads and stores do.
use Rattle.std.specs.Prelude.{ℕ, zero, suc, ◌+◌, ◌%◌, Bool, true, cond, not, ◌&&◌, ◌==◌}
use Rattle.devices.specs.declared.timer.Timer.{Timer}

abbrev pub timer : Bool → ℕ → ℕ → ℕ → Timer
timer on target ticks count = record { on = on; target = target; ticks = ticks; count = count }

-- A timer that is on counts ticks, in eight bits, up to its target; then it begins at zero again and its four-bit counter goes up by one. A
-- target of 0 is reached at the 256th tick. A timer that is off stays as it is.
unfoldable pub ticked : Timer → Timer
ticked t =
    let ticks = (t.ticks + 1) % 256 in
    cond t.on
    (cond (ticks == t.target) (timer true t.target 0 ((t.count + 1) % 16)) (timer true t.target ticks t.count))
    t

-- n ticks, one after the other
abbrev pub ticks : ℕ → Timer → Timer
ticks zero t = t
ticks (suc n) t = ticked (ticks n t)

-- Turned on or off: a timer that goes from off to on starts from zero, its counter too.
unfoldable pub switched : Bool → Timer → Timer
switched on t = cond (on && not t.on) (timer on t.target 0 0) (timer on t.target t.ticks t.count)

-- A counter that is read is zero from then on.
abbrev pub cleared : Timer → Timer
cleared t = timer t.on t.target t.ticks 0

-- A target takes effect at the next tick.
abbrev pub aimed : ℕ → Timer → Timer
aimed target t = timer t.on target t.ticks t.count
