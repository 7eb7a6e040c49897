-- The store to 00F1 first, where there is one, then the targets and the notes: the definition's order.
-- Assumes nothing.
use Rattle.std.proofs.Common.{◌≡◌, ◌+◌, cond, ◌∙◌}
use lib.Bits.{or_zero_r}
use Rattle.devices.specs.Timers.{aimed}
use Rattle.devices.specs.Devices.{bit, byte, controlled, aimed_all, after_stores}
use Rattle.devices.proofs.Changing.{none_changed, no_bit}
use Rattle.devices.proofs.Devices.take_stores.Goals as goal
use Rattle.devices.proofs.Devices.take_stores.Goals.{then-has, else-has}

-- nothing was stored
pub returns-then-stored-eq0 : goal.returns-then-stored-eq0
unfolding after_stores aimed_all
returns-then-stored-eq0 c =
    let none = none_changed 10 (bit 0) (λ j t. aimed (byte c.args.memory.now (0xF0 + j)) t) c.args.self c.args.self.timers no_bit in
    rw (c.if-stored-eq0.true, or_zero_r, none)

pub returns : goal.returns
unfolding after_stores
returns c =
    let d = c.args.self in
    let met : c.if-has.self ≡ cond (bit c.args.stored 1) (controlled (byte c.args.memory.now 0xF1) d) d =
    elim c.if-has.branch [
      | then-has w ↦ rw (← c.has.ensures, w.if-has.true) (w.self-is ∙ w.control-self.ensures)
      | else-has w ↦ rw (← c.has.ensures, w.if-has.false) w.self-is
    ] in
    rw (c.aim-self.ensures, met)
