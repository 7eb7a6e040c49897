-- The timers one after the other, by `Changing`; then each pair of ports is cleared where its bit is set.
-- Assumes nothing.
use Rattle.std.proofs.Common.{◌≡◌, ℕ, ◌+◌, ◌/◌, Bool, true, false, cond, List, [], ◌∷◌, length, set, refl, ◌∙◌, zero-add, arith}
use Rattle.devices.specs.declared.Devices.{Devices}
use Rattle.devices.specs.Timers.{switched}
use Rattle.devices.specs.Devices.{bit, numbered, controlled}
use Rattle.devices.proofs.Changing.{begun, one_changed, all_changed}
use Rattle.devices.proofs.Devices.control.Goals as goal
use Rattle.devices.proofs.Devices.control.Goals.{then-has, else-has}

-- ports cleared by pairs
abbrev two : Bool → ℕ → List ℕ → List ℕ
two b k ports = cond b (set (set ports k 0) (k + 1) 0) ports

pairs : (n : ℕ) (ports : List ℕ) → length ports ≡ 4
    → two (bit n 5) 2 (two (bit n 4) 0 ports) ≡ numbered 0 (λ j port. cond (bit n (4 + j / 2)) 0 port) ports
pairs n (a ∷ b ∷ c ∷ d ∷ []) h = go (bit n 4) (bit n 5)
  where
    go : (low high : Bool) → two high 2 (two low 0 (a ∷ b ∷ c ∷ d ∷ []))
        ≡ cond low 0 a ∷ cond low 0 b ∷ cond high 0 c ∷ cond high 0 d ∷ []
    go true true = refl
    go true false = refl
    go false true = refl
    go false false = refl
pairs n [] h = absurd (omega arith)
pairs n (a ∷ []) h = absurd (omega arith)
pairs n (a ∷ b ∷ []) h = absurd (omega arith)
pairs n (a ∷ b ∷ c ∷ []) h = absurd (omega arith)
pairs n (a ∷ b ∷ c ∷ d ∷ e ∷ ports) h = absurd (omega arith)

pub loop-k-init : goal.loop-k-init
loop-k-init c = begun _ _ _ _

pub loop-k-preserved : goal.loop-k-preserved
loop-k-preserved c =
    one_changed _ _ _ _ c.loop-k.invariant (omega arith) refl refl (rw zero-add (c.switch.ensures ∙ rw c.has.ensures)) refl

-- the timers switched, and then both pairs cleared
all_done : (n : ℕ) (d s x : Devices) {low high : Bool} → length d.ports ≡ 4
    → s ≡ record d { timers = numbered 0 (λ j t. switched (bit n j) t) d.timers } → low ≡ bit n 4
    → x ≡ record s { ports = two low 0 s.ports } → high ≡ bit n 5 → record x { ports = two high 2 x.ports } ≡ controlled n d
unfolding controlled
all_done n d s x size timers l ports h = rw (ports, l, h, timers, pairs n d.ports size)

pub returns-then-has-2 : goal.returns-then-has-2
returns-then-has-2 c =
    let s = c.loop-k.self in
    let met : c.if-has.self ≡ record s { ports = two c.has-2.result 0 s.ports } =
    elim c.if-has.branch [ then-has w ↦ rw w.if-has.true w.self-is | else-has w ↦ rw w.if-has.false w.self-is ] in
    rw (c.if-has-2.true) at
    (all_done _ _ _ _ (omega arith) (all_changed _ _ _ _ c.loop-k.invariant (omega arith)) c.has-2.ensures met c.has-3.ensures)

pub returns-else-has-2 : goal.returns-else-has-2
returns-else-has-2 c =
    let s = c.loop-k.self in
    let met : c.if-has.self ≡ record s { ports = two c.has-2.result 0 s.ports } =
    elim c.if-has.branch [ then-has w ↦ rw w.if-has.true w.self-is | else-has w ↦ rw w.if-has.false w.self-is ] in
    rw (c.if-has-2.false) at
    (all_done _ _ _ _ (omega arith) (all_changed _ _ _ _ c.loop-k.invariant (omega arith)) c.has-2.ensures met c.has-3.ensures)
