-- The cycle and the marks decide, if they differ; and else, if something was stored, the bytes.
-- Assumes nothing.
use Rattle.std.proofs.Common.{◌≡◌, ℕ, zero, suc, ◌+◌, ◌≤◌, ◌⊎◌, ⊎_elim, Bool, ◌&&◌, List, eqb, length, get_or, take, drop, refl, ap, ◌∙◌, arith, add-one, eq-eqb, ne_eqb}
use lib.Pointwise.{pointwise}
use Rattle.std.proofs.Math.Seq.{drop-cons}
use Rattle.devices.specs.declared.Devices.{Devices}
use Rattle.host.specs.Beside.{same_bytes, same_stores}
use Rattle.host.proofs.beside.same_stores.Goals as goal
use Rattle.host.proofs.beside.same_stores.Goals.{then-c-d, else-c-d}

-- parts of two memories, byte by byte
parts : (n at : ℕ) (memory other : List ℕ) → at + n ≤ length memory → at + n ≤ length other
    → pointwise eqb (take n (drop at memory)) (take n (drop at other)) ≡ same_bytes n at memory other
unfolding same_bytes
parts zero at memory other h g = refl
parts (suc n) at memory other h g =
    rw (drop-cons memory at 0 (omega arith), drop-cons other at 0 (omega arith), add-one)
    (ap (λ (b : Bool). eqb (get_or memory at 0) (get_or other at 0) && b) (parts n (suc at) memory other (omega arith) (omega arith)))

module _ (c d : Devices) (memory other : List ℕ) where
  no_marks : {r : Bool} → c.cycles ≡ d.cycles → c.last ≡ d.last → c.last ≡ 0 → r ≡ eqb c.last 0 → r ≡ same_stores c d memory other
  unfolding same_stores
  no_marks e f g h = rw (h, eq-eqb _ _ e, eq-eqb _ _ f, eq-eqb _ _ g)

  by_bytes : {r : Bool} → c.cycles ≡ d.cycles → c.last ≡ d.last → (c.last ≡ 0 → ⊥) → r ≡ same_bytes 16 0xF0 memory other
      → r ≡ same_stores c d memory other
  unfolding same_stores
  by_bytes e f g h = rw (eq-eqb _ _ e, eq-eqb _ _ f, ne_eqb _ _ g) h

  other_cycle : {r : Bool} → (c.cycles ≡ d.cycles → ⊥) → r ≡ eqb c.cycles d.cycles → r ≡ same_stores c d memory other
  unfolding same_stores
  other_cycle n h = rw (h, ne_eqb _ _ n)

  other_marks : {r : Bool} → c.cycles ≡ d.cycles → r ≡ eqb c.last d.last
      → (c.cycles ≡ d.cycles × (c.last ≡ d.last → ⊥)) ⊎ (c.cycles ≡ d.cycles → ⊥) → r ≡ same_stores c d memory other
  unfolding same_stores
  other_marks e h = ⊎_elim (λ k. rw (h, eq-eqb _ _ e, ne_eqb _ _ k.1)) (λ n. absurd (n e))

pub returns-then-c-eq0 : goal.returns-then-c-eq0
returns-then-c-eq0 c = no_marks _ _ _ _ c.if-c-d-2.true.0 c.if-c-d-2.true.1 c.if-c-eq0.true refl

pub returns-else-c-eq0 : goal.returns-else-c-eq0
returns-else-c-eq0 c =
    by_bytes _ _ _ _ c.if-c-d-2.true.0 c.if-c-d-2.true.1 c.if-c-eq0.false
    (c.eq.ensures ∙ parts 16 240 c.args.memory.now c.args.other.now (omega arith) (omega arith))

pub returns-else-c-d-2 : goal.returns-else-c-d-2
returns-else-c-d-2 c = elim c.if-c-d.branch [
  | then-c-d w ↦ other_marks _ _ _ _ w.if-c-d.true w.t-6-is c.if-c-d-2.either
  | else-c-d w ↦ other_cycle _ _ _ _ w.if-c-d.false w.t-6-is
]
