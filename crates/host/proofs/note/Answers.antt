-- Reads, stores, the note of a read of the boot ROM, and the clock, in this order. The first three leave the cycles as they were.
-- Assumes nothing.
use Prim.Native.Nat.{ℕ}
use mathlib.Core.Path.{◌≡◌, refl, ap, ◌∙◌}
use mathlib.Core.Bool.{Bool, true, false, cond, ◌||◌}
use mathlib.Core.List.{List}
use native.Mathlib.Omega.{arith}
use lib.ListN.{get_or}
use Rattle.devices.specs.Devices.{bit, after_reads, controlled, aimed_all, after_stores, passed}
use Rattle.devices.specs.declared.Devices.{Devices}
use Rattle.host.specs.Turn.{noted}
use Rattle.host.proofs.note.Goals as goal
use Rattle.host.proofs.note.Goals.{else-next, then-next}

same_cycles : (read stored : ℕ) (memory : List ℕ) (d : Devices) → (after_stores stored memory (after_reads read d)).cycles ≡ d.cycles
unfolding after_reads after_stores aimed_all controlled
same_cycles read stored memory d = go (bit stored 1)
  where
    go : (b : Bool) → (cond b (controlled (get_or memory 0xF1 0) (after_reads read d)) (after_reads read d)).cycles ≡ d.cycles
    go true = refl
    go false = refl

-- what comes of `||`
was : {x : Bool} (y : Bool) {r : Bool} → x ≡ true → r ≡ x → r ≡ (x || y)
was y t e = rw t (e ∙ t)

was_not : {x y r : Bool} → x ≡ false → r ≡ y → r ≡ (x || y)
was_not t e = rw t e

module _ (read stored : ℕ) (memory : List ℕ) (d : Devices) {reads stores : Devices}
    (e : reads ≡ after_reads read d) (f : stores ≡ after_stores stored memory reads) where
  still : stores.cycles ≡ d.cycles
  still = ap (λ (x : Devices). x.cycles) (rw e at f) ∙ same_cycles read stored memory d

  all_noted : (rom : Bool) (cost : ℕ) {so : Bool} {after : Devices} → so ≡ (stores.rom || rom)
      → after ≡ passed cost (record stores { rom = so })
      → after ≡ noted read stored memory rom cost d
  unfolding noted
  all_noted rom cost g h = rw (h, g, f, e)

pub pass-requires : goal.pass-requires
pass-requires c = omega (arith, still _ _ _ _ c.take_reads.ensures c.take_stores-next.ensures)

pub returns : goal.returns
returns c = all_noted _ _ _ _ c.take_reads.ensures c.take_stores-next.ensures _ _
    (elim c.if-next.branch [
      | then-next w ↦ was _ w.if-next.true w.next-is
      | else-next w ↦ was_not w.if-next.false w.next-is
    ])
    c.pass.ensures
