-- What is done for a bit that is set is joined with what is done for none.
-- Assumes nothing.
use Prim.Native.Nat.{ℕ, ◌/◌, ◌%◌}
use mathlib.Core.Path.{◌≡◌, refl, ◌∙◌}
use mathlib.Core.Bool.{cond}
use mathlib.Core.List.{List}
use borrow.Author.Tests.{eq-eqb, ne_eqb}
use Rattle.devices.specs.Devices.{bit}
use Rattle.host.specs.Chip.{Sound, sound, asked, stored_to, heard}
use Rattle.host.proofs.chip.hear.Goals as goal
use Rattle.host.proofs.chip.hear.Goals.{then-read-eq1, else-read-eq1}

-- what is done where the bit of 00F3 is set
module _ {A : Type 0} (marks : ℕ) (then else : A) {after : A} where
  pub set_three : marks / 8 % 2 ≡ 1 → after ≡ then → after ≡ cond (bit marks 3) then else
  set_three t e = rw (eq-eqb (marks / 8 % 2) 1 t) e

  pub clear_three : (marks / 8 % 2 ≡ 1 → ⊥) → after ≡ else → after ≡ cond (bit marks 3) then else
  clear_three t e = rw (ne_eqb (marks / 8 % 2) 1 t) e

module _ (read stored name : ℕ) (memory writes chip fetched : List ℕ) where
  all_heard : {next : List ℕ} {s : Sound} → next ≡ cond (bit read 3) (asked name chip) chip
      → s ≡ cond (bit stored 3) (stored_to memory writes next fetched) (sound next fetched)
      → s ≡ heard read stored name memory writes (sound chip fetched)
  unfolding heard
  all_heard e f = rw (f, e)

pub returns-then-stored-eq1 : goal.returns-then-stored-eq1
returns-then-stored-eq1 c =
    all_heard _ _ _ _ _ _ _
    (elim c.if-read-eq1.branch [
      | then-read-eq1 w ↦ set_three _ _ _ w.if-read-eq1.true (w.chip-is ∙ w.ask.ensures)
      | else-read-eq1 w ↦ clear_three _ _ _ w.if-read-eq1.false w.chip-is
    ])
    (set_three _ _ _ c.if-stored-eq1.true c.store.ensures)

pub returns-else-stored-eq1 : goal.returns-else-stored-eq1
returns-else-stored-eq1 c =
    all_heard _ _ _ _ _ _ _
    (elim c.if-read-eq1.branch [
      | then-read-eq1 w ↦ set_three _ _ _ w.if-read-eq1.true (w.chip-is ∙ w.ask.ensures)
      | else-read-eq1 w ↦ clear_three _ _ _ w.if-read-eq1.false w.chip-is
    ])
    (clear_three _ _ _ c.if-stored-eq1.false refl)
