-- By the register: none, the one that keys voices on, or another.
-- Assumes nothing.
use Prim.Native.Nat.{ℕ, ◌<◌, ◌≤◌}
use mathlib.Core.Path.{◌≡◌}
use mathlib.Core.List.{List}
use lib.ListN.{get_or, set}
use borrow.Author.Rules.{rules}
use borrow.Author.Tests.{le-leb, lt-leb, eq-eqb, ne_eqb}
use Rattle.samples.specs.Fetched.{voices}
use Rattle.host.specs.Chip.{sound, keyed, stored_to}
use Rattle.host.proofs.chip.store.Goals as goal

module _ (memory writes chip fetched : List ℕ) where
  abbrev register : ℕ
  register = get_or memory 0xF2 0

  abbrev byte : ℕ
  byte = get_or memory 0xF3 0

  nowhere : 128 ≤ register → sound chip fetched ≡ stored_to memory writes chip fetched
  unfolding stored_to
  nowhere h = rw (le-leb _ _ h)

  there : register < 128 → (register ≡ 0x4C → ⊥) → sound (set chip register byte) fetched ≡ stored_to memory writes chip fetched
  unfolding stored_to
  there h g = rw (lt-leb _ _ h, ne_eqb _ _ g)

  keys : {noted map : List ℕ} → register < 128 → register ≡ 0x4C → noted ≡ keyed 8 0 byte (set chip register byte)
      → map ≡ voices 8 0 byte noted memory writes fetched → sound noted map ≡ stored_to memory writes chip fetched
  unfolding stored_to
  keys h g e f = rw (lt-leb _ _ h, eq-eqb _ _ g, f, e)

pub returns-then-register-ge128 : goal.returns-then-register-ge128
returns-then-register-ge128 c = search (rules, nowhere)

pub returns-then-register-eq76 : goal.returns-then-register-eq76
returns-then-register-eq76 c = search (rules, keys)

pub returns-else-register-eq76 : goal.returns-else-register-eq76
returns-else-register-eq76 c = search (rules, there)
