-- What the edition matters to: the steps of sixteen opcodes, and of these only where a pointer begins at the last byte of a page.
-- Assumes nothing.
use Rattle.std.specs.Prelude.{ℕ, ◌%◌, ◌<◌, Bool, true, false, ◌≡◌, refl, T, eqb}
use Rattle.std.specs.Bool.{beq}
use Rattle.std.proofs.Common.{true≢false, ◌∙◌, ne_eqb}
use Rattle.laws.specs.Below.{below_at}
use Rattle.processor.specs.declared.Processor.{Processor}
use Rattle.editions.specs.Theorems.{apart_only_at_the_end}
use Rattle.editions.specs.declared.Edition.TheVariants.{First, Second}
use Rattle.modes.specs.Addresses.{onward}
use Rattle.modes.specs.Modes.{pointed}
use Rattle.modes.specs.declared.Addressed.{Addressed}
use Rattle.instructions.specs.Rows.{Mode, rows, row_of}
use Rattle.instructions.specs.Rows.Mode.{implied, immediate, direct, direct_x, direct_y, absolute, absolute_x, absolute_y, at_x, pointer_x, pointer_y, to_direct, to_direct_x, to_direct_y, to_absolute, to_absolute_x, to_absolute_y, to_x, to_pointer_x, to_pointer_y, direct_direct, direct_immediate, at_x_at_y, direct_to_direct, immediate_to_direct, direct_word, to_direct_word, memory_bit, word, word_at_x, upper_page, table_vector, break_vector, pulled, pulled_word, pulled_three}
use Rattle.instructions.specs.Gather.{gather_of}
use Rattle.instructions.specs.Step.{read_for}
use Rattle.instructions.specs.Order.{after_opcode}

-- ---- the opcodes

-- [d+X] and [d]+Y, whether the byte at the address is read or not
abbrev pub has_pointer : Mode → Bool
has_pointer implied = false
has_pointer immediate = false
has_pointer direct = false
has_pointer direct_x = false
has_pointer direct_y = false
has_pointer absolute = false
has_pointer absolute_x = false
has_pointer absolute_y = false
has_pointer at_x = false
has_pointer pointer_x = true
has_pointer pointer_y = true
has_pointer to_direct = false
has_pointer to_direct_x = false
has_pointer to_direct_y = false
has_pointer to_absolute = false
has_pointer to_absolute_x = false
has_pointer to_absolute_y = false
has_pointer to_x = false
has_pointer to_pointer_x = true
has_pointer to_pointer_y = true
has_pointer direct_direct = false
has_pointer direct_immediate = false
has_pointer at_x_at_y = false
has_pointer direct_to_direct = false
has_pointer immediate_to_direct = false
has_pointer direct_word = false
has_pointer to_direct_word = false
has_pointer memory_bit = false
has_pointer word = false
has_pointer word_at_x = false
has_pointer upper_page = false
has_pointer table_vector = false
has_pointer break_vector = false
has_pointer pulled = false
has_pointer pulled_word = false
has_pointer pulled_three = false

-- Every other mode reads the same in both editions.
plain : (m : Mode) → has_pointer m ≡ false → (opcode : ℕ) (cpu : Processor) → gather_of First m opcode cpu ≡ gather_of Second m opcode cpu
unfolding gather_of
plain implied e opcode cpu = refl
plain immediate e opcode cpu = refl
plain direct e opcode cpu = refl
plain direct_x e opcode cpu = refl
plain direct_y e opcode cpu = refl
plain absolute e opcode cpu = refl
plain absolute_x e opcode cpu = refl
plain absolute_y e opcode cpu = refl
plain at_x e opcode cpu = refl
plain pointer_x e opcode cpu = absurd (true≢false e)
plain pointer_y e opcode cpu = absurd (true≢false e)
plain to_direct e opcode cpu = refl
plain to_direct_x e opcode cpu = refl
plain to_direct_y e opcode cpu = refl
plain to_absolute e opcode cpu = refl
plain to_absolute_x e opcode cpu = refl
plain to_absolute_y e opcode cpu = refl
plain to_x e opcode cpu = refl
plain to_pointer_x e opcode cpu = absurd (true≢false e)
plain to_pointer_y e opcode cpu = absurd (true≢false e)
plain direct_direct e opcode cpu = refl
plain direct_immediate e opcode cpu = refl
plain at_x_at_y e opcode cpu = refl
plain direct_to_direct e opcode cpu = refl
plain immediate_to_direct e opcode cpu = refl
plain direct_word e opcode cpu = refl
plain to_direct_word e opcode cpu = refl
plain memory_bit e opcode cpu = refl
plain word e opcode cpu = refl
plain word_at_x e opcode cpu = refl
plain upper_page e opcode cpu = refl
plain table_vector e opcode cpu = refl
plain break_vector e opcode cpu = refl
plain pulled e opcode cpu = refl
plain pulled_word e opcode cpu = refl
plain pulled_three e opcode cpu = refl

-- The opcodes with such a mode are those whose low digit is 7.
pub the_sixteen : (opcode : ℕ) → opcode < 256 → has_pointer (row_of opcode).mode ≡ eqb (opcode % 16) 7
unfolding rows
the_sixteen opcode h = equal _ _ (below_at 256 (λ k. beq (has_pointer (row_of k).mode) (eqb (k % 16) 7)) tt opcode h)
  where
    equal : (a b : Bool) → T (beq a b) → a ≡ b
    equal true true t = refl
    equal true false t = absurd t
    equal false true t = absurd t
    equal false false t = refl

-- After every other opcode a step is the same in both editions.
pub same_elsewhere : (cpu : Processor) (opcode : ℕ) → opcode < 256 → (opcode % 16 ≡ 7 → ⊥)
    → after_opcode First cpu opcode ≡ after_opcode Second cpu opcode
unfolding read_for
same_elsewhere cpu opcode h other =
    rw (plain (row_of opcode).mode (the_sixteen opcode h ∙ ne_eqb (opcode % 16) 7 other) opcode (onward cpu))

-- ---- the pointers

-- Of a pointer that begins elsewhere than at the last byte of a page, both editions read the same two bytes.
pub same_inside : (index : ℕ) (d : Addressed) → d.at < 65536 → (d.at % 256 ≡ 255 → ⊥) → pointed First index d ≡ pointed Second index d
unfolding pointed
same_inside index d h other = rw (apart_only_at_the_end d.at h other)
