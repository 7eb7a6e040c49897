-- The code's tests are the definition's own, in its order. The text has at most 37 bytes, so the line, which holds 80, shows it whole.
-- Assumes nothing.
use Prim.Native.Nat.{ℕ, ◌<◌, ◌≤◌}
use mathlib.Core.Path.{◌≡◌, refl}
use mathlib.Core.List.{List}
use native.Mathlib.Omega.{arith}
use lib.ListN.{length, get_or}
use borrow.Author.Rules.{rules}
use borrow.Author.Tests.{lt-ltb, le-ltb}
use mir.Syntax.{w8}
use mir.Val.{Fits}
use Rattle.text.specs.declared.Line.{Line}
use Rattle.std.specs.Prelude.{Result, Err}
use Rattle.refusals.specs.declared.Refusal.{Refusal}
use Rattle.refusals.specs.declared.Refusal.TheVariants.{Count, Operands}
use Rattle.text.specs.Given.{Given, says}
use Rattle.text.specs.Line.{blank, adds, shown}
use Rattle.text.proofs.Laws.{gives_new}
use Rattle.opcode_data.specs.declared.Modes.{Modes}
use Rattle.opcode_data.specs.Format.{taken, modes_text, format_of}
use Rattle.opcode_data.specs.Lists.{list_of}
use Rattle.opcode_data.proofs.Lists.{at_most_three}
use Rattle.opcode_data.proofs.Lengths.{length_modes}
use Rattle.opcode_data.proofs.format.format_address_modes.Goals as goal

-- what each way out gives
too_many : (m : Modes) (bytes buffer : List ℕ) → 3 < m.count → Given (format_of m bytes) buffer buffer (Err Count)
unfolding format_of
too_many m bytes buffer h = rw (lt-ltb 3 m.count h) (record { answer = refl; buffer = refl })

too_few : (m : Modes) (bytes buffer : List ℕ) (n : ℕ) → m.count ≤ 3 → n ≡ taken (list_of m) → length bytes < n
    → Given (format_of m bytes) buffer buffer (Err Operands)
unfolding format_of
too_few m bytes buffer n h e few =
    rw (le-ltb 3 m.count h, lt-ltb (length bytes) (taken (list_of m)) (omega arith)) (record { answer = refl; buffer = refl })

shown_whole : (m : Modes) (bytes before after : List ℕ) (n : ℕ) (l start : Line) (r : Result ℕ Refusal)
    → length m.three ≡ 3 → Given (says (shown l)) before after r → l ≡ adds start (modes_text (list_of m) bytes) → start ≡ blank → ((at : ℕ) → Fits w8 (get_or bytes at 0))
    → n ≡ taken (list_of m) → n ≤ length bytes → m.count ≤ 3 → Given (format_of m bytes) before after r
unfolding format_of
shown_whole m bytes before after n l start r three gives line new small e enough h =
    rw (le-ltb 3 m.count h, le-ltb (length bytes) (taken (list_of m)) (omega arith))
    (gives_new l start new line (omega (arith, length_modes (list_of m) bytes (λ at. (small at).fits) (at_most_three m three))) gives)

pub returns-then-modes-gt3 : goal.returns-then-modes-gt3
returns-then-modes-gt3 c = search (rules, too_many)

pub returns-then-values-taken : goal.returns-then-values-taken
returns-then-values-taken c = search (rules, too_few)

pub returns : goal.returns
returns c = search (rules, shown_whole)
