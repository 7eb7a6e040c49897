-- The code's test is the definition's, and an instruction's text is short enough for the line to show it whole.
-- Assumes nothing.
use Rattle.std.proofs.Common.{◌≡◌, ℕ, ◌-◌, ◌<◌, ◌≤◌, true, false, List, [], ◌∷◌, length, get_or, take, drop, Result, Err, refl, arith, w8, Fits, rules}
use borrow.Author.Rules.{part_to_end}
use Rattle.laws.specs.Bytes.{Bytes, bytes_drop}
use Rattle.refusals.specs.declared.Refusal.{Refusal}
use Rattle.refusals.specs.declared.Refusal.TheVariants.{Operands}
use Rattle.text.specs.Given.{Given, says, refuses}
use Rattle.text.specs.declared.Line.{Line}
use Rattle.text.specs.Line.{blank, adds, shown}
use Rattle.text.proofs.Laws.{gives_new}
use Rattle.listing.specs.Instruction.{length_of, instruction_text, is_cut, listed_of}
use Rattle.listing.specs.Lengths.{instruction_fits}
use Rattle.listing.proofs.Cut.{is_cut_lem, is_whole_lem}
use Rattle.listing.proofs.instruction.Goals as goal

listed_cut : (code : List ℕ) → is_cut code ≡ true → listed_of code ≡ refuses Operands
listed_cut [] e = refl
listed_cut (opcode ∷ code) e = rw e

listed_whole : (code : List ℕ) → 0 < length code → is_cut code ≡ false
    → listed_of code ≡ says (instruction_text (get_or code 0 0) (drop 1 code))
listed_whole [] some e = absurd (omega arith)
listed_whole (opcode ∷ code) some e = rw e

-- what each way out gives
empty : (code buffer : List ℕ) → length code < 1 → Given (listed_of code) buffer buffer (Err Operands)
unfolding length_of
empty code buffer h = rw (listed_cut code (is_cut_lem code (omega arith))) (record { answer = refl; buffer = refl })

cut : (code buffer : List ℕ) (n : ℕ) → n ≡ length_of (get_or code 0 0) → length code < n → Given (listed_of code) buffer buffer (Err Operands)
cut code buffer n e h = rw (listed_cut code (is_cut_lem code (omega arith))) (record { answer = refl; buffer = refl })

whole : (code before after : List ℕ) (n : ℕ) (l start : Line) (r : Result ℕ Refusal) → Given (says (shown l)) before after r
    → l ≡ adds start (instruction_text (get_or code 0 0) (take (length code - 1) (drop 1 code))) → start ≡ blank
    → ((at : ℕ) → Fits w8 (get_or code at 0)) → n ≡ length_of (get_or code 0 0) → n ≤ length code → Given (listed_of code) before after r
unfolding length_of
whole code before after n l start r gives line new fits e enough =
    let bytes : Bytes code = λ at. (fits at).fits in
    let some : 0 < length code = omega arith in
    rw (listed_whole code some (is_whole_lem code some (omega arith)))
    (gives_new l start new (rw part_to_end at line)
    (instruction_fits (get_or code 0 0) (drop 1 code) (bytes 0) (bytes_drop 1 code bytes)) gives)

pub returns-in_default : goal.returns-in_default
returns-in_default c = search (rules, empty)

pub returns-then-code-length : goal.returns-then-code-length
returns-then-code-length c = search (rules, cut)

pub returns : goal.returns
returns c = search (rules, whole)
