-- The code's test is the definition's. A whole instruction's line is written in the definition's order.
-- Assumes nothing.
use Rattle.std.proofs.Common.{◌≡◌, ℕ, ◌-◌, ◌<◌, ◌≤◌, true, false, List, [], ◌∷◌, length, get_or, take, drop, append_assoc, add-one, Fits, w8, arith, rules}
use borrow.Author.Rules.{part_to_end}
use Rattle.text.specs.Digits.{hex_word}
use Rattle.text.specs.Line.{blank, pushed, adds, shown}
use Rattle.text.specs.Quoted.{text}
use Rattle.text.specs.declared.Line.{Line}
use Rattle.text.proofs.Laws.{adds_append, adds_push, shown_adds}
use Rattle.listing.specs.Instruction.{length_of, instruction_text, is_cut}
use Rattle.listing.specs.Lengths.{turn_fits, few_bytes}
use Rattle.listing.specs.Session.{line_text, turn_text, turn_bytes}
use Rattle.listing.specs.Turns.{Turned}
use Rattle.listing.proofs.Cut.{is_cut_lem, is_whole_lem}
use Rattle.listing.proofs.program.turn.Goals as goal

turn_cut : (address : ℕ) (code : List ℕ) → 0 < length code → is_cut code ≡ true
    → (turn_text address code ≡ text "refused 4\n") × (turn_bytes code ≡ length code)
unfolding turn_text turn_bytes
turn_cut address [] some e = absurd (omega arith)
turn_cut address (opcode ∷ code) some e = (rw e, rw (e, add-one))

turn_whole : (address : ℕ) (code : List ℕ) → 0 < length code → is_cut code ≡ false
    → (turn_text address code ≡ line_text address (get_or code 0 0) (drop 1 code)) × (turn_bytes code ≡ length_of (get_or code 0 0))
unfolding turn_text turn_bytes
turn_whole address [] some e = absurd (omega arith)
turn_whole address (opcode ∷ code) some e = (rw e, rw e)

module _ (code : List ℕ) (address n : ℕ) (some : 1 ≤ length code) (fits : (i : ℕ) → Fits w8 (get_or code i 0)) (e : n ≡ length_of (get_or code 0 0)) where
  at_most_three : n ≤ 3
  at_most_three = rw e (few_bytes (get_or code 0 0) (fits 0).fits)

  -- what is written of a line is what it shows
  written : (l : Line) → l ≡ adds blank (turn_text address code) → shown l ≡ turn_text address code
  written l p = rw p (shown_adds (turn_text address code) (turn_fits address code (λ i. (fits i).fits)))

  cut : (l start : Line) → l ≡ adds start (text "refused 4\n") → start ≡ blank → length code < n → Turned code address l (length code)
  cut l start p new less =
      let cut = turn_cut address code (omega arith) (is_cut_lem code (omega arith)) in
      record { some = omega arith; text = written l (rw cut.0 (rw new at p)); stands = rw cut.1; inside = omega arith; few = omega (arith, at_most_three) }

  -- the parts of a line, written one behind the other
  whole : (a b d o r : Line) → r ≡ pushed o 10
      → o ≡ adds d (instruction_text (get_or code 0 0) (take (length code - 1) (drop 1 code))) → d ≡ pushed b 32
      → b ≡ adds a (hex_word address) → a ≡ blank → n ≤ length code → Turned code address r n
  unfolding line_text
  whole a b d o r t s q p new enough =
      let whole = turn_whole address code (omega arith) (is_whole_lem code (omega arith) (omega arith)) in
      record {
        some = omega arith;
        text = written r (rw whole.0 (simp (t, s, q, p, new, part_to_end, adds_push, adds_append, append_assoc)));
        stands = rw whole.1 e;
        inside = enough;
        few = at_most_three;
      }

pub returns-then-code-bytes : goal.returns-then-code-bytes
returns-then-code-bytes c = search (rules, cut)

pub returns : goal.returns
returns c = search (rules, whole)
