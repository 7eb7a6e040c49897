-- The code's test is the definition's. The lines are measured before any of them is written.
-- Assumes nothing.
use Rattle.std.proofs.Common.{◌≡◌, ℕ, ◌+◌, ◌-◌, ◌*◌, ◌<◌, ◌≤◌, List, [], ◌∷◌, length, get_or, take, drop, Result, Ok, Err, refl, arith, rules, le-leb}
use borrow.Author.Tests.{lt-leb}
use borrow.Author.Rules.{part_to_end}
use Rattle.refusals.specs.declared.Refusal.{Refusal}
use Rattle.refusals.specs.declared.Refusal.TheVariants.{Room}
use Rattle.text.specs.Given.{Given, says, laid_into}
use Rattle.text.specs.Line.{blank, adds, shown}
use Rattle.text.specs.declared.Line.{Line}
use Rattle.text.proofs.Laws.{gives_new}
use Rattle.listing.specs.Session.{lines_of, refused_input, session_of}
use Rattle.listing.proofs.program.session.Goals as goal
use Rattle.listing.proofs.program.session.Goals.{in_default-via-then-input-lt2, in_default-via-in-len2-up+else-code-le4096}

-- the code behind the start address
abbrev code : List ℕ → List ℕ
code input = take (length input - 2) (drop 2 input)

too_short : (input : List ℕ) → length input < 2 → session_of input ≡ refused_input
unfolding session_of
too_short [] h = refl
too_short (low ∷ []) h = refl
too_short (low ∷ high ∷ code) h = absurd (omega arith)

too_long : (input : List ℕ) → 4096 < length (code input) → session_of input ≡ refused_input
unfolding session_of
too_long [] h = refl
too_long (low ∷ []) h = refl
too_long (low ∷ high ∷ code) h = let long = rw part_to_end at h in rw (lt-leb (length code) 4096 long)

listed : (input : List ℕ) (start : ℕ) → 2 ≤ length input → length (code input) ≤ 4096 → start ≡ get_or input 1 0 * 256 + get_or input 0 0
    → session_of input ≡ lines_of 0 start (code input)
unfolding session_of
listed [] start h g from = absurd (omega arith)
listed (low ∷ []) start h g from = absurd (omega arith)
listed (low ∷ high ∷ code) start h g from = let few = rw part_to_end at g in rw (part_to_end, le-leb (length code) 4096 few, from)

refused : (input before after : List ℕ) (l m : Line) (r : Result ℕ Refusal) → Given (says (shown l)) before after r → l ≡ adds m refused_input → m ≡ blank
    → session_of input ≡ refused_input → Given (says (session_of input)) before after r
refused input before after l m r gives p new e = rw e (gives_new l m new p (omega arith) gives)

module _ (input before : List ℕ) (n start : ℕ) (total : n ≡ length (lines_of 0 start (code input))) (is_listed : session_of input ≡ lines_of 0 start (code input)) where
  no_room : length before < n → Given (says (session_of input)) before before (Err Room)
  no_room less = let short = lt-leb (length (lines_of 0 start (code input))) (length before) (omega arith) in
      rw is_listed (record { answer = rw short; buffer = rw short })

  all_written : (after : List ℕ) → after ≡ laid_into before (lines_of 0 start (code input)) → n ≤ length before
      → Given (says (session_of input)) before after (Ok n)
  all_written after laid room = let fits = le-leb (length (lines_of 0 start (code input))) (length before) (omega arith) in
      rw is_listed (record { answer = rw (fits, total); buffer = rw fits laid })

pub returns-in_default : goal.returns-in_default
returns-in_default c =
    refused _ _ _ _ _ _ c.give.ensures c.text.ensures c.new.ensures
    (elim c.in_default.branch [
      | in_default-via-then-input-lt2 w ↦ search (rules, too_short)
      | in_default-via-in-len2-up+else-code-le4096 w ↦ too_long _ w.if-code-le4096.false
    ])

pub returns-then-out-total : goal.returns-then-out-total
returns-then-out-total c =
    let all = listed c.args.input.now c.from_le_bytes-start.result c.in-len2-up.len_at_least c.if-code-le4096.true (omega arith) in
    search (rules, no_room)

pub returns-else-out-total : goal.returns-else-out-total
returns-else-out-total c =
    let all = listed c.args.input.now c.from_le_bytes-start.result c.in-len2-up.len_at_least c.if-code-le4096.true (omega arith) in
    search (rules, all_written)
