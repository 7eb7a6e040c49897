-- Neither line of the report is ever too long for a line of 80 bytes, so nothing of it is lost.
-- Its one hypothesis is what the code's types give: the bytes of the input are below 256, and so the budget is below 2^32. That a stop
-- is at most 2 and that there are no more steps than the budget is proved of the definition (Bounds), and that there are no more marks
-- than addresses of any two maps (marks/specs/Sums).
-- Assumes nothing.
use Rattle.std.specs.Prelude.{ℕ, ◌<◌, ◌≤◌, ◌≡◌, Bool, cond, List, eqb, length, take, drop}
use Rattle.std.proofs.Math.Bool.{true, false}
use native.Mathlib.Omega.{arith}
use Rattle.std.proofs.Common.{length-append}
use Rattle.laws.specs.Bytes.{Bytes}
use Rattle.text.specs.Line.{shown}
use Rattle.text.specs.Quoted.{text}
use Rattle.text.proofs.Laws.{length_decimal, shown_adds}
use Rattle.waking.specs.States.{number_of}
use Rattle.psw.specs.Theorems.{text_length}
use Rattle.psw.specs.declared.ProgramStatusWord.{ProgramStatusWord}
use Rattle.processor.specs.Text.{registers_text}
use Rattle.marks.specs.Sums.{few}
use Rattle.memory.specs.World.{World}
use Rattle.memory.specs.Access.{Outcome}
use Rattle.editions.specs.Editions.{is_edition, edition_of}
use Rattle.state.specs.Registers.{registers_of}
use Rattle.engine.specs.declared.Ran.{Ran}
use Rattle.runner.specs.Bounds.{small}
use Rattle.runner.specs.Session.{Session, edition_byte, budget_of, run_on, opening_of, closing_text, closing_of, session_of, reported, refused}
use Rattle.runner.specs.Told.{Told}
use Rattle.runner.specs.declared.Report.{Report}

pub record Fits (s : Session) : Type 0 where
  pub opening : length s.opening ≤ 80
  pub closing : length s.closing ≤ 80

-- ---- the two lines: at most 53 bytes and at most 73

length_opening : (r : Ran) → number_of r.cpu.state ≤ 2 → r.steps < 4294967296 → length (opening_of r) ≤ 53
unfolding registers_text
length_opening r h g =
    simp length-append (omega (arith, length_decimal 0 (number_of r.cpu.state) (omega arith), length_decimal 9 r.steps (omega arith)))

length_closing_text : (psw : ProgramStatusWord) {read written both : ℕ} → read < 100000 → written < 100000 → both < 100000
    → length (closing_text psw read written both) ≤ 73
length_closing_text psw {read} {written} {both} r w b =
    simp (length-append, text_length) (omega (arith, length_decimal 4 read (omega arith), length_decimal 4 written (omega arith), length_decimal 4 both (omega arith)))

length_closing : (o : Outcome World Ran) → length (closing_of o) ≤ 73
length_closing o =
    let most = few o.left.reads o.left.writes in
    length_closing_text o.result.cpu.psw (omega (arith, most.read)) (omega (arith, most.stored)) (omega (arith, most.read))

-- ---- the theorem

module _ (input : List ℕ) (bytes : Bytes input) where
  run_fits : Fits (reported (take 12 input) (run_on input))
  run_fits =
      let s = small (edition_of (edition_byte input)) (budget_of input) (registers_of (take 7 (drop 5 input))) (drop 12 input) in
      let most : budget_of input < 4294967296 = omega (arith, bytes 1, bytes 2, bytes 3, bytes 4) in
      record {
        opening = omega (arith, length_opening (run_on input).result s.stop (omega (arith, s.steps)));
        closing = omega (arith, length_closing (run_on input));
      }

  pub fits : Fits (session_of input)
  unfolding session_of
  fits = go (eqb (length input) 65548) (is_edition (edition_byte input))
    where
      go : (b c : Bool)
          → Fits (cond b (cond c (reported (take 12 input) (run_on input)) (refused (text "refused 9\n") input)) (refused (text "refused 6\n") input))
      go true true = run_fits
      go true false = record { opening = omega arith; closing = omega arith }
      go false c = record { opening = omega arith; closing = omega arith }

  -- So the lines of a report show all of it.
  pub shows_all : {r : Report} {after : List ℕ} → Told (session_of input) r after
      → (shown r.opening ≡ (session_of input).opening) × (shown r.closing ≡ (session_of input).closing)
  shows_all t = (rw t.opening (shown_adds _ fits.opening), rw t.closing (shown_adds _ fits.closing))
