-- The two tests are the definition's; nothing is stored in an input that is refused.
-- Assumes nothing.
use Rattle.std.proofs.Common.{◌≡◌, refl, ℕ, ◌≢◌, List, length, take, rules, eq-eqb, ne_eqb, Ok, Err}
use Rattle.refusals.specs.declared.Refusal.{Refusal}
use Rattle.editions.specs.Editions.{edition_named}
use Rattle.editions.specs.declared.Edition.{Edition}
use Rattle.text.specs.Line.{blank, adds}
use Rattle.text.specs.Quoted.{text}
use Rattle.text.specs.declared.Line.{Line}
use Rattle.engine.proofs.Refused.{edition_ok, edition_err}
use Rattle.runner.specs.Session.{edition_byte, run_in, session_of, reported, refused}
use Rattle.runner.specs.Told.{Told}
use Rattle.runner.specs.declared.Report.{Report}
use Rattle.runner.proofs.session.Goals as goal

module _ (input : List ℕ) where
  -- a line alone, of which the text was written on a new one
  says : (line : List ℕ) {first opening : Line} {r : Report} → first ≡ blank → opening ≡ adds first line
      → r ≡ record { opening = opening; closing = blank } → Told (refused line input) r input
  unfolding adds
  says line f o e = rw (e, o, f) (record { opening = refl; closing = refl; left = refl })

  wrong_length : {r : Report} → length input ≢ 65548 → Told (refused (text "refused 6\n") input) r input → Told (session_of input) r input
  unfolding session_of
  wrong_length n t = rw (ne_eqb _ _ n) t

  module _ {r : Report} (size : length input ≡ 65548) where
    no_edition : {e : Refusal} → Err e ≡ edition_named (edition_byte input) → Told (refused (text "refused 9\n") input) r input
        → Told (session_of input) r input
    unfolding session_of
    no_edition e t = rw (eq-eqb _ _ size, (edition_err (edition_byte input) e).0) t

    accepts : {edition : Edition} {after : List ℕ} → Ok edition ≡ edition_named (edition_byte input)
        → Told (reported (take 12 input) (run_in edition input)) r after → Told (session_of input) r after
    unfolding session_of
    accepts e t = let is = edition_ok (edition_byte input) e in rw (eq-eqb _ _ size, is.0, ← is.1) t

pub returns-in_default : goal.returns-in_default
unfolding adds
returns-in_default c = wrong_length _ c.in_default.ensures.cases (search (rules, says))

pub returns-in_default-try_from : goal.returns-in_default-try_from
returns-in_default-try_from c =
    let input = c.in-Some.ensures.cases in
    rw input.same (no_edition _ input.long (rw input.same at c.in_default-try_from.ensures) (search (rules, says)))

pub returns : goal.returns
returns c =
    let input = c.in-Some.ensures.cases in
    accepts _ input.long (rw input.same at c.in-Ok.ensures) (rw input.same at c.accepted.ensures)
