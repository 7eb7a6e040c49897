-- The two tests are the definition's; nothing is stored in an input that is refused.
-- Assumes nothing.
use Rattle.std.proofs.Common.{◌≡◌, refl, ℕ, ◌≢◌, List, length, rules, eq-eqb, ne_eqb, Ok, Err}
use Rattle.refusals.specs.declared.Refusal.{Refusal}
use Rattle.editions.specs.Editions.{edition_named}
use Rattle.editions.specs.declared.Edition.{Edition}
use Rattle.text.specs.Line.{blank, adds}
use Rattle.text.specs.Quoted.{text}
use Rattle.text.specs.declared.Line.{Line}
use Rattle.engine.proofs.Refused.{edition_ok, edition_err}
use Rattle.stepper.specs.Session.{edition_byte, compared, compared_in, refused, session_of}
use Rattle.stepper.specs.Told.{Told}
use Rattle.stepper.proofs.session.Goals as goal

module _ (input : List ℕ) where
  -- a line of which the text was written on a new one
  says : (line : List ℕ) {first r : Line} → first ≡ blank → r ≡ adds first line → Told (refused line input) r input
  unfolding adds
  says line f e = rw (e, f) (record { printed = refl; left = refl })

  wrong_length : {r : Line} → length input ≢ 131087 → Told (refused (text "refused 6\n") input) r input → Told (session_of input) r input
  unfolding session_of
  wrong_length n t = rw (ne_eqb _ _ n) t

  module _ {r : Line} (size : length input ≡ 131087) where
    no_edition : {e : Refusal} → Err e ≡ edition_named (edition_byte input) → Told (refused (text "refused 9\n") input) r input
        → Told (session_of input) r input
    unfolding session_of
    no_edition e t = rw (eq-eqb _ _ size, (edition_err (edition_byte input) e).0) t

    accepts : {edition : Edition} {after : List ℕ} → Ok edition ≡ edition_named (edition_byte input)
        → Told (compared_in edition input) r after → Told (session_of input) r after
    unfolding session_of compared
    accepts e t = let is = edition_ok (edition_byte input) e in rw (eq-eqb _ _ size, is.0, ← is.1) t

pub returns-in_default : goal.returns-in_default
unfolding adds
returns-in_default c = wrong_length _ c.in_default.ensures.cases (search (rules, says))

pub returns-in_default-try_from : goal.returns-in_default-try_from
returns-in_default-try_from c =
    let input = c.in-Some.ensures.cases in
    rw input.same (no_edition _ input.long (rw input.same at c.in_default-try_from.ensures) (search (rules, says)))

pub returns : goal.returns
returns c =
    let input = c.in-Some.ensures.cases in
    accepts _ input.long (rw input.same at c.in-Ok.ensures) (rw input.same at c.accepted.ensures)
