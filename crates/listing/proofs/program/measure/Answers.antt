-- The sum of the lines' lengths is the length of the listing, which is never too long to be counted.
-- Assumes nothing.
use Rattle.std.proofs.Common.{length, refl, ◌∙◌, arith, rules}
use Rattle.std.proofs.lemmas.Iterator.{YieldsList-from_map}
use Rattle.std.proofs.lemmas.Iterator.Consumers.{YieldsList-from_first, YieldsList-at, sum_by_from_yields_List, fits_by_from_yields_list}
use Rattle.text.specs.Line.{shown}
use Rattle.listing.specs.Turns.{left}
use Rattle.listing.proofs.Lines.{length_turns, few_lines}
use Rattle.listing.proofs.program.measure.Goals as goal

pub sum-requires-clause-fits : goal.sum-requires-clause-fits
sum-requires-clause-fits c =
    fits_by_from_yields_list (λ line. length line) _ c.map.result _
    (YieldsList-from_map _ (λ line. length line) (YieldsList-at c.map.ensures.source (YieldsList-from_first shown left _ refl)) c.map.ensures.closure
    (λ x r q k. search rules))
    (rw length_turns (omega (arith, few_lines c.args.address c.args.code.now (λ i. (c.type_inv.code i).fits) c.requires)))

pub returns : goal.returns
returns c =
    sum_by_from_yields_List (λ line. length line) _ c.map.result _ c.sum.ensures.ran
    (YieldsList-from_map _ (λ line. length line) (YieldsList-at c.map.ensures.source (YieldsList-from_first shown left _ refl)) c.map.ensures.closure
    (λ x r q k. search rules))
    ∙ length_turns _ _
