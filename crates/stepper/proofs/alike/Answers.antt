-- The bytes are compared in pairs, and those pairs are counted that are alike from the first one on.
-- Assumes nothing.
use Rattle.std.proofs.Common.{◌≡◌, ℕ, Bool, List, [], ◌∷◌, eqb, refl, ◌∙◌, arith}
use Rattle.std.specs.List.{zip, prefix_len, common_prefix_len}
use Rattle.std.proofs.lemmas.List.Folds.{length-prefix_len}
use Rattle.std.proofs.lemmas.Iterator.{YieldsList-from_slice, YieldsList-from_zip}
use Rattle.std.proofs.lemmas.Iterator.Consumers.{YieldsList-at, count_from_yields_List}
use Rattle.std.proofs.lemmas.Iterator.Search.{YieldsList-from_take_while}
use Rattle.stepper.proofs.alike.Goals as goal

abbrev pair_alike : ℕ × ℕ → Bool
pair_alike p = eqb p.0 p.1

-- As many pairs of both rows are alike as bytes are.
in_pairs : (first second : List ℕ) → prefix_len pair_alike (zip first second) ≡ common_prefix_len eqb first second
in_pairs [] second = refl
in_pairs (a ∷ first) [] = refl
in_pairs (a ∷ first) (b ∷ second) = rw (in_pairs first second)

pub returns : goal.returns
returns c =
    let first = c.args.first.now in
    let second = c.args.second.now in
    count_from_yields_List _ _ c.count.ensures.ran
    (YieldsList-from_take_while _ pair_alike
    (YieldsList-at c.take_while.ensures.source
    (YieldsList-from_zip (YieldsList-at c.zip-pairs.ensures.first (YieldsList-from_slice first c.iter.ensures.rest)) (YieldsList-from_slice second c.zip-pairs.ensures.second.0)))
    c.take_while.ensures.closure c.take_while.ensures.done (λ x b q k. grind (arith, k)))
    ∙ length-prefix_len pair_alike (zip first second) ∙ in_pairs first second
