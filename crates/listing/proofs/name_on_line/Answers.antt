-- Each letter of the name is pushed behind those before it, and no blank.
-- Assumes nothing.
use Rattle.std.proofs.Common.{◌≡◌, ℕ, not, eqb, List, [], ◌∷◌, Bool, true, false, cond, filter, refl, ap, rules}
use borrow.Author.Tests.{tests}
use Rattle.std.proofs.lemmas.Iterator.{YieldsList-from_slice}
use Rattle.std.proofs.lemmas.Iterator.Consumers.{YieldsList-from_filter, YieldsList-at}
use Rattle.text.proofs.Laws.{pushed_each}
use Rattle.listing.specs.Instruction.{letters}
use Rattle.listing.proofs.name_on_line.Goals as goal

-- the letters as a filter has them
filtered : (cs : List ℕ) → filter (λ c. not (eqb c 32)) cs ≡ letters cs
filtered [] = refl
filtered (c ∷ cs) = go (eqb c 32) (filtered cs)
  where
    go : (blank : Bool) {more rest : List ℕ} → more ≡ rest → cond (not blank) (c ∷ more) more ≡ cond blank rest (c ∷ rest)
    go true e = e
    go false e = ap (λ l. c ∷ l) e

pub returns : goal.returns
returns c =
    rw filtered
    at (pushed_each _ _ (λ m n x left called. search rules)
    (YieldsList-from_filter _ (λ c. not (eqb c 32))
    (YieldsList-at c.filter.ensures.source (YieldsList-from_slice _ c.iter.ensures.rest)) c.filter.ensures.closure (λ x r q k. search (rules, tests)))
    c.fold.ensures.ran)
