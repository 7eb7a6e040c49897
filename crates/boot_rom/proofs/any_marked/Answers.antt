-- What `any` answers of the test is what the definition says.
-- Assumes nothing.
use Prim.Native.Nat.{ℕ}
use mathlib.Core.Bool.{not, ◌||◌}
use mathlib.Core.List.{List, [], ◌∷◌}
use mathlib.Core.Path.{◌≡◌, refl, ap, ◌∙◌}
use lib.Dec.{eqb}
use borrow.Author.Rules.{rules}
use borrow.Rule.Slice.PartMut.{mid_of}
use Rattle.std.specs.List.{list_any}
use Rattle.std.proofs.lemmas.Iterator.{YieldsList-from_slice}
use Rattle.std.proofs.lemmas.Iterator.Search.{any_from_yields_List}
use Rattle.std.proofs.Common.{tests}
use Rattle.boot_rom.specs.Inside.{any_marked}
use Rattle.boot_rom.proofs.Part.{last_of}
use Rattle.boot_rom.proofs.any_marked.Goals as goal

by_test : (map : List ℕ) → list_any (λ (byte : ℕ). not (eqb byte 0)) map ≡ any_marked map
unfolding any_marked
by_test [] = refl
by_test (byte ∷ map) = ap (not (eqb byte 0) ||◌) (by_test map)

pub returns : goal.returns
returns c =
    rw (← (last_of _ c.told-map))
    (any_from_yields_List (λ (byte : ℕ). not (eqb byte 0)) _ _ _ c.any.ensures.ran
    (YieldsList-from_slice (mid_of 8184 8 c.args.map.now) c.iter.ensures.rest)
    (λ x b q k. search (rules, tests))
    ∙ by_test _)
