-- The row has two numbers for each stretch that there can be, so the comparison is not refused; what the row then begins with is given.
-- Assumes nothing.
use Rattle.std.proofs.Common.{refl, sym, length-take-le}
use Rattle.surveyor.proofs.Comparing.{not_refused, within_row, given_compared}
use Rattle.surveyor.proofs.compare.Goals as goal

pub returns-in_err-found : goal.returns-in_err-found
returns-in_err-found c = absurd (not_refused _ _ _ c.requires.memories c.requires.map 65536 refl c.between.ensures c.in_err-found.was)

pub slice_bounds-row-end : goal.slice_bounds-row-end
slice_bounds-row-end c = within_row _ _ _ c.requires.memories c.requires.map 65536 refl c.between.ensures c.in_ok-found.was

pub slice_bounds-numbers-end : goal.slice_bounds-numbers-end
slice_bounds-numbers-end c =
    sym (length-take-le _ c.between.new.row (within_row _ _ _ c.requires.memories c.requires.map 65536 refl c.between.ensures c.in_ok-found.was))

pub returns : goal.returns
returns c = given_compared _ _ _ c.requires.memories c.requires.map 65536 refl c.between.ensures c.in_ok-found.was c.give.ensures
