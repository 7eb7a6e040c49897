-- The buffer starts with the lines that were given, and is as it was behind them.
use Rattle.listing.specs.Session.{lines_of}
use Rattle.listing.specs.Turns.{left}
use Rattle.listing.proofs.Laid.{Laid}
use Rattle.listing.proofs.program.write.Given as goal

abbrev pub invariant-loop-line : goal.invariant-loop-line
invariant-loop-line l =
    (goal.iterator-loop-line).can_next l.line-iterator
    × (goal.iterator-loop-line).is_finite l.line-iterator
    × Laid (lines_of 0 l.address l.code) l.initial.out l.out l.done (left l.line-iterator)
