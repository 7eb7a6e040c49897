-- The first line is followed by those of the code that is left.
-- Assumes nothing.
use Rattle.std.proofs.Common.{length, ap, rules}
use Rattle.listing.proofs.Lines.{turns_none, next_turn}
use Rattle.listing.proofs.program.TurnsIterator.next.Goals as goal

pub returns-in_err-line-clause-steps : goal.returns-in_err-line-clause-steps
returns-in_err-line-clause-steps c = let none = turns_none c.args.self.now.address _ c.in_err-line.ensures in rw c.from_residual.ensures (none, none)

pub returns-clause-steps : goal.returns-clause-steps
returns-clause-steps c = next_turn _ _ _ _ c.in_ok-line.ensures

pub returns-clause-goes : goal.returns-clause-goes
returns-clause-goes c = let fewer = ap length (next_turn _ _ _ _ c.in_ok-line.ensures) in search rules
