-- The registers decide, if they differ, and else the stores.
-- Assumes nothing.
use mathlib.Core.Path.{refl}
use Rattle.host.proofs.And.{held, failed}
use Rattle.host.proofs.Registers.{registers_are}
use Rattle.host.proofs.beside.are_alike.Goals as goal

pub returns-then-eq : goal.returns-then-eq
returns-then-eq c =
    let same = registers_are c.args.a.cpu c.args.b.cpu c.if-eq.ensures in
    held same refl c.same_stores.ensures

pub returns-else-eq : goal.returns-else-eq
returns-else-eq c =
    let same = registers_are c.args.a.cpu c.args.b.cpu c.if-eq.ensures in
    failed _ same refl c.if-eq.false
