-- What each arm reads is the mode of its rows; that its rows have that mode is computed over the table.
-- Assumes nothing.
use mathlib.Core.Path.{refl}
use Rattle.instructions.specs.Rows.{rows}
use Rattle.instructions.specs.Rows.Mode.{direct_direct}
use Rattle.instructions.specs.Gather.{gather_of}
use Rattle.gather.proofs.Table.{first_six, last_two}
use borrow.Author.Rules.{rules}
use Rattle.memory.proofs.Laws.{accesses}
use Rattle.gather.proofs.Found.{at_absolute}
use Rattle.gather.proofs.columns.column_09.Goals as goal

pub returns-then-op-lt192 : goal.returns-then-op-lt192
unfolding rows gather_of
returns-then-op-lt192 c = search (accesses, first_six 9 direct_direct refl)

pub returns : goal.returns
unfolding rows at_absolute
returns c = search (accesses, last_two 9 at_absolute refl)
