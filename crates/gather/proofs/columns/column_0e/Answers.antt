-- What each arm reads is the mode of its rows; that its rows have that mode is computed over the table.
-- Assumes nothing.
use mathlib.Core.Path.{refl}
use mathlib.Core.List.{[], ◌∷◌}
use Rattle.instructions.specs.Rows.{rows}
use Rattle.instructions.specs.Rows.Mode.{absolute, direct, pulled}
use Rattle.instructions.specs.Gather.{gather_of}
use Rattle.gather.proofs.Table.{opcodes, others}
use borrow.Author.Rules.{rules}
use Rattle.memory.proofs.Laws.{accesses}
use Rattle.gather.proofs.columns.column_0e.Goals as goal

pub returns-in-14 : goal.returns-in-14
unfolding rows gather_of
returns-in-14 c = search (accesses, opcodes (14 ∷ 78 ∷ []) absolute refl)

pub returns-in-46 : goal.returns-in-46
unfolding rows gather_of
returns-in-46 c = search (accesses, opcodes (46 ∷ 110 ∷ []) direct refl)

pub returns-in_default : goal.returns-in_default
unfolding rows gather_of
returns-in_default c = search (accesses, others 14 ((46 ∷ 110 ∷ []) ∷ (14 ∷ 78 ∷ []) ∷ []) pulled refl tt)
