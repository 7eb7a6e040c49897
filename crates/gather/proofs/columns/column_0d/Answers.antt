-- What each arm reads is the mode of its rows; that its rows have that mode is computed over the table.
-- Assumes nothing.
use mathlib.Core.Path.{refl}
use mathlib.Core.List.{[], ◌∷◌}
use Rattle.memory.proofs.Laws.{accesses}
use Rattle.instructions.specs.Rows.{rows}
use Rattle.instructions.specs.Rows.Mode.{immediate, implied}
use Rattle.instructions.specs.Gather.{gather_of}
use Rattle.gather.proofs.Table.{opcodes, others}
use borrow.Author.Rules.{rules}
use Rattle.gather.proofs.columns.column_0d.Goals as goal

pub returns-in-141 : goal.returns-in-141
unfolding rows gather_of
returns-in-141 c = search (accesses, opcodes (141 ∷ 173 ∷ 205 ∷ []) immediate refl)

pub returns-in_default : goal.returns-in_default
unfolding rows gather_of
returns-in_default c = search (accesses, others 13 ((141 ∷ 173 ∷ 205 ∷ []) ∷ []) implied refl tt)
