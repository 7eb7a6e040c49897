-- What each arm reads is the mode of its rows; that its rows have that mode is computed over the table.
-- Assumes nothing.
use mathlib.Core.Path.{refl}
use mathlib.Core.List.{[], ◌∷◌}
use Rattle.memory.proofs.Laws.{accesses}
use Rattle.instructions.specs.Rows.{rows}
use Rattle.instructions.specs.Rows.Mode.{absolute, direct, direct_x, implied}
use Rattle.instructions.specs.Gather.{gather_of}
use Rattle.gather.proofs.Table.{opcodes, others}
use borrow.Author.Rules.{rules}
use Rattle.gather.proofs.columns.column_1e.Goals as goal

pub returns-in-30 : goal.returns-in-30
unfolding rows gather_of
returns-in-30 c = search (accesses, opcodes (30 ∷ 94 ∷ []) absolute refl)

pub returns-in-62 : goal.returns-in-62
unfolding rows gather_of
returns-in-62 c = search (accesses, opcodes (62 ∷ 126 ∷ []) direct refl)

pub returns-in-222 : goal.returns-in-222
unfolding rows gather_of
returns-in-222 c = search (accesses, opcodes (222 ∷ []) direct_x refl)

pub returns-in_default : goal.returns-in_default
unfolding rows gather_of
returns-in_default c = search (accesses, others 30 ((222 ∷ []) ∷ (62 ∷ 126 ∷ []) ∷ (30 ∷ 94 ∷ []) ∷ []) implied refl tt)
