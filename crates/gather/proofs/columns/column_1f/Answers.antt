-- What each arm reads is the mode of its rows; that its rows have that mode is computed over the table.
-- Assumes nothing.
use mathlib.Core.Path.{refl}
use mathlib.Core.List.{[], ◌∷◌}
use Rattle.memory.proofs.Laws.{accesses, by}
use Rattle.instructions.specs.Rows.{rows}
use Rattle.instructions.specs.Rows.Mode.{at_x, implied, pulled_three, word, word_at_x}
use Rattle.instructions.specs.Gather.{gather_of, loaded}
use Rattle.gather.proofs.Table.{opcodes, others}
use borrow.Author.Rules.{rules}
use Rattle.gather.proofs.columns.column_1f.Goals as goal

pub returns-in-31 : goal.returns-in-31
unfolding rows gather_of
returns-in-31 c = search (accesses, opcodes (31 ∷ []) word_at_x refl)

pub returns-in-63 : goal.returns-in-63
unfolding rows gather_of
returns-in-63 c = search (accesses, opcodes (63 ∷ 95 ∷ []) word refl)

pub returns-in-127 : goal.returns-in-127
unfolding rows gather_of
returns-in-127 c = search (accesses, opcodes (127 ∷ []) pulled_three refl)

pub returns-in-191 : goal.returns-in-191
unfolding rows gather_of
returns-in-191 c = search (accesses, opcodes (191 ∷ []) at_x refl, by loaded)

pub returns-in_default : goal.returns-in_default
unfolding rows gather_of
returns-in_default c = search (accesses, others 31 ((191 ∷ []) ∷ (127 ∷ []) ∷ (63 ∷ 95 ∷ []) ∷ (31 ∷ []) ∷ []) implied refl tt)
