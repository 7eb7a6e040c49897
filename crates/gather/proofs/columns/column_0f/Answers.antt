-- What each arm reads is the mode of its rows; that its rows have that mode is computed over the table.
-- Assumes nothing.
use mathlib.Core.Path.{refl}
use mathlib.Core.List.{[], ◌∷◌}
use Rattle.memory.proofs.Laws.{accesses}
use Rattle.instructions.specs.Rows.{rows}
use Rattle.instructions.specs.Rows.Mode.{break_vector, immediate_to_direct, implied, pulled_word, to_x, upper_page}
use Rattle.instructions.specs.Gather.{gather_of}
use Rattle.gather.proofs.Table.{opcodes, others}
use borrow.Author.Rules.{rules}
use Rattle.gather.proofs.Found.{aimed_by}
use Rattle.gather.proofs.columns.column_0f.Goals as goal

pub returns-in-15 : goal.returns-in-15
unfolding rows gather_of
returns-in-15 c = search (accesses, opcodes (15 ∷ []) break_vector refl)

pub returns-in-79 : goal.returns-in-79
unfolding rows gather_of
returns-in-79 c = search (accesses, opcodes (79 ∷ []) upper_page refl)

pub returns-in-111 : goal.returns-in-111
unfolding rows gather_of
returns-in-111 c = search (accesses, opcodes (111 ∷ []) pulled_word refl)

pub returns-in-143 : goal.returns-in-143
unfolding rows gather_of
returns-in-143 c = search (accesses, opcodes (143 ∷ []) immediate_to_direct refl)

pub returns-in-175 : goal.returns-in-175
unfolding rows gather_of
returns-in-175 c = search (accesses, opcodes (175 ∷ []) to_x refl, aimed_by)

pub returns-in_default : goal.returns-in_default
unfolding rows gather_of
returns-in_default c = search (accesses, others 15 ((175 ∷ []) ∷ (143 ∷ []) ∷ (111 ∷ []) ∷ (79 ∷ []) ∷ (15 ∷ []) ∷ []) implied refl tt)
