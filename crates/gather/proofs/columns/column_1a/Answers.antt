-- What each arm reads is the mode of its rows; that its rows have that mode is computed over the table.
-- Assumes nothing.
use mathlib.Core.Path.{refl}
use mathlib.Core.List.{[], ◌∷◌}
use Rattle.instructions.specs.Rows.{rows}
use Rattle.instructions.specs.Rows.Mode.{direct_to_direct, direct_word, to_direct_word}
use Rattle.instructions.specs.Gather.{gather_of}
use Rattle.gather.proofs.Table.{opcodes, others}
use borrow.Author.Rules.{rules}
use Rattle.memory.proofs.Laws.{accesses}
use Rattle.gather.proofs.columns.column_1a.Goals as goal

pub returns-in-218 : goal.returns-in-218
unfolding rows gather_of
returns-in-218 c = search (accesses, opcodes (218 ∷ []) to_direct_word refl)

pub returns-in-250 : goal.returns-in-250
unfolding rows gather_of
returns-in-250 c = search (accesses, opcodes (250 ∷ []) direct_to_direct refl)

pub returns-in_default : goal.returns-in_default
unfolding rows gather_of
returns-in_default c = search (accesses, others 26 ((250 ∷ []) ∷ (218 ∷ []) ∷ []) direct_word refl tt)
