-- Both bytes are read, and the row's operation changes registers alone.
-- Assumes nothing.
use Rattle.std.proofs.Common.{refl}
use Rattle.memory.proofs.Laws.{chain, ends, read_at_lem}
use Rattle.memory.specs.Access.{then}
use Rattle.modes.specs.Modes.{direct_word}
use Rattle.instructions.specs.Gather.{gather_of}
use Rattle.instructions.specs.Rows.Mode.{direct_word as word_of_page}
use Rattle.instructions.specs.Rows.{rows}
use Rattle.by_column.proofs.Laws.{found_then, by_table, registers_alone}
use Rattle.by_column.proofs.Valued.{in_words, word_row, in_words_lem, word_stores, word_taken}
use Rattle.by_column.specs.Columns.{word_group}
use Rattle.by_column.proofs.words.with_word.Goals as goal

pub returns : goal.returns
unfolding rows gather_of direct_word then
returns c = λ edition.
    let h = c.requires.le_row in
    by_table 0x1A in_words word_group word_of_page refl edition _ (word_row _ h) (in_words_lem _ h)
    (found_then _ _ _
    (chain _
    c.fetch-byte.ensures ends)
    (read_at_lem c.direct.ensures
    c.read-low.ensures
    (read_at_lem c.direct-2.ensures c.read-high.ensures
    (registers_alone (word_stores _ h _ _) (word_taken _ h _ _)
    ((rw c.past.ensures at c.word_with.ensures) _ _ _)))))
