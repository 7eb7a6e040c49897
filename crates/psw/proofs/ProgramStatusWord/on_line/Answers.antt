-- The flags one behind the other, each as its piece of the text, then the byte between its brackets.
-- Assumes nothing.
use Rattle.std.proofs.Common.{ℕ, Bool, List, rules}
use Rattle.text.specs.Digits.{hex_byte}
use Rattle.std.proofs.lemmas.Iterator.{YieldsList-from_slice}
use Rattle.text.proofs.Laws.{written, then_number, written_each}
use Rattle.psw.specs.Status.{flag_text, status_text}
use Rattle.psw.proofs.ProgramStatusWord.on_line.Goals as goal

-- a name and its flag
abbrev piece : ℕ × Bool → List ℕ
piece named = flag_text named.0 named.1

pub returns : goal.returns
unfolding status_text
returns c =
    let flags = written_each piece _ _ (λ m n x left called. search rules) (YieldsList-from_slice _ c.iter.ensures.rest) c.fold-line.ensures.ran in
    search (rules, written, then_number hex_byte)
