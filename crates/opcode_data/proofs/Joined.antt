-- A mode on a line, then a comma and the modes behind it, is the text of the whole list.
-- Assumes nothing.
use Rattle.std.proofs.Common.{◌≡◌, ℕ, ◌-◌, ◌≤◌, List, [], ◌∷◌, length, get_or, take, drop, append_assoc, arith}
use borrow.Author.Rules.{part_to_end}
use Rattle.text.specs.Line.{adds}
use Rattle.text.specs.Quoted.{text}
use Rattle.text.specs.declared.Line.{Line}
use Rattle.text.proofs.Laws.{adds_append}
use Rattle.opcode_data.specs.Format.{taken, text_at, modes_text}
use Rattle.opcode_data.specs.declared.AddressMode.{AddressMode}
use Rattle.opcode_data.specs.declared.AddressMode.TheVariants.{A}

-- the modes behind the first, as the code cuts them off
abbrev rest : List AddressMode → List AddressMode
rest ms = take (length ms - 1) (drop 1 ms)

pub joined : (l a b r : Line) (ms : List AddressMode) (bytes : List ℕ) (at : ℕ)
    → r ≡ adds b (modes_text (rest ms) bytes) → b ≡ adds a (text ", ") → a ≡ adds l (text_at (get_or ms 0 A) bytes at)
    → at ≡ taken (rest ms) → 2 ≤ length ms → r ≡ adds l (modes_text ms bytes)
joined l a b r [] bytes at t s q p h = absurd (omega arith)
joined l a b r (m ∷ []) bytes at t s q p h = absurd (omega arith)
joined l a b r (m ∷ n ∷ ms) bytes at t s q p h =
    let all = rw part_to_end at t in
    let behind = rw part_to_end at p in
    simp (all, s, q, behind, adds_append, append_assoc)
