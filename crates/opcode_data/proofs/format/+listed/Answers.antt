-- A mode with the bytes behind those that the modes behind it take, then a comma and these modes.
-- Assumes nothing.
use Rattle.std.proofs.Common.{◌≡◌, ℕ, ◌<◌, List, [], ◌∷◌, length, refl, arith, rules}
use Rattle.text.specs.Line.{adds}
use Rattle.text.specs.declared.Line.{Line}
use Rattle.opcode_data.specs.Format.{modes_text}
use Rattle.opcode_data.specs.declared.AddressMode.{AddressMode}
use Rattle.opcode_data.proofs.Joined.{joined}
use Rattle.opcode_data.proofs.format.+listed.Goals as goal

none : (l : Line) (ms : List AddressMode) (bytes : List ℕ) → length ms < 1 → l ≡ adds l (modes_text ms bytes)
unfolding adds
none l [] bytes h = refl
none l (m ∷ ms) bytes h = absurd (omega arith)

pub returns-in-empty : goal.returns-in-empty
returns-in-empty t c = search (rules, none)

pub returns-in-len1-up : goal.returns-in-len1-up
returns-in-len1-up t c = search (rules, joined)
