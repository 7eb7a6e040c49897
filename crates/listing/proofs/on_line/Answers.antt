-- No operands are no modes, and then no blank: the name is all. Otherwise a blank and the text of the modes stand behind it, with the two
-- operand bytes exchanged in the branches on the direct page.
-- Assumes nothing.
use Rattle.std.proofs.Common.{◌≡◌, ℕ, ◌+◌, ◌<◌, ◌≤◌, Bool, true, false, T, List, [], ◌∷◌, ◌++◌, length, length-take, sym, refl, ◌∙◌, append-nil, arith, w8, Fits, rules}
use Prim.Native.Char.{code}
use Rattle.laws.specs.Table.{where_same}
use Rattle.text.specs.Line.{pushed, adds}
use Rattle.text.specs.declared.Line.{Line}
use Rattle.text.specs.Quoted.{text}
use Rattle.text.proofs.Laws.{and_byte, then_text}
use Rattle.opcodes.specs.Opcodes.{constants}
use Rattle.opcode_data.specs.Format.{modes_text}
use Rattle.opcode_data.specs.Lists.{list_of}
use Rattle.opcode_data.specs.declared.AddressMode.{AddressMode}
use Rattle.opcode_data.specs.declared.Modes.{Modes}
use Rattle.opcode_data.specs.declared.OpcodeData.{OpcodeData}
use Rattle.opcode_data.specs.Data.{data_of}
use Rattle.listing.specs.Operands.{branches_on_direct_page}
use Rattle.listing.specs.Instruction.{modes_at, length_of, letters, instruction_text}
use Rattle.listing.specs.Order.{corrected, the_corrected, formatted, formatted_text, others, exchanged, exchanges}
use Rattle.listing.proofs.on_line.Goals as goal

some_operands : (m : Modes) (bytes : List ℕ) → length m.three ≡ 3 → (m.count ≡ 0 → ⊥)
    → formatted (list_of m) bytes ≡ text " " ++ modes_text (list_of m) bytes
some_operands m bytes three h = go (list_of m) (rw length-take (omega arith))
  where
    go : (ms : List AddressMode) → 0 < length ms → formatted ms bytes ≡ text " " ++ modes_text ms bytes
    go [] some = absurd (omega arith)
    go (m ∷ ms) some = refl

-- a name without operands, and with
name_only : (l r : Line) (opcode : ℕ) (bytes : List ℕ) (d : OpcodeData)
    → r ≡ adds l (letters d.name) → d ≡ data_of opcode → d.modes.count ≡ 0 → r ≡ adds l (instruction_text opcode bytes)
unfolding instruction_text
name_only l r opcode bytes d p e none = rw (← e, none, append-nil) p

with_operands : (l named start r : Line) (opcode : ℕ) (bytes : List ℕ) (d : OpcodeData)
    → r ≡ adds start (modes_text (list_of d.modes) bytes) → start ≡ pushed named (code " ") → named ≡ adds l (letters d.name)
    → d ≡ data_of opcode → length d.modes.three ≡ 3 → (d.modes.count ≡ 0 → ⊥) → r ≡ adds l (formatted_text opcode bytes)
with_operands l named start r opcode bytes d o b n e three some =
    let operands = modes_text (list_of d.modes) bytes in
    rw (← e, some_operands d.modes bytes three some)
    (then_text l named r (letters d.name) (text " " ++ operands) (and_byte named start r (code " ") operands b o) n)

-- by the code's own test: the bytes that are read are there, and which form the text has
three_bytes : (opcode : ℕ) → opcode < 256 → T (corrected opcode) → length_of opcode ≡ 3
unfolding data_of constants length_of
three_bytes = where_same 256 corrected 3 length_of (λ k. 3) refl

module _ (opcode : ℕ) (bytes : List ℕ) (b : Bool) (e : b ≡ branches_on_direct_page (modes_at opcode)) (fits : Fits w8 opcode) where
  tested : {t : Bool} → b ≡ t → corrected opcode ≡ t
  tested q = sym (the_corrected opcode fits.fits) ∙ sym e ∙ q

  both_there : b ≡ true → length_of opcode ≤ length bytes + 1 → 1 < length bytes
  both_there q enough = omega (arith, three_bytes opcode fits.fits (rw (tested q) tt))

  first_there : b ≡ true → length_of opcode ≤ length bytes + 1 → 0 < length bytes
  first_there q enough = omega (arith, both_there q enough)

  module _ (l named start r : Line) (d : OpcodeData) (s : start ≡ pushed named (code " ")) (n : named ≡ adds l (letters d.name))
      (o : d ≡ data_of opcode) (three : length d.modes.three ≡ 3) (some : d.modes.count ≡ 0 → ⊥) where
    in_order : b ≡ false → r ≡ adds start (modes_text (list_of d.modes) bytes) → r ≡ adds l (instruction_text opcode bytes)
    in_order q p = rw (others bytes opcode fits.fits (tested q)) (with_operands l named start r opcode bytes d p s n o three some)

    in_exchange : b ≡ true → r ≡ adds start (modes_text (list_of d.modes) (exchanged bytes)) → r ≡ adds l (instruction_text opcode bytes)
    in_exchange q p =
        rw (exchanges bytes opcode fits.fits (tested q)) (with_operands l named start r opcode (exchanged bytes) d p s n o three some)

pub returns-then-data-eq0 : goal.returns-then-data-eq0
returns-then-data-eq0 c = search (rules, name_only)

pub bounds-operands-0 : goal.bounds-operands-0
bounds-operands-0 c = search (rules, first_there)

pub bounds-operands-1 : goal.bounds-operands-1
bounds-operands-1 c = search (rules, both_there)

pub returns-then-branches_on_direct_page : goal.returns-then-branches_on_direct_page
returns-then-branches_on_direct_page c = search (rules, in_exchange)

pub returns : goal.returns
returns c = search (rules, in_order)
