-- A text's length, at most 80, survives the way to 32 bits.
-- Assumes nothing.
use Rattle.std.proofs.Common.{◌≡◌, ℕ, suc, ◌≤◌, Bool, true, false, cond, List, [], ◌∷◌, leb, length, Ok, Err, arith}
use Rattle.laws.specs.Bytes.{Bytes}
use Rattle.refusals.specs.declared.Refusal.TheVariants.{Room, Operands}
use Rattle.text.specs.Given.{says, refuses, answer_to}
use Rattle.listing.specs.Instruction.{instruction_text, is_cut, listed_of}
use Rattle.listing.specs.Lengths.{instruction_fits}
use Rattle.exports.proofs.list_into.Goals as goal

-- no answer has a length above 80
short : (code buffer : List ℕ) → Bytes code → (n : ℕ) → Ok n ≡ answer_to (listed_of code) buffer → n ≤ 80
short [] buffer bytes n e = cc
short (opcode ∷ operands) buffer bytes n e = go (is_cut (opcode ∷ operands)) e
  where
    said : List ℕ
    said = instruction_text opcode operands

    given : (fits : Bool) → Ok n ≡ cond fits (Ok (length said)) (Err Room) → n ≤ 80
    given true e =
        let most = instruction_fits opcode operands (bytes 0) (λ at. bytes (suc at)) in
        let is : n ≡ length said = cc in omega arith
    given false e = cc

    go : (cut : Bool) → Ok n ≡ answer_to (cond cut (refuses Operands) (says said)) buffer → n ≤ 80
    go true e = cc
    go false e = given (leb (length said) (length buffer)) e

pub overflow_cast-result : goal.overflow_cast-result
overflow_cast-result c =
    let bytes : Bytes c.args.code.now = λ at. omega (arith, c.type_inv.code at) in
    omega (arith, short c.args.code.now c.args.text.now bytes _ c.in_ok-length.ensures.answer)
