-- The named opcodes are corrected ones, and of the others just those that end in 3: both are computed over all 256.
-- Assumes nothing.
use Rattle.std.proofs.Common.{◌≡◌, ℕ, ◌%◌, Bool, true, false, not, eqb, List, [], ◌∷◌, sym, refl, ◌∙◌, w8, Fits, rules}
use types.Run.{OneOf}
use mir.Val.{has_key}
use Rattle.laws.specs.Dispatch.{NoneIn, has_in, held, none_then}
use Rattle.laws.specs.Table.{where_same}
use Rattle.listing.specs.Operands.{branches_on_direct_page}
use Rattle.listing.specs.Instruction.{modes_at}
use Rattle.listing.specs.Order.{corrected, the_corrected}
use Rattle.listing.proofs.branches_on_direct_page.Goals as goal

-- CBNE d, DBNZ d and CBNE d+X
abbrev keys : List ℕ
keys = 0x2E ∷ 0x6E ∷ 0xDE ∷ []

abbrev other : ℕ → Bool
other k = not (has_in (keys ∷ []) k)

named : (opcode : ℕ) → Fits w8 opcode → OneOf keys opcode → true ≡ branches_on_direct_page (modes_at opcode)
named opcode h one =
    where_same 256 (has_key keys) false (λ k. true) corrected refl opcode h.fits (held keys opcode one)
    ∙ sym (the_corrected opcode h.fits)

in_three : (opcode : ℕ) → Fits w8 opcode → NoneIn (keys ∷ []) opcode → eqb (opcode % 16) 3 ≡ branches_on_direct_page (modes_at opcode)
in_three opcode h none =
    where_same 256 other false (λ k. eqb (k % 16) 3) corrected refl opcode h.fits
    (none_then 256 other (λ k. k) (keys ∷ []) opcode h.fits none tt)
    ∙ sym (the_corrected opcode h.fits)

pub returns-in-46 : goal.returns-in-46
returns-in-46 c = search (rules, named)

pub returns-in_default : goal.returns-in_default
returns-in_default c = search (rules, in_three)
