-- Whatever the input, the listing program's answer is at most 73,728 bytes long. That is the length of the program's buffer.
-- Assumes nothing.
use Rattle.std.specs.Prelude.{◌≡◌, ℕ, suc, ◌+◌, ◌*◌, ◌≤◌, Bool, true, false, cond, List, [], ◌∷◌, length, nat_le, Ok, refl}
use Rattle.std.proofs.Common.{arith, leb-true, le-leb}
use Rattle.laws.specs.Bytes.{Bytes}
use Rattle.text.specs.Given.{says, answer_to}
use Rattle.listing.specs.Lengths.{length_lines}
use Rattle.listing.specs.Session.{lines_of, refused_input, session_of}

pub fits : (input : List ℕ) → Bytes input → length (session_of input) ≤ 73728
unfolding session_of
fits [] bytes = omega arith
fits (low ∷ []) bytes = omega arith
fits (low ∷ high ∷ code) bytes = go (nat_le (length code) 4096) refl
  where
    go : (b : Bool) → nat_le (length code) 4096 ≡ b → length (cond b (lines_of 0 (high * 256 + low) code) refused_input) ≤ 73728
    go true e =
        let lines = length_lines 0 (high * 256 + low) code (λ at. bytes (suc (suc at))) (omega arith) in
        omega (arith, leb-true (length code) 4096 e)
    go false e = omega arith

-- So a buffer of that length is never refused.
pub accepts : (input buffer : List ℕ) → Bytes input → length buffer ≡ 73728
    → answer_to (says (session_of input)) buffer ≡ Ok (length (session_of input))
accepts input buffer bytes e = rw (le-leb (length (session_of input)) (length buffer) (omega (arith, fits input bytes)))
