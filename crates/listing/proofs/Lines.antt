-- The lines one by one are together the listing; each stands for the first bytes of the code that is left.
-- Assumes nothing.
use Rattle.std.proofs.Common.{◌≡◌, ℕ, zero, suc, ◌+◌, ◌-◌, ◌%◌, ◌<◌, ◌≤◌, List, [], ◌∷◌, ◌++◌, length, take, drop, sum_by, refl, ap, sym, ◌∙◌, arith}
use Rattle.std.specs.List.{concat}
use Rattle.std.proofs.lemmas.List.Concat.{concat_is, length-flat_map}
use borrow.Author.Rules.{part_to_end}
use Rattle.laws.specs.Bytes.{Bytes}
use Rattle.text.specs.Line.{shown}
use Rattle.text.specs.declared.Line.{Line}
use Rattle.listing.specs.Lengths.{turn_within, length_lines}
use Rattle.listing.specs.Session.{turn_text, turn_bytes, lines_of}
use Rattle.listing.specs.Turns.{Turned, turns_of}

-- Bytes that belong to the instruction before are passed over.
turns_behind : (before address : ℕ) (code : List ℕ) → address < 65536
    → turns_of before address code ≡ turns_of 0 ((address + before) % 65536) (drop before code)
unfolding turns_of
turns_behind zero address code h =
    let same : (address + 0) % 65536 ≡ address = omega arith in
    rw same
turns_behind (suc before) address [] h = refl
turns_behind (suc before) address (byte ∷ code) h =
    let same : ((address + 1) % 65536 + before) % 65536 ≡ (address + suc before) % 65536 = omega arith in
    rw (← same) (turns_behind before ((address + 1) % 65536) code (omega arith))

-- The first line, and the lines of the bytes behind those that it stands for.
turns_first : (address : ℕ) (code : List ℕ) → 0 < length code
    → turns_of 0 address code ≡ turn_text address code ∷ turns_of 0 ((address + turn_bytes code) % 65536) (drop (turn_bytes code) code)
unfolding turns_of
turns_first address [] some = absurd (omega arith)
turns_first address (opcode ∷ code) some = rw (← behind (turn_bytes (opcode ∷ code)) (turn_within (opcode ∷ code) some).0)
  where
    behind : (n : ℕ) → 0 < n
        → turns_of (n - 1) ((address + 1) % 65536) code ≡ turns_of 0 ((address + n) % 65536) (drop n (opcode ∷ code))
    behind zero h = absurd (omega arith)
    behind (suc n) h =
        let less : suc n - 1 ≡ n = omega arith in
        let same : ((address + 1) % 65536 + n) % 65536 ≡ (address + suc n) % 65536 = omega arith in
        rw (less, ← same) (turns_behind n ((address + 1) % 65536) code (omega arith))

-- the same of a line that the code has written
pub next_turn : (address n : ℕ) (code : List ℕ) (line : Line) → Turned code address line n
    → turns_of 0 address code ≡ shown line ∷ turns_of 0 ((address + n) % 65536) (take (length code - n) (drop n code))
next_turn address n code line turned = rw (turned.text, turned.stands, part_to_end) (turns_first address code turned.some)

pub turns_none : (address : ℕ) (code : List ℕ) → length code ≡ 0 → turns_of 0 address code ≡ []
unfolding turns_of
turns_none address [] h = refl
turns_none address (opcode ∷ code) h = absurd (omega arith)

-- Together they are the listing,
pub all_turns : (before address : ℕ) (code : List ℕ) → concat (turns_of before address code) ≡ lines_of before address code
unfolding turns_of lines_of
all_turns zero address [] = refl
all_turns (suc before) address [] = refl
all_turns (suc before) address (byte ∷ code) = all_turns before ((address + 1) % 65536) code
all_turns zero address (opcode ∷ code) =
    ap (λ l. turn_text address (opcode ∷ code) ++ l) (all_turns (turn_bytes (opcode ∷ code) - 1) ((address + 1) % 65536) code)

-- and as long as that.
pub length_turns : (address : ℕ) (code : List ℕ) → sum_by (λ line. length line) (turns_of 0 address code) ≡ length (lines_of 0 address code)
length_turns address code =
    sym (length-flat_map (λ line. line) (turns_of 0 address code)) ∙ ap length (sym (concat_is (turns_of 0 address code)) ∙ all_turns 0 address code)

-- No listing of so few bytes is too long to be counted.
pub few_lines : (address : ℕ) (code : List ℕ) → Bytes code → length code ≤ 4096 → length (lines_of 0 address code) ≤ 73728
few_lines address code small h = omega (arith, length_lines 0 address code small (omega arith))
