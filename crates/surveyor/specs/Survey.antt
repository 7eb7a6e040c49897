-- The program `survey`: what it answers to an input, in bytes.
use Rattle.std.specs.Prelude.{ℕ, ◌/◌, ◌%◌, Bool, false, cond, List, [], ◌∷◌, eqb, length, take, drop}
use Rattle.text.specs.Quoted.{text}
use Rattle.marks.specs.Maps.{is_marked}
use Rattle.differences.specs.declared.Stretch.{Stretch}
use Rattle.differences.specs.Stretches.{stretches_from, touched}
use Rattle.differences.specs.Calls.{stretches_of, numbers_of}

-- The maximal stretches of addresses that a map marks, of all 65,536.
abbrev pub marked_stretches : List ℕ → List Stretch
marked_stretches map = stretches_from (is_marked map) 0 65536

-- Numbers as bytes, two each, low first.
unfoldable pub in_bytes : List ℕ → List ℕ
in_bytes [] = []
in_bytes (n ∷ rest) = n % 256 ∷ n / 256 ∷ in_bytes rest

-- An answer: 1 if a stretch touches a mark, else 0; then first and last address of every stretch, four bytes each.
abbrev pub answer : Bool → List Stretch → List ℕ
answer touch stretches = cond touch 1 0 ∷ in_bytes (numbers_of stretches)

-- Of a map: its marked stretches. Of two memories, one behind the other: the stretches at which they differ; where a map stands before
-- them, also whether one of these touches a mark of it.
abbrev pub of_map : List ℕ → List ℕ
of_map map = answer false (marked_stretches map)

abbrev pub of_memories : List ℕ → List ℕ
of_memories input = answer false (stretches_of (take 65536 input) (drop 65536 input))

abbrev pub of_all : List ℕ → List ℕ
of_all input =
    let stretches = stretches_of (take 65536 (drop 8192 input)) (drop 73728 input) in
    answer (touched (is_marked (take 8192 input)) stretches) stretches

-- Which of the three an input is, is told by its length: 8,192, 131,072 or 139,264 bytes. Any other is answered by the line `refused 6`,
-- which no answer begins like.
unfoldable pub survey_of : List ℕ → List ℕ
survey_of input =
    cond (eqb (length input) 8192) (of_map input)
    (cond (eqb (length input) 131072) (of_memories input)
    (cond (eqb (length input) 139264) (of_all input) (text "refused 6\n")))
