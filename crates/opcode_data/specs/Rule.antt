-- The rule on the names of the constants loses nothing: one test, computed over all of them.
-- Assumes nothing.
use Rattle.std.specs.Prelude.{ℕ, Bool, false, ◌&&◌, ◌||◌, List, [], ◌∷◌, T, leb, length}
use Rattle.laws.specs.Every.{every}
use Rattle.text.specs.Quoted.{text}
use Rattle.opcodes.specs.Opcodes.{constants}
use Rattle.opcode_data.specs.Data.{Suffix, suffixes, same, words_of}

-- a word is one of the listed suffixes
abbrev pub among : List Suffix → List ℕ → Bool
among [] word = false
among (s ∷ ss) word = same (text s.word) word || among ss word

-- the name fits in five bytes, and behind it stand at most three suffixes, each a listed one
abbrev pub whole : List (List ℕ) → Bool
whole [] = false
whole (name ∷ words) = leb (length name) 5 && leb (length words) 3 && every (among suffixes) words

-- Every suffix of every constant is one of the listed suffixes, no constant has more than three, and no name is longer than five
-- letters. So `found` skips no operand, `record_of` cuts none, and `padded` cuts no name.
pub nothing_lost : T (every (λ c. whole (words_of (text c.name))) constants)
unfolding constants
nothing_lost = tt
