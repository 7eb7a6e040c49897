-- The bytes of an SPC file that have no name: where they stand, and the default of each. Both ways between a state record and a file go by
-- this page.
use Rattle.std.specs.Prelude.{ℕ, suc, ◌-◌, ◌<◌, Bool, true, false, cond, ◌≡◌, leb, length, get_or}
use mathlib.Core.List.{List, [], ◌∷◌, List-discrete}
use Rattle.std.proofs.Math.Logic.{ite}
use Rattle.std.proofs.Math.Decide.{ℕ_discrete}

-- A byte of a file has a name, or it is unnamed and has a default.
pub data Place : Type 0 where
  named : Place
  unnamed : (default : ℕ) → Place

-- the defaults of 33 to 36
abbrev pub first_four : List ℕ
first_four = 26 ∷ 26 ∷ 27 ∷ 30 ∷ []

-- From a file's beginning to its end: the signature, up to 32; the first four unnamed bytes, up to 36; the record, up to 43; unnamed bytes
-- up to 255, with zero as their default; the memory, up to 65,791; unnamed bytes to the end, with zero.
unfoldable pub place_at : ℕ → Place
place_at at =
    cond (leb at 32) named
    (cond (leb at 36) (unnamed (get_or first_four (at - 33) 0))
    (cond (leb at 43) named
    (cond (leb at 255) (unnamed 0)
    (cond (leb at 65791) named (unnamed 0)))))

-- The byte at a place is unnamed.
pub record Unnamed (p : Place) : Type 0 where
  pub default : ℕ
  pub is : p ≡ unnamed default

-- the default in place of an unnamed byte; a byte that has a name as it is
abbrev pub or_default : Place → ℕ → ℕ
or_default named byte = byte
or_default (unnamed default) byte = default

-- the bytes from an offset on, with its default in place of every unnamed one
unfoldable pub defaults_from : ℕ → List ℕ → List ℕ
defaults_from at [] = []
defaults_from at (byte ∷ bytes) = or_default (place_at at) byte ∷ defaults_from (suc at) bytes

-- A file with its default in place of every unnamed byte.
abbrev pub with_defaults : List ℕ → List ℕ
with_defaults file = defaults_from 0 file

-- Whether every unnamed byte of a file has its default: the file is then the one with its defaults.
unfoldable pub all_default : List ℕ → Bool
all_default file = ite (List-discrete ℕ_discrete (with_defaults file) file) true false

-- The same, byte by byte. That both say one thing is proved (Theorems: `default_each`, `each_default`).
abbrev pub EachDefault : List ℕ → Type 0
EachDefault file = (at default : ℕ) → at < length file → place_at at ≡ unnamed default → get_or file at 0 ≡ default
