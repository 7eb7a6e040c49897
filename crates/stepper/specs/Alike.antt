-- Where two rows of bytes first differ.
use Rattle.std.specs.Prelude.{ℕ, List, eqb}
use Rattle.std.specs.List.{common_prefix_len}

-- How many bytes two rows begin with alike: the offset of the first that differ, where some do.
abbrev pub alike : List ℕ → List ℕ → ℕ
alike first second = common_prefix_len eqb first second
