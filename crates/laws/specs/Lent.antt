-- What a contract calls a lent slice: the numbers that it holds as a call finds it, and as the call leaves it.
use Rattle.std.specs.Prelude.{ℕ, List}
use denote.Ref.{Bor, MutBor}
use denote.Triple.Both.{Both}

pub record Lent : Type 0 where
  pub entry : List ℕ
  pub exit : List ℕ

-- behind `&`, where nothing changes
abbrev pub shared : Both (Bor (List ℕ)) (Bor (List ℕ)) → Lent
shared slice = record { entry = slice.entry.now; exit = slice.exit.now }

-- behind `&mut`
abbrev pub lent : Both (MutBor (List ℕ)) (MutBor (List ℕ)) → Lent
lent slice = record { entry = slice.entry.now; exit = slice.exit.now }
