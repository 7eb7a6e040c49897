-- The two editions of the pointer rule, their numbers, and the one address that they do not share.
use Rattle.std.specs.Prelude.{ℕ, ◌+◌, ◌*◌, ◌/◌, ◌%◌, Bool, cond, ◌||◌, ◌==◌, Result, Ok, Err}
use Rattle.memory.specs.Words.{next_of}
use Rattle.refusals.specs.declared.Refusal.{Refusal}
use Rattle.refusals.specs.declared.Refusal.TheVariants.{Edition as no_edition}
use Rattle.editions.specs.declared.Edition.{Edition}
use Rattle.editions.specs.declared.Edition.TheVariants.{First, Second}

-- Where the second byte of a pointer of [d+X] and [d]+Y stands, by where its first byte stands. In edition 1, which is the Rust crate's, at
-- the next address. In edition 2, which captures from the part show, at the next address of the same page: behind 00FF comes 0000, behind
-- 01FF comes 0100.
abbrev pub second_at : Edition → ℕ → ℕ
second_at First at = next_of at
second_at Second at = at / 256 * 256 + (at + 1) % 256

-- the numbers of the editions
abbrev pub number_of : Edition → ℕ
number_of First = 1
number_of Second = 2

-- No other number names one.
abbrev pub is_edition : ℕ → Bool
is_edition number = number == 1 || number == 2

-- The edition that a number names. It is asked of no other number, but has to be something there, too.
abbrev pub edition_of : ℕ → Edition
edition_of number = cond (number == 2) Second First

-- The same, where a number that names none is refused.
abbrev pub edition_named : ℕ → Result Edition Refusal
edition_named number = cond (is_edition number) (Ok (edition_of number)) (Err no_edition)
