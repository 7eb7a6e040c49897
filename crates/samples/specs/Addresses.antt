-- Which addresses are fetched: so many from one on, or those of the blocks from one on, of which a last one ends the row.
use Rattle.std.specs.Prelude.{◌≡◌, ℕ, ◌+◌, ◌*◌, ◌%◌, ◌<◌, Bool, false, List, ◌==◌, slice_index}

-- k is one of the n addresses from `at` on, of which 0000 follows FFFF.
pub record Among (n at k : ℕ) : Type 0 where
  pub place : ℕ
  pub within : place < n
  pub there : k ≡ (at + place) % 65536

-- Whether the block at an address is a last one.
abbrev pub is_last : List ℕ → ℕ → Bool
is_last memory at = slice_index memory at % 2 == 1

-- None of the first n blocks from `start` on is a last one; they are nine bytes each.
abbrev pub NoneLast : List ℕ → ℕ → ℕ → Type 0
NoneLast memory n start = (i : ℕ) → i < n → is_last memory ((start + 9 * i) % 65536) ≡ false

-- b is the address of the n-th block from `start` on: there are n before it, none of which is a last one.
pub record Block (memory : List ℕ) (start n b : ℕ) : Type 0 where
  pub there : b ≡ (start + 9 * n) % 65536
  pub going_on : NoneLast memory n start

-- k is one of the nine addresses of one of the first m blocks from `start` on.
pub record InBlocks (memory : List ℕ) (m start k : ℕ) : Type 0 where
  pub number : ℕ
  pub within : number < m
  pub first : ℕ
  pub block : Block memory start number first
  pub inside : Among 9 first k
