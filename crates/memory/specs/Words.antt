-- Words in memory: the low byte at an address, the high byte at the next; the address wraps at 65,536.
use Rattle.std.specs.Prelude.{ℕ, ◌+◌, ◌*◌, ◌/◌, ◌%◌}
use Rattle.memory.specs.Access.{Access}
use Rattle.memory.specs.Access.Access.{done, read_at, store_at}

abbrev pub next_of : ℕ → ℕ
next_of at = (at + 1) % 65536

unfoldable pub read_word : ℕ → Access ℕ
read_word at = read_at at (λ low. read_at (next_of at) (λ high. done (high * 256 + low)))

-- No instruction uses it: the source prints it.
unfoldable pub write_word : ℕ → ℕ → Access Unit
write_word at word = store_at at (word % 256) (store_at (next_of at) (word / 256) (done tt))
