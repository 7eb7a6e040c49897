-- What a part of a step asks of the memory, in order, and what performing it gives.
use Rattle.std.specs.Prelude.{◌≡◌, ℕ}
use Rattle.memory.specs.World.{World, byte_at, seen, kept}

-- nothing more; a read, and what follows by the byte read; a store, and what follows
pub data Access (R : Type 0) : Type 0 where
  done : R → Access R
  read_at : ℕ → (ℕ → Access R) → Access R
  store_at : ℕ → ℕ → Access R → Access R

-- one after the other
unfoldable pub then : {R S : Type 0} → Access S → (S → Access R) → Access R
then (done x) k = k x
then (read_at a p) k = read_at a (λ byte. then (p byte) k)
then (store_at a byte p) k = store_at a byte (then p k)

-- a single read, a single store
abbrev pub ask : ℕ → Access ℕ
ask a = read_at a done

abbrev pub put : ℕ → ℕ → Access Unit
put a byte = store_at a byte (done tt)

-- a result, and what is left of a world
pub record Outcome (W R : Type 0) : Type 0 where
  pub result : R
  pub left : W

abbrev pub outcome : {R : Type 0} → R → World → Outcome World R
outcome x w = record { result = x; left = w }

-- performing it on a world
unfoldable pub perform : {R : Type 0} → Access R → World → Outcome World R
perform (done x) w = outcome x w
perform (read_at a p) w = perform (p (byte_at a w)) (seen a w)
perform (store_at a byte p) w = perform p (kept a byte w)

-- Performing `p` on `w` gives `o`: the form of every contract on memory, up to that of a whole instruction.
pub record Does {R : Type 0} (p : Access R) (w : World) (o : Outcome World R) : Type 0 where
  pub is : o ≡ perform p w
