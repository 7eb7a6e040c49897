-- Accesses that stay inside the memory and store bytes, with a fact of their result: what follows them may rest on it.
-- Assumes nothing.
use Prim.Native.Nat.{ℕ, ◌<◌}
use Rattle.memory.specs.World.{World, byte_at, seen, kept}
use Rattle.memory.specs.Access.{Access, then, perform}
use Rattle.memory.specs.Access.Access.{done, read_at, store_at}
use Rattle.memory.specs.Inside.{Bytes, Inside}
use Rattle.memory.proofs.Inside.{bytes_kept}

pub data Within {R : Type 0} (P : R → Type 0) : Access R → Type 0 where
  ends : {x : R} → P x → Within P (done x)
  reads : {a : ℕ} {p : ℕ → Access R} → a < 65536 → ((byte : ℕ) → byte < 256 → Within P (p byte)) → Within P (read_at a p)
  stores : {a byte : ℕ} {p : Access R} → a < 65536 → byte < 256 → Within P p → Within P (store_at a byte p)

-- one after the other
pub follow : {R S : Type 0} {P : S → Type 0} {Q : R → Type 0} {p : Access S} {k : S → Access R}
    → Within P p → ((x : S) → P x → Within Q (k x)) → Within Q (then p k)
unfolding then
follow (ends h) f = f _ h
follow (reads h w) f = reads h (λ byte b. follow (w byte b) f)
follow (stores h b w) f = stores h b (follow w f)

pub inside : {R : Type 0} {P : R → Type 0} {p : Access R} → Within P p → Inside p
inside (ends h) = tt
inside (reads h w) = (h, λ byte b. inside (w byte b))
inside (stores h b w) = (h, b, inside w)

-- Performed on a memory of bytes they leave one, and the fact of their result.
pub performed : {R : Type 0} {P : R → Type 0} {p : Access R} → Within P p → (w : World) → Bytes w
    → P (perform p w).result × Bytes (perform p w).left
unfolding perform
performed (ends h) w m = (h, m)
performed (reads {a = a} h f) w m = performed (f (byte_at a w) (m.below a)) (seen a w) (record { below = m.below })
performed (stores {a = a} {byte = byte} h b v) w m = performed v (kept a byte w) (bytes_kept a byte w b m)
