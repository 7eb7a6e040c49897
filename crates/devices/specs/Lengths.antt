-- Devices have three timers and four ports, whatever steps do to them. In the code the types say so.
-- Assumes nothing.
use Rattle.std.specs.Prelude.{◌≡◌, ℕ, suc, ◌+◌, Bool, true, false, cond, List, [], ◌∷◌, length, refl}
use Rattle.std.proofs.Common.{ap, ◌∙◌}
use Rattle.devices.specs.declared.Devices.{Devices}
use Rattle.devices.specs.Devices.{bit, byte, started, numbered, after_reads, controlled, aimed_all, after_stores, passed}

-- as many timers and ports as there are
pub record Full (d : Devices) : Type 0 where
  pub timers : length d.timers ≡ 3
  pub ports : length d.ports ≡ 4

pub length_numbered : {A : Type 0} (k : ℕ) (f : ℕ → A → A) (xs : List A) → length (numbered k f xs) ≡ length xs
length_numbered k f [] = refl
length_numbered k f (x ∷ xs) = ap suc (length_numbered (k + 1) f xs)

pub started_full : (memory : List ℕ) → Full (started memory)
started_full memory = record { timers = refl; ports = refl }

pub after_reads_full : (read : ℕ) (d : Devices) → Full d → Full (after_reads read d)
unfolding after_reads
after_reads_full read d full = record { timers = length_numbered 13 _ d.timers ∙ full.timers; ports = full.ports }

controlled_full : (control : ℕ) (d : Devices) → Full d → Full (controlled control d)
unfolding controlled
controlled_full control d full = record {
  timers = length_numbered 0 _ d.timers ∙ full.timers;
  ports = length_numbered 0 _ d.ports ∙ full.ports;
}

pub after_stores_full : (stored : ℕ) (memory : List ℕ) (d : Devices) → Full d → Full (after_stores stored memory d)
unfolding after_stores aimed_all
after_stores_full stored memory d full =
    let next = go (bit stored 1) in
    record { timers = length_numbered 10 _ _ ∙ next.timers; ports = next.ports }
  where
    go : (b : Bool) → Full (cond b (controlled (byte memory 0xF1) d) d)
    go true = controlled_full (byte memory 0xF1) d full
    go false = full

pub passed_full : (n : ℕ) (d : Devices) → Full d → Full (passed n d)
unfolding passed
passed_full n d full = record { timers = length_numbered 0 _ d.timers ∙ full.timers; ports = full.ports }
