-- What a comparison of two memories gives, with any marks. For the contract of a function that no other crate calls.
use Rattle.std.specs.Prelude.{ℕ, Bool, List}
use Rattle.differences.specs.Stretches.{touched}
use Rattle.differences.specs.Calls.{stretches_of}
use Rattle.surveyor.specs.Survey.{answer}

-- Whether a stretch touches one of the marks, and all stretches.
abbrev pub compared : (ℕ → Bool) → List ℕ → List ℕ → List ℕ
compared mark first second = let stretches = stretches_of first second in answer (touched mark stretches) stretches
