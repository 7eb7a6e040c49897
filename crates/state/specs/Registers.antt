-- The register record as seven bytes, which hold no state, and as eight, which do.
use Rattle.std.specs.Prelude.{ℕ, ◌/◌, ◌%◌, Bool, ◌&&◌, cond, List, [], ◌∷◌, ◌++◌, Result, Ok, Err, eqb, length, get_or, take}
use Rattle.refusals.specs.declared.Refusal.{Refusal}
use Rattle.refusals.specs.declared.Refusal.TheVariants.{Form}
use Rattle.waking.specs.States.{number_of, is_state, state_of}
use Rattle.waking.specs.declared.State.TheVariants.{Awake}
use Rattle.psw.specs.Status.{byte_of, flags_of}
use Rattle.processor.specs.Record.{with_state, word_of}
use Rattle.processor.specs.declared.Processor.{Processor}

-- A X Y SP PC-low PC-high PSW
unfoldable pub bytes_of : Processor → List ℕ
bytes_of cpu = cpu.a ∷ cpu.x ∷ cpu.y ∷ cpu.sp ∷ cpu.pc % 256 ∷ cpu.pc / 256 ∷ byte_of cpu.psw ∷ []

-- The record of seven bytes: awake, since they hold no state.
unfoldable pub registers_of : List ℕ → Processor
registers_of bytes = record {
  a = get_or bytes 0 0;
  x = get_or bytes 1 0;
  y = get_or bytes 2 0;
  sp = get_or bytes 3 0;
  pc = word_of (get_or bytes 4 0) (get_or bytes 5 0);
  psw = flags_of (get_or bytes 6 0);
  state = Awake;
}

-- The whole record: the seven bytes, and then the number of its state.
unfoldable pub whole_bytes_of : Processor → List ℕ
whole_bytes_of cpu = bytes_of cpu ++ number_of cpu.state ∷ []

-- Eight bytes are a whole record exactly if the last one is the number of a state.
abbrev pub is_whole : List ℕ → Bool
is_whole bytes = eqb (length bytes) 8 && is_state (get_or bytes 7 0)

-- the record of eight bytes
unfoldable pub whole_of : List ℕ → Processor
whole_of bytes = with_state (state_of (get_or bytes 7 0)) (registers_of (take 7 bytes))

-- What is no whole record is refused as another form.
abbrev pub whole_in : List ℕ → Result Processor Refusal
whole_in bytes = cond (is_whole bytes) (Ok (whole_of bytes)) (Err Form)

-- a number as four bytes, low first
abbrev pub four_bytes : ℕ → List ℕ
four_bytes n = n % 256 ∷ n / 256 % 256 ∷ n / 65536 % 256 ∷ n / 16777216 ∷ []
