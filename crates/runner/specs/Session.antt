-- The runner: what it prints for an input.
use Rattle.std.specs.Prelude.{ℕ, ◌+◌, ◌*◌, cond, List, [], ◌++◌, eqb, length, get_or, take, drop}
use Rattle.text.specs.Digits.{decimal}
use Rattle.text.specs.Quoted.{text}
use Rattle.psw.specs.Status.{status_text}
use Rattle.psw.specs.declared.ProgramStatusWord.{ProgramStatusWord}
use Rattle.processor.specs.Text.{registers_text}
use Rattle.marks.specs.Counts.{three_counts}
use Rattle.marks.specs.declared.Counted.{Counted}
use Rattle.waking.specs.States.{number_of}
use Rattle.memory.specs.World.{World, world}
use Rattle.memory.specs.Access.{Outcome}
use Rattle.editions.specs.Editions.{is_edition, edition_of}
use Rattle.editions.specs.declared.Edition.{Edition}
use Rattle.processor.specs.declared.Processor.{Processor}
use Rattle.state.specs.Registers.{registers_of}
use Rattle.engine.specs.Entry.{told, run_of}
use Rattle.engine.specs.Provenance.{clear}
use Rattle.engine.specs.declared.Ran.{Ran}

-- The input: the number of the edition; four bytes of budget, low first; A X Y SP PC-low PC-high PSW; the memory.
abbrev pub edition_byte : List ℕ → ℕ
edition_byte input = get_or input 0 0

abbrev pub budget_of : List ℕ → ℕ
budget_of input = get_or input 1 0 + 256 * get_or input 2 0 + 65536 * get_or input 3 0 + 16777216 * get_or input 4 0

-- A run of an image of 65,536 bytes from clear maps: what `played` of engine/specs/Provenance accepts.
abbrev pub from_clear : Edition → ℕ → Processor → List ℕ → Outcome World Ran
from_clear edition budget cpu image = told (run_of edition budget cpu (world image clear clear))

-- the run of an input, in an edition, and in the one that it names
abbrev pub run_in : Edition → List ℕ → Outcome World Ran
run_in edition input = from_clear edition (budget_of input) (registers_of (take 7 (drop 5 input))) (drop 12 input)

abbrev pub run_on : List ℕ → Outcome World Ran
run_on input = run_in (edition_of (edition_byte input)) input

-- The report: the stop, the steps and the registers; then the flags, and how many addresses were read, how many were written, and how many
-- of these are both.
abbrev pub opening_of : Ran → List ℕ
opening_of r = text "stop " ++ decimal (number_of r.cpu.state) ++ text "\nsteps " ++ decimal r.steps ++ text "\n" ++ registers_text r.cpu ++ text "\n"

-- the last line of the report
abbrev pub marks_text : ℕ → ℕ → ℕ → List ℕ
marks_text read written both =
    text "read " ++ decimal read ++ text " written " ++ decimal written ++ text " both " ++ decimal both ++ text "\n"

-- the last two lines
abbrev pub closing_text : ProgramStatusWord → ℕ → ℕ → ℕ → List ℕ
closing_text psw read written both = status_text psw ++ text "\n" ++ marks_text read written both

-- An address that is both is counted among the read and among the written.
abbrev pub counted_text : ProgramStatusWord → Counted → List ℕ
counted_text psw counted = closing_text psw (counted.read_only + counted.both) (counted.stored_only + counted.both) counted.both

abbrev pub closing_of : Outcome World Ran → List ℕ
closing_of o = counted_text o.result.cpu.psw (three_counts o.left.reads o.left.writes)

-- what is printed, in two parts, and what is left in the bytes of the input, in which the run's memory stands
pub record Session : Type 0 where
  pub opening : List ℕ
  pub closing : List ℕ
  pub left : List ℕ

-- The report of a run whose memory stands behind some bytes, which stay.
abbrev pub reported : List ℕ → Outcome World Ran → Session
reported before o = record { opening = opening_of o.result; closing = closing_of o; left = before ++ o.left.memory }

-- An input that is refused gives one line, and stays as it was.
abbrev pub refused : List ℕ → List ℕ → Session
refused line input = record { opening = line; closing = []; left = input }

-- `refused 6` exactly if the input is not 65,548 bytes; then `refused 9` exactly if its edition is neither 1 nor 2.
unfoldable pub session_of : List ℕ → Session
session_of input =
    cond (eqb (length input) 65548)
    (cond (is_edition (edition_byte input)) (reported (take 12 input) (run_on input)) (refused (text "refused 9\n") input))
    (refused (text "refused 6\n") input)
