-- What flat registers stand for: the register record. A flag is told by the byte that set it.
use Rattle.std.specs.Prelude.{◌≡◌, ◌/◌, ◌%◌, ◌==◌, nat_le}
use Rattle.waking.specs.States.{state_of}
use Rattle.psw.specs.Status.{bit_of}
use Rattle.psw.specs.declared.ProgramStatusWord.{ProgramStatusWord}
use Rattle.processor.specs.declared.Processor.{Processor}
use Rattle.processor.specs.declared.Produced.{Produced}
use Rattle.registers.specs.declared.Registers.{Registers}

-- N and V are the top bits of their bytes, Z says that its byte is zero, H is bit 4 and C bit 0 of theirs; P is bit 8 of the page, B and I
-- are bits 4 and 2 of the rest.
abbrev pub flags_in : Registers → ProgramStatusWord
flags_in r = record {
  n = nat_le 128 r.n;
  v = nat_le 128 r.v;
  p = (r.page / 256 % 2 == 1);
  b = bit_of 16 r.rest;
  h = bit_of 16 r.h;
  i = bit_of 4 r.rest;
  z = (r.z == 0);
  c = (r.c % 2 == 1);
}

-- A X Y SP PC are themselves, and the stop is the number of the state.
abbrev pub record_of : Registers → Processor
record_of r = record { a = r.a; x = r.x; y = r.y; sp = r.sp; pc = r.pc; psw = flags_in r; state = state_of r.stop }

-- What an operation hands back that produces a byte: the registers stand for the record, and the byte stands in z.
pub record Makes (r : Registers) (p : Produced) : Type 0 where
  pub cpu : record_of r ≡ p.cpu
  pub byte : r.z ≡ p.byte
