-- Each function on the register record has one outcome.
-- Assumes nothing.
use Rattle.processor.proofs as processor
use Rattle.processor.proofs.Processor as cpu
use Rattle.processor.proofs.ProcessorDefault as first
use Rattle.once.specs.Law.{One, Answers, second}
use Rattle.once.specs.Forms.{answers, gives}

pub set_nz_once : Answers cpu.set_nz.Reads.Post
set_nz_once = record { same = answers }

pub set_nz_16le_once : Answers cpu.set_nz_16le.Reads.Post
set_nz_16le_once = record { same = answers }

-- ---- digits of A

pub daa_once : Answers cpu.daa.Reads.Post
daa_once = record { same = answers }

pub das_once : Answers cpu.das.Reads.Post
das_once = record { same = answers }

pub xcn_once : Answers cpu.xcn.Reads.Post
xcn_once = record { same = answers }

-- ---- the record's text

pub registers_on_line_once : Answers cpu.registers_on_line.Reads.Post
registers_on_line_once = record { same = answers }

pub on_line_once : Answers cpu.on_line.Reads.Post
on_line_once = record { same = answers }

pub text_once : One cpu.text.Reads.Post (λ κ. second)
text_once = record { same = gives }

-- ---- moves and bits

pub mov_once : Answers cpu.mov.Reads.Post
mov_once = record { same = answers }

pub mov_no_flags_once : Answers cpu.mov_no_flags.Reads.Post
mov_no_flags_once = record { same = answers }

pub or_once : Answers cpu.or.Reads.Post
or_once = record { same = answers }

pub and_once : Answers cpu.and.Reads.Post
and_once = record { same = answers }

pub eor_once : Answers cpu.eor.Reads.Post
eor_once = record { same = answers }

pub or_a_once : Answers cpu.or_a.Reads.Post
or_a_once = record { same = answers }

pub tset_once : Answers cpu.tset.Reads.Post
tset_once = record { same = answers }

pub tclr_once : Answers cpu.tclr.Reads.Post
tclr_once = record { same = answers }

-- ---- products

pub times_once : Answers processor.times.Reads.Post
times_once = record { same = answers }

pub mul_once : Answers cpu.mul.Reads.Post
mul_once = record { same = answers }

pub div_once : Answers cpu.div.Reads.Post
div_once = record { same = answers }

-- ---- shifts

pub asl_once : Answers cpu.asl.Reads.Post
asl_once = record { same = answers }

pub lsr_once : Answers cpu.lsr.Reads.Post
lsr_once = record { same = answers }

pub rol_once : Answers cpu.rol.Reads.Post
rol_once = record { same = answers }

pub ror_once : Answers cpu.ror.Reads.Post
ror_once = record { same = answers }

-- ---- sums

pub difference_once : Answers processor.difference.Reads.Post
difference_once = record { same = answers }

pub adc_once : Answers cpu.adc.Reads.Post
adc_once = record { same = answers }

pub sbc_once : Answers cpu.sbc.Reads.Post
sbc_once = record { same = answers }

pub cmp_once : Answers cpu.cmp.Reads.Post
cmp_once = record { same = answers }

pub cmp_a_once : Answers cpu.cmp_a.Reads.Post
cmp_a_once = record { same = answers }

pub cmp_x_once : Answers cpu.cmp_x.Reads.Post
cmp_x_once = record { same = answers }

pub cmp_y_once : Answers cpu.cmp_y.Reads.Post
cmp_y_once = record { same = answers }

pub inc_once : Answers cpu.inc.Reads.Post
inc_once = record { same = answers }

pub dec_once : Answers cpu.dec.Reads.Post
dec_once = record { same = answers }

-- ---- words

pub word_once : Answers processor.word.Reads.Post
word_once = record { same = answers }

pub addw_once : Answers cpu.addw.Reads.Post
addw_once = record { same = answers }

pub subw_once : Answers cpu.subw.Reads.Post
subw_once = record { same = answers }

pub cmpw_once : Answers cpu.cmpw.Reads.Post
cmpw_once = record { same = answers }

pub incw_once : Answers cpu.incw.Reads.Post
incw_once = record { same = answers }

pub decw_once : Answers cpu.decw.Reads.Post
decw_once = record { same = answers }

pub is_awake_once : Answers cpu.is_awake.Reads.Post
is_awake_once = record { same = answers }

pub with_state_once : Answers cpu.with_state.Reads.Post
with_state_once = record { same = answers }

pub wake_once : Answers cpu.wake.Reads.Post
wake_once = record { same = answers }

pub default_once : Answers first.default.Reads.Post
default_once = record { same = answers }
