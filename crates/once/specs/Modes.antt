-- Each address mode, branch and stack access has one outcome.
-- Assumes nothing.
use Rattle.modes.proofs as modes
use Rattle.once.specs.Law.{One, Answers, second, third}
use Rattle.once.specs.Forms.{lent_reading, lent_storing, answers, reads, stores}

-- ---- addresses

pub past_once : Answers modes.past.Reads.Post
past_once = record { same = answers }

pub fetch_u8_once : One modes.fetch_u8.Reads.Post (λ κ e. lent_reading (second e))
fetch_u8_once = record { same = reads }

pub fetch_u16_once : One modes.fetch_u16.Reads.Post (λ κ e. lent_reading (second e))
fetch_u16_once = record { same = reads }

pub imm_once : Answers modes.imm.Reads.Post
imm_once = record { same = answers }

pub d_off_once : One modes.d_off.Reads.Post (λ κ e. lent_reading (second e))
d_off_once = record { same = reads }

pub d_once : One modes.d.Reads.Post (λ κ e. lent_reading (second e))
d_once = record { same = reads }

pub dx_once : One modes.dx.Reads.Post (λ κ e. lent_reading (second e))
dx_once = record { same = reads }

pub dy_once : One modes.dy.Reads.Post (λ κ e. lent_reading (second e))
dy_once = record { same = reads }

pub dw_once : One modes.dw.Reads.Post (λ κ e. lent_reading (second e))
dw_once = record { same = reads }

pub ix_once : Answers modes.ix.Reads.Post
ix_once = record { same = answers }

pub iy_once : Answers modes.iy.Reads.Post
iy_once = record { same = answers }

pub idx_once : One modes.idx.Reads.Post (λ κ e. lent_reading (third e))
idx_once = record { same = reads }

pub idy_once : One modes.idy.Reads.Post (λ κ e. lent_reading (third e))
idy_once = record { same = reads }

pub abs_off_once : One modes.abs_off.Reads.Post (λ κ e. lent_reading (second e))
abs_off_once = record { same = reads }

pub abs_once : One modes.abs.Reads.Post (λ κ e. lent_reading (second e))
abs_once = record { same = reads }

pub absx_once : One modes.absx.Reads.Post (λ κ e. lent_reading (second e))
absx_once = record { same = reads }

pub absy_once : One modes.absy.Reads.Post (λ κ e. lent_reading (second e))
absy_once = record { same = reads }

pub iax_once : One modes.iax.Reads.Post (λ κ e. lent_reading (second e))
iax_once = record { same = reads }

pub bit_operand_once : One modes.bit_operand.Reads.Post (λ κ e. lent_reading (second e))
bit_operand_once = record { same = λ p q. reads p.0 q.0 }

pub has_bit_once : Answers modes.has_bit.Reads.Post
has_bit_once = record { same = answers }

pub mb_once : One modes.mb.Reads.Post (λ κ e. lent_reading (second e))
mb_once = record { same = reads }

-- ---- branches

pub branch_imm_once : One modes.branch_imm.Reads.Post (λ κ e. lent_reading (second e))
branch_imm_once = record { same = reads }

pub read_and_branch_if_once : One modes.read_and_branch_if.Reads.Post (λ κ e. lent_reading (second e))
read_and_branch_if_once = record { same = reads }

-- ---- the stack

pub push_to_stack_u8_once : One modes.push_to_stack_u8.Reads.Post (λ κ e. lent_storing (second e))
push_to_stack_u8_once = record { same = stores }

pub push_to_stack_u16_once : One modes.push_to_stack_u16.Reads.Post (λ κ e. lent_storing (second e))
push_to_stack_u16_once = record { same = stores }

pub pull_from_stack_u8_once : One modes.pull_from_stack_u8.Reads.Post (λ κ e. lent_reading (second e))
pull_from_stack_u8_once = record { same = reads }

pub pull_from_stack_u16_once : One modes.pull_from_stack_u16.Reads.Post (λ κ e. lent_reading (second e))
pull_from_stack_u16_once = record { same = reads }

pub call_once : One modes.call.Reads.Post (λ κ e. lent_storing (second e))
call_once = record { same = stores }
