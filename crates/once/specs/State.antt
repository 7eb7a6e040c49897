-- Each function between the register record and its bytes, seven or eight, and a number of four bytes have one outcome.
-- Assumes nothing.
use Rattle.state.proofs as state
use Rattle.once.specs.Law.{One, Answers, first}
use Rattle.once.specs.Forms.{answers, leaves}

pub registers_once : Answers state.registers.Reads.Post
registers_once = record { same = answers }

pub set_registers_once : One state.set_registers.Reads.Post (λ κ. first)
set_registers_once = record { same = leaves }

pub is_whole_once : Answers state.is_whole.Reads.Post
is_whole_once = record { same = answers }

pub whole_once : Answers state.whole.Reads.Post
whole_once = record { same = answers }

pub set_whole_once : One state.set_whole.Reads.Post (λ κ. first)
set_whole_once = record { same = leaves }

pub number_once : Answers state.number.Reads.Post
number_once = record { same = answers }

pub set_number_once : One state.set_number.Reads.Post (λ κ. first)
set_number_once = record { same = leaves }

pub whole_in_once : Answers state.whole_in.Reads.Post
whole_in_once = record { same = answers }
