-- Each function on the states of a record has one outcome.
-- Assumes nothing.
use Rattle.waking.proofs as waking
use Rattle.waking.proofs.State as state
use Rattle.waking.proofs.U8FromState as number_of
use Rattle.once.specs.Law.{Answers}
use Rattle.once.specs.Forms.{answers}

pub is_state_once : Answers waking.is_state.Reads.Post
is_state_once = record { same = answers }

pub state_of_once : Answers waking.state_of.Reads.Post
state_of_once = record { same = answers }

pub is_awake_once : Answers state.is_awake.Reads.Post
is_awake_once = record { same = answers }

pub number_of_once : Answers number_of.from.Reads.Post
number_of_once = record { same = answers }
