-- A session of the player has one outcome, with one packet and with two.
-- Assumes nothing.
use Rattle.std.specs.Prelude.{[], ◌∷◌}
use Rattle.player.proofs as player
use Rattle.once.specs.Law.{One, first, second, third, fourth, fifth, sixth, seventh, eighth, ninth, tenth, eleventh, twelfth}
use Rattle.once.specs.Law.{thirteenth, fourteenth}
use Rattle.once.specs.Forms.{answered, answered_both}

pub session_once : One player.session.Reads.Post (λ κ e. first e ∷ second e ∷ third e ∷ fourth e ∷ fifth e ∷ sixth e ∷ seventh e ∷ [])
session_once = record { same = answered }

pub beside_once : One player.beside.Reads.Post (λ κ e. first e ∷ second e ∷ third e ∷ fourth e ∷ fifth e ∷ sixth e ∷ seventh e ∷ eighth e ∷ ninth e ∷ tenth e ∷ eleventh e ∷ twelfth e ∷ thirteenth e ∷ fourteenth e ∷ [])
beside_once = record { same = answered_both }
