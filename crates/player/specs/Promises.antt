-- The contracts on the seven lent slices of a packet, in the order of every function's parameters.
use Rattle.std.specs.Prelude.{ℕ, ◌≡◌, Bool, List, Result}
use Rattle.refusals.specs.declared.Refusal.{Refusal}
use Rattle.laws.specs.Lent.{Lent}
use Rattle.memory.specs.World.{world}
use Rattle.watch.specs.Marks.{with_marks}
use Rattle.host.specs.Play.{Progress, play_of}
use Rattle.host.specs.Beside.{Pair, beside_of}
use Rattle.host.specs.declared.Player.{Player}
use Rattle.player.specs.declared.head.Request.{Request}
use Rattle.player.specs.Head.{request_of, head_of}
use Rattle.player.specs.Packet as packet
use Rattle.player.specs.Packet.{Packet, refusal_of, start_of, begun_of, made_of, finished}

abbrev pub packet_of : List ℕ → List ℕ → List ℕ → List ℕ → List ℕ → List ℕ → List ℕ → Packet
packet_of head chip memory reads writes fetched made =
    record { head = head; chip = chip; world = world memory reads writes; fetched = fetched; made = made }

-- a packet before a call, and after it
abbrev pub before : Lent → Lent → Lent → Lent → Lent → Lent → Lent → Packet
before head chip memory reads writes fetched made =
    packet_of head.entry chip.entry memory.entry reads.entry writes.entry fetched.entry
    made.entry

abbrev pub after : Lent → Lent → Lent → Lent → Lent → Lent → Lent → Packet
after head chip memory reads writes fetched made =
    packet_of head.exit chip.exit memory.exit reads.exit writes.exit fetched.exit
    made.exit

-- A call answers and leaves what `call` makes of the packet.
abbrev pub Answers : (Packet → packet.Answer) → Lent → Lent → Lent → Lent → Lent → Lent → Lent → Result Unit Refusal → Type 0
Answers call head chip memory reads writes fetched made r =
    packet.answer r (after head chip memory reads writes fetched made) ≡ call (before head chip memory reads writes fetched made)

-- The same of two packets, whose slices come one packet after the other.
abbrev pub AnswersBoth : (Packet → Packet → packet.Answers)
    → Lent → Lent → Lent → Lent → Lent → Lent → Lent → Lent → Lent → Lent → Lent → Lent → Lent → Lent → Result Unit Refusal → Type 0
AnswersBoth call head chip memory reads writes fetched made head₂ chip₂ memory₂ reads₂ writes₂ fetched₂ made₂ r =
    packet.answers r
    (after head chip memory reads writes fetched made)
    (after head₂ chip₂ memory₂ reads₂ writes₂ fetched₂ made₂)
    ≡ call
    (before head chip memory reads writes fetched made)
    (before head₂ chip₂ memory₂ reads₂ writes₂ fetched₂ made₂)

-- ---- behind these calls

-- the player with which a part begins
abbrev pub Begins : Lent → Lent → Lent → Lent → Lent → Player → Type 0
Begins head chip memory writes fetched r =
    record { player = r; fetched = fetched.exit }
    ≡ start_of head.entry chip.entry memory.entry writes.entry fetched.entry

-- the maps with which it ends
pub record Finishes (reads writes fetched made : Lent) : Type 0 where
  pub of_reads : reads.exit ≡ with_marks reads.entry 0
  pub of_writes : writes.exit ≡ with_marks writes.entry 0
  pub of_made : made.exit ≡ made_of (with_marks reads.entry 0) fetched.entry

-- the head with which it ends beside another one
pub record Tells (alike : Bool) (player : Player) (steps : ℕ) (head : Lent) : Type 0 where
  pub of_head : head.exit ≡ packet.told alike (head_of head.entry player steps)

-- How far a packet is played on as is asked, and what it is left as.
abbrev pub reached : Request → Packet → Progress
reached asked p = play_of asked.edition asked.until asked.budget (begun_of p)

abbrev pub played_on : Request → Packet → Packet
played_on asked p = let o = reached asked p in finished (head_of p.head o.playing.player o.steps) o.playing

-- how far, as it asks itself
abbrev pub played_to : Packet → Progress
played_to p = reached (request_of p.head) p

abbrev pub Plays : Request → Lent → Lent → Lent → Lent → Lent → Lent → Lent → Type 0
Plays asked head chip memory reads writes fetched made =
    after head chip memory reads writes fetched made ≡ played_on asked (before head chip memory reads writes fetched made)

-- The same of two packets.
pub record Two : Type 0 where
  pub first : Packet
  pub second : Packet

abbrev pub two : Packet → Packet → Two
two first second = record { first = first; second = second }

abbrev pub both_reached : Request → Packet → Packet → Pair
both_reached asked p q = beside_of asked.edition asked.until asked.budget (begun_of p) (begun_of q)

abbrev pub played_both_on : Request → Packet → Packet → Two
played_both_on asked p q =
    let o = both_reached asked p q in
    two
    (finished (packet.told o.alike (head_of p.head o.first.player o.steps)) o.first)
    (finished (packet.told o.alike (head_of q.head o.second.player o.steps)) o.second)

abbrev pub PlaysBoth : Request
    → Lent → Lent → Lent → Lent → Lent → Lent → Lent → Lent → Lent → Lent → Lent → Lent → Lent → Lent → Type 0
PlaysBoth asked head chip memory reads writes fetched made head₂ chip₂ memory₂ reads₂ writes₂ fetched₂ made₂ =
    two (after head chip memory reads writes fetched made) (after head₂ chip₂ memory₂ reads₂ writes₂ fetched₂ made₂)
    ≡ played_both_on asked (before head chip memory reads writes fetched made)
    (before head₂ chip₂ memory₂ reads₂ writes₂ fetched₂ made₂)

-- Of two packets, the first of which is accepted and asks this.
abbrev pub played_second : Request → Packet → Packet → packet.Answers
played_second asked p q = let o = played_both_on asked p q in packet.answered_both (refusal_of q) p q o.first o.second

abbrev pub AnswersSecond : Request
    → Lent → Lent → Lent → Lent → Lent → Lent → Lent → Lent → Lent → Lent → Lent → Lent → Lent → Lent → Result Unit Refusal → Type 0
AnswersSecond asked = AnswersBoth (played_second asked)
