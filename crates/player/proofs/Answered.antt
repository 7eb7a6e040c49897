-- Of the calls of an answer: what is begun, what is played to, and what is left.
-- Assumes nothing.
use Prim.Native.Nat.{ℕ}
use mathlib.Core.Path.{◌≡◌, ap, ◌∙◌}
use mathlib.Core.List.{List}
use Rattle.watch.specs.Marks.{with_marks}
use Rattle.host.specs.Turn.{Playing}
use Rattle.host.specs.Play.{Progress, play_of}
use Rattle.host.specs.Beside.{Pair, beside_of}
use Rattle.host.specs.declared.Player.{Player}
use Rattle.player.specs.Head.{head_of}
use Rattle.player.specs.declared.head.Request.{Request}
use Rattle.player.specs.Packet.{Packet, Start, start_of, begun_of, made_of, finished, told}
use Rattle.player.specs.Promises.{packet_of, reached, played_on, two, both_reached, played_both_on}

-- The playing that begins from a packet.
pub begun : (p : Packet) {player : Player} {map : List ℕ}
    → record { player = player; fetched = map } ≡ start_of p.head p.chip p.world.memory p.world.writes p.fetched
    → record { player = player; world = p.world; chip = p.chip; fetched = map } ≡ begun_of p
begun p e = ap (λ (s : Start). record { player = s.player; world = p.world; chip = p.chip; fetched = s.fetched }) e

-- The packet in which a playing is left: what was lent to it came back.
pub ended : (q : Playing) {laid head chip memory read stored fetched reads writes made : List ℕ}
    → chip ≡ q.chip → memory ≡ q.world.memory → read ≡ q.world.reads → stored ≡ q.world.writes → fetched ≡ q.fetched
    → head ≡ laid → reads ≡ with_marks read 0 → writes ≡ with_marks stored 0 → made ≡ made_of (with_marks read 0) fetched
    → packet_of head chip memory reads writes fetched made ≡ finished laid q
unfolding finished
ended q c m s t f h r w d = rw (h, r, w, d, c, m, s, t, f)

-- What is left of a packet that was played on, and of two.
pub answered : (p : Packet) (r : Request) {b : Playing} (o : Progress) {left : Packet} → b ≡ begun_of p
    → o ≡ play_of r.edition r.until r.budget b
    → left ≡ finished (head_of p.head o.playing.player o.steps) o.playing → left ≡ played_on r p
answered p r o b e l =
    let all : o ≡ reached r p = e ∙ rw b in
    l ∙ ap (λ (o : Progress). finished (head_of p.head o.playing.player o.steps) o.playing) all

pub answered_both : (p q : Packet) (r : Request) {b d : Playing} (o : Pair) {first second : Packet}
    → b ≡ begun_of p → d ≡ begun_of q → o ≡ beside_of r.edition r.until r.budget b d
    → first ≡ finished (told o.alike (head_of p.head o.first.player o.steps)) o.first
    → second ≡ finished (told o.alike (head_of q.head o.second.player o.steps)) o.second
    → two first second ≡ played_both_on r p q
answered_both p q r o b d e f g =
    let all : o ≡ both_reached r p q = e ∙ rw (b, d) in
    rw (f, g)
    (ap
    (λ (o : Pair).
    two
    (finished (told o.alike (head_of p.head o.first.player o.steps)) o.first)
    (finished (told o.alike (head_of q.head o.second.player o.steps)) o.second))
    all)
