-- The forms that our contracts have: each leaves one outcome.
-- Assumes nothing.
use Rattle.std.specs.Prelude.{ℕ, ◌≡◌, refl, List, [], ◌∷◌, ◌++◌, Result}
use Rattle.std.proofs.Common.{ap, sym, ◌∙◌}
use denote.Ref.{Bor, MutBor}
use Rattle.memory.specs.World.{World, world}
use Rattle.memory.specs.Access.{Access, Outcome, outcome}
use Rattle.memory.specs.Promises.{SameLoans, SameReading, SameStoring, Done, Reads, Puts, Performs, Answers, behind, behind_reading, behind_storing}
use Rattle.memory.specs.declared.Bus.{Bus}
use Rattle.memory.specs.declared.Reading.{Reading}
use Rattle.memory.specs.declared.Storing.{Storing}
use Rattle.memory.proofs.Laws.{does_once}
use Rattle.refusals.specs.declared.Refusal.{Refusal}
use Rattle.text.specs.Given.{Wanted, Given}
use Rattle.text.proofs.Laws.{given_once}
use Rattle.laws.specs.Filled.{Filled, filled}
use Rattle.exports.specs.Calls.{Called, called}
use Rattle.editions.specs.declared.Edition.{Edition}
use Rattle.host.specs.Turn.{Playing}
use Rattle.host.specs.Play.{Progress}
use Rattle.host.specs.Promises as host
use Rattle.host.specs.Promises.{Plays, PlaysBoth, on}
use Rattle.host.specs.declared.Song.{Song}
use Rattle.host.specs.Beside.{Pair}
use Rattle.host.specs.declared.Player.{Player}
use Rattle.host.specs.declared.Played.{Played}
use Rattle.host.specs.declared.beside.Beside.{Beside}
use Rattle.player.specs.Packet as packet
use Rattle.player.specs.Packet.{Packet}
use Rattle.once.specs.Law.{nothing}

-- a result, and nothing is written to
pub answers : {A : Type 0} {x y z : A} → x ≡ z → y ≡ z → (x ≡ y) × (nothing ≡ nothing)
answers p q = (p ∙ sym q, refl)

-- what a slice that is answered holds
pub shows : {T : Type 0} {s t z : List T} → s ≡ z → t ≡ z → s ≡ t
shows p q = p ∙ sym q

abbrev None : Type 0
None = Unit

-- bytes, and no result
pub leaves : {x y : None} {s t z : List ℕ} → s ≡ z → t ≡ z → (x ≡ y) × (s ≡ t)
leaves p q = (refl, p ∙ sym q)

-- a text given into a buffer
pub gives : {w : Wanted} {before s t : List ℕ} {x y : Result ℕ Refusal} → Given w before s x → Given w before t y → (x ≡ y) × (s ≡ t)
gives p q = let same = given_once p q in (same.1, same.0)

-- ---- what a struct borrows

-- What is borrowed to be written to: which it is, by the name under which its value is tracked, and what it holds.
abbrev pub Loan : Type 0
Loan = ℕ × List ℕ

abbrev pub lent : MutBor (List ℕ) → Loan
lent loan = (loan.ghost_name, loan.now)

-- All that a bus borrows, whoever it is lent to, and all that a song does. A caller knows its own memory again by the name alone: where a loan
-- lies no contract says, and it isn't compared. What is borrowed to be read is compared whole.
abbrev pub lent_bus : Bus → List Loan
lent_bus bus = lent bus.memory ∷ lent bus.reads ∷ lent bus.writes ∷ []

abbrev pub lent_reading : Reading → Bor (List ℕ) × (Loan × Bor (List ℕ))
lent_reading bus = (bus.memory, (lent bus.reads, bus.writes))

abbrev pub lent_storing : Storing → Loan × (Bor (List ℕ) × Loan)
lent_storing bus = (lent bus.memory, (bus.reads, lent bus.writes))

abbrev pub lent_song : Song → List Loan
lent_song song = lent song.memory ∷ lent song.reads ∷ lent song.writes ∷ lent song.chip ∷ lent song.fetched ∷ []

-- a loan, and what it holds now
abbrev holding : MutBor (List ℕ) → List ℕ → Loan
holding loan bytes = (loan.ghost_name, bytes)

-- Where both borrow what was borrowed before, and it holds the same, all that they borrow is the same.
pub bus_once : {a b c : Bus} → SameLoans a b → SameLoans a c → behind b ≡ behind c → lent_bus b ≡ lent_bus c
bus_once {a = a} p q e =
    rw
    (p.memory, p.reads, p.writes, q.memory, q.reads, q.writes)
    (ap (λ (w : World). holding a.memory w.memory ∷ holding a.reads w.reads ∷ holding a.writes w.writes ∷ []) e)

pub reading_once : {a b c : Reading} → SameReading a b → SameReading a c → behind_reading b ≡ behind_reading c → lent_reading b ≡ lent_reading c
reading_once {a = a} p q e =
    rw
    (p.memory, p.reads, p.writes, q.memory, q.reads, q.writes)
    (ap (λ (w : World). (a.memory, (holding a.reads w.reads, a.writes))) e)

pub storing_once : {a b c : Storing} → SameStoring a b → SameStoring a c → behind_storing b ≡ behind_storing c → lent_storing b ≡ lent_storing c
storing_once {a = a} p q e =
    rw
    (p.memory, p.reads, p.writes, q.memory, q.reads, q.writes)
    (ap (λ (w : World). (holding a.memory w.memory, (a.reads, holding a.writes w.writes))) e)

-- a song's loans, and what a playing has
abbrev with_playing : Song → Playing → List Loan
with_playing song p =
    holding song.memory p.world.memory ∷ holding song.reads p.world.reads ∷ holding song.writes p.world.writes ∷ holding song.chip p.chip
    ∷ holding song.fetched p.fetched ∷ []

pub song_once : {a b c : Song} {x y : Player} → host.SameLoans a b → host.SameLoans a c → on x b ≡ on y c → lent_song b ≡ lent_song c
song_once {a = a} p q e =
    rw
    (p.memory, p.reads, p.writes, p.chip, p.fetched, q.memory, q.reads, q.writes, q.chip, q.fetched)
    (ap (with_playing a) e)

-- ---- memory and maps

-- accesses on a bus, whoever it is lent to: what `all` shows of it
pub done_once : {B X : Type 0} {world_of : B → World} {Same : B → B → Type 0} {R : Type 0} {p : Access R} {a b c : B} {x y : R}
    → (all : B → X) → (Same a b → Same a c → world_of b ≡ world_of c → all b ≡ all c)
    → Done world_of Same p a b x → Done world_of Same p a c y → (x ≡ y) × (all b ≡ all c)
done_once all once p q =
    let same = does_once p.does q.does in
    (ap (λ o. o.result) same, once p.same q.same (ap (λ o. o.left) same))

pub reads : {R : Type 0} {p : Access R} {a b c : Reading} {x y : R}
    → Reads p a b x → Reads p a c y → (x ≡ y) × (lent_reading b ≡ lent_reading c)
reads p q = done_once lent_reading reading_once p q

pub stores : {R : Type 0} {p : Access R} {a b c : Storing} {x y : R}
    → Puts p a b x → Puts p a c y → (x ≡ y) × (lent_storing b ≡ lent_storing c)
stores p q = done_once lent_storing storing_once p q

-- (A function that does both stands inside a step, where no other crate can name it: no line is of this form.)
pub performs : {R : Type 0} {p : Access R} {a b c : Bus} {x y : R}
    → Performs p a b x → Performs p a c y → (x ≡ y) × (lent_bus b ≡ lent_bus c)
performs p q = done_once lent_bus bus_once p q

-- steps on a bus
pub steps : {R : Type 0} {answer : World → Outcome World R} {a b c : Bus} {x y : R}
    → Answers answer a b x → Answers answer a c y → (x ≡ y) × (lent_bus b ≡ lent_bus c)
steps p q = let same = p.is ∙ sym q.is in (ap (λ o. o.result) same, bus_once p.same q.same (ap (λ o. o.left) same))

-- steps and runs on what is lent one by one: the memory m with the read map s and the written map u; in the other outcome n, t and v
pub runs : {R : Type 0} {x y : R} {m n s t u v : List ℕ} {o : Outcome World R}
    → outcome x (world m s u) ≡ o → outcome y (world n t v) ≡ o → (x ≡ y) × ((m ∷ s ∷ u ∷ []) ≡ (n ∷ t ∷ v ∷ []))
runs p q =
    let same = p ∙ sym q in
    (ap (λ o. o.result) same, ap (λ o. o.left.memory ∷ o.left.reads ∷ o.left.writes ∷ []) same)

-- a call of the library: the registers' bytes a, and all three
pub calls : {x y : ℕ} {a b m n s t u v : List ℕ} {c : Called}
    → called x a (world m s u) ≡ c → called y b (world n t v) ≡ c → (x ≡ y) × ((a ∷ m ∷ s ∷ u ∷ []) ≡ (b ∷ n ∷ t ∷ v ∷ []))
calls p q =
    let same = p ∙ sym q in
    (ap (λ c. c.answer) same, ap (λ c. c.registers ∷ c.left.memory ∷ c.left.reads ∷ c.left.writes ∷ []) same)

-- a call that gives an answer and writes to one slice
pub fills : {R : Type 0} {x y : R} {a b : List ℕ} {c : Filled R} → filled x a ≡ c → filled y b ≡ c → (x ≡ y) × (a ≡ b)
fills p q = let same = p ∙ sym q in (ap (λ c. c.answer) same, ap (λ c. c.left) same)

-- ---- playings

pub plays : {edition : Edition} {until budget : ℕ} {player : Player} {a b c : Song} {x y : Played}
    → Plays edition until budget player a b x → Plays edition until budget player a c y → (x ≡ y) × (lent_song b ≡ lent_song c)
plays p q =
    let same = p.is ∙ sym q.is in (
      ap (λ (o : Progress). record { player = o.playing.player; steps = o.steps }) same,
      song_once p.same q.same (ap (λ (o : Progress). o.playing) same),
    )

pub plays_both : {edition : Edition} {until budget : ℕ} {first second : Player} {a d b c e f : Song} {x y : Beside}
    → PlaysBoth edition until budget first second a d b e x → PlaysBoth edition until budget first second a d c f y
    → (x ≡ y) × ((lent_song b ++ lent_song e) ≡ (lent_song c ++ lent_song f))
plays_both {c = c} {e = e} p q =
    let same = p.is ∙ sym q.is in
    let one = song_once p.same q.same (ap (λ (o : Pair). o.first) same) in
    let two = song_once p.same_other q.same_other (ap (λ (o : Pair). o.second) same) in (
      ap (λ (o : Pair). record { first = o.first.player; second = o.second.player; steps = o.steps; alike = o.alike }) same,
      ap (λ xs. xs ++ lent_song e) one ∙ ap (λ ys. lent_song c ++ ys) two,
    )

-- ---- packets

-- all that a packet has
abbrev seven : Packet → List (List ℕ)
seven p = p.head ∷ p.chip ∷ p.world.memory ∷ p.world.reads ∷ p.world.writes ∷ p.fetched ∷ p.made ∷ []

pub answered : {x y : Result Unit Refusal} {p q : Packet} {a : packet.Answer} → packet.answer x p ≡ a → packet.answer y q ≡ a
    → (x ≡ y) × (seven p ≡ seven q)
answered p q =
    let same = p ∙ sym q in (ap (λ (a : packet.Answer). a.result) same, ap (λ (a : packet.Answer). seven a.left) same)

pub answered_both : {x y : Result Unit Refusal} {p q p₂ q₂ : Packet} {a : packet.Answers} → packet.answers x p p₂ ≡ a → packet.answers y q q₂ ≡ a
    → (x ≡ y) × ((seven p ++ seven p₂) ≡ (seven q ++ seven q₂))
answered_both p q =
    let same = p ∙ sym q in
    (ap (λ (a : packet.Answers). a.result) same, ap (λ (a : packet.Answers). seven a.first ++ seven a.second) same)
