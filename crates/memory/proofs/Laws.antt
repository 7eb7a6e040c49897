-- Performing one part after another: what the parts do, the whole does.
-- Assumes nothing.
use Rattle.std.proofs.Common.{◌≡◌, ℕ, sym, refl, ap, ◌∙◌, rules}
use Rattle.memory.specs.World.{World, world, byte_at, seen, kept}
use Rattle.memory.specs.Access.{Access, then, ask, put, Outcome, outcome, perform, Does}
use Rattle.memory.specs.Access.Access.{done, read_at, store_at}
use Rattle.memory.specs.Promises.{behind_reading, behind_storing, SameLoans, SameReading, SameStoring, Done, Reads, Puts}
use Rattle.memory.specs.declared.Bus.{Bus}
use Rattle.memory.specs.declared.Reading.{Reading}
use Rattle.memory.specs.declared.Storing.{Storing}

pub perform_then : {R S : Type 0} (p : Access S) (k : S → Access R) (w : World)
    → perform (then p k) w ≡ perform (k (perform p w).result) (perform p w).left
unfolding perform then
perform_then (done x) k w = refl
perform_then (read_at a p) k w = perform_then (p (byte_at a w)) k (seen a w)
perform_then (store_at a byte p) k w = perform_then p k (kept a byte w)

-- one part after another; `_` will do for `k` at a use
pub chain : {R S : Type 0} {p : Access S} (k : S → Access R) {w : World} {o : Outcome World S} {q : Outcome World R}
    → Does p w o → Does (k o.result) o.left q → Does (then p k) w q
chain {p = p} k {w} e f = record { is = f.is ∙ ap (λ (x : Outcome World _). perform (k x.result) x.left) e.is ∙ sym (perform_then p k w) }

-- nothing more to do
pub ends : {R : Type 0} {x : R} {w : World} → Does (done x) w (outcome x w)
unfolding perform
ends = record { is = refl }

-- nothing more to do, where the result is known by an equation
pub ends_at : {R : Type 0} {x y : R} {w : World} → x ≡ y → Does (done y) w (outcome x w)
ends_at e = rw e ends

-- a read first, a store first
pub read_then : {R : Type 0} {a : ℕ} {k : ℕ → Access R} {w : World} {o : Outcome World ℕ} {q : Outcome World R}
    → Does (ask a) w o → Does (k o.result) o.left q → Does (read_at a k) w q
unfolding perform
read_then {k = k} e f = record { is = f.is ∙ ap (λ (x : Outcome World ℕ). perform (k x.result) x.left) e.is }

pub put_then : {R : Type 0} {a byte : ℕ} {p : Access R} {w : World} {o : Outcome World Unit} {q : Outcome World R}
    → Does (put a byte) w o → Does p o.left q → Does (store_at a byte p) w q
unfolding perform
put_then {p = p} e f = record { is = f.is ∙ ap (λ (x : Outcome World Unit). perform p x.left) e.is }

-- the same at an address that is known by an equation
pub read_at_lem : {R : Type 0} {a b : ℕ} {k : ℕ → Access R} {w : World} {o : Outcome World ℕ} {q : Outcome World R}
    → a ≡ b → Does (ask a) w o → Does (k o.result) o.left q → Does (read_at b k) w q
read_at_lem e f g = rw (← e) (read_then f g)

pub put_at : {R : Type 0} {a b byte : ℕ} {p : Access R} {w : World} {o : Outcome World Unit} {q : Outcome World R}
    → a ≡ b → Does (put a byte) w o → Does p o.left q → Does (store_at b byte p) w q
put_at e f g = rw (← e) (put_then f g)

-- what is done by a value that is known by an equation; `p` is named at a use
pub by : {A R : Type 0} (p : A → Access R) {x y : A} {w : World} {o : Outcome World R} → x ≡ y → Does (p x) w o → Does (p y) w o
by p e f = rw (← e) f

-- ---- what is lent stays the same

pub same_loans : (a : Bus) → SameLoans a a
same_loans a = record { memory = refl; reads = refl; writes = refl }

pub still_same : {a b c : Bus} → SameLoans a b → SameLoans b c → SameLoans a c
still_same e f = record { memory = f.memory ∙ e.memory; reads = f.reads ∙ e.reads; writes = f.writes ∙ e.writes }

pub same_reading : (a : Reading) → SameReading a a
same_reading a = record { memory = refl; reads = refl; writes = refl }

pub still_reading : {a b c : Reading} → SameReading a b → SameReading b c → SameReading a c
still_reading e f = record { memory = f.memory ∙ e.memory; reads = f.reads ∙ e.reads; writes = f.writes ∙ e.writes }

pub same_storing : (a : Storing) → SameStoring a a
same_storing a = record { memory = refl; reads = refl; writes = refl }

pub still_storing : {a b c : Storing} → SameStoring a b → SameStoring b c → SameStoring a c
still_storing e f = record { memory = f.memory ∙ e.memory; reads = f.reads ∙ e.reads; writes = f.writes ∙ e.writes }

-- A function that is a chain of accesses is proved by `search accesses`: whatever the search wants, it finds by what it says.
pub performs : {B : Type 0} {world_of : B → World} {Same : B → B → Type 0} {R : Type 0} {p : Access R} {a b : B} {r : R}
    → Does p (world_of a) (outcome r (world_of b)) → Same a b → Done world_of Same p a b r
performs d s = record { does = d; same = s }

-- What a reading leaves: memory and written map are those that it was lent; and what a storing leaves.
pub reading_leaves : {R : Type 0} {p : Access R} {a b : Reading} {r : R} → Reads p a b r
    → Does p (behind_reading a) (outcome r (world a.memory.now b.reads.now a.writes.now))
reading_leaves e = rw (e.same.memory, e.same.writes) at e.does

pub storing_leaves : {R : Type 0} {p : Access R} {a b : Storing} {r : R} → Puts p a b r
    → Does p (behind_storing a) (outcome r (world b.memory.now a.reads.now b.writes.now))
storing_leaves e = rw e.same.reads at e.does

pub ruleset loans = (same_loans, still_same, same_reading, still_reading, same_storing, still_storing)

pub ruleset accesses = (rules, performs, loans, chain, ends, ends_at, read_then, put_then, read_at_lem, put_at)

-- Two outcomes that meet one contract coincide.
pub does_once : {R : Type 0} {p : Access R} {w : World} {o q : Outcome World R} → Does p w o → Does p w q → o ≡ q
does_once e f = e.is ∙ sym f.is
