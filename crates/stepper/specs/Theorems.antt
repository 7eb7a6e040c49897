-- What the number that is printed says.
-- Assumes nothing.
use Rattle.std.specs.Prelude.{ℕ, zero, suc, ◌<◌, ◌≤◌, Bool, true, false, cond, ◌↔◌, ◌≡◌, refl, List, [], ◌∷◌, eqb, length, get_or, take, drop, Ok}
use Rattle.std.proofs.Common.{◌+◌, ◌∙◌, one-add, arith, length-append, length-drop, eqb-true, eq-eqb}
use Rattle.std.proofs.lemmas.Bool.{eqb-false}
use Rattle.std.proofs.lemmas.List.Sums.{common_prefix_len-le}
use Rattle.memory.specs.World.{world}
use Rattle.memory.specs.Access.{outcome}
use Rattle.editions.specs.Editions.{number_of}
use Rattle.editions.specs.Theorems.{named, number_and_back}
use Rattle.editions.specs.declared.Edition.{Edition}
use Rattle.processor.specs.declared.Processor.{Processor}
use Rattle.state.specs.Registers.{registers_of, bytes_of}
use Rattle.runs.proofs.Exact.{fresh}
use Rattle.engine.specs.Entry.{refusal_of, step_answer}
use Rattle.engine.specs.Provenance.{clear}
use Rattle.engine.specs.Theorems.{step_keeps}
use Rattle.stepper.specs.Alike.{alike}
use Rattle.stepper.specs.Session.{stepped, after_step}

-- ---- two rows of bytes

-- Not more bytes are alike than either has.
pub at_most : (first second : List ℕ) → alike first second ≤ length first
at_most first second = (common_prefix_len-le eqb first second).0

pub at_most_second : (first second : List ℕ) → alike first second ≤ length second
at_most_second first second = (common_prefix_len-le eqb first second).1

-- All bytes before it are equal in both.
pub equal_before : (first second : List ℕ) (k : ℕ) → k < alike first second → get_or first k 0 ≡ get_or second k 0
equal_before [] second k h = absurd (omega arith)
equal_before (a ∷ first) [] k h = absurd (omega arith)
equal_before (a ∷ first) (b ∷ second) k h = go (eqb a b) refl (equal_before first second) k h
  where
    go : (t : Bool) → eqb a b ≡ t → ((k : ℕ) → k < alike first second → get_or first k 0 ≡ get_or second k 0)
        → (k : ℕ) → k < cond t (1 + alike first second) 0 → get_or (a ∷ first) k 0 ≡ get_or (b ∷ second) k 0
    go true e later zero h = eqb-true a b e
    go true e later (suc k) h = later k (omega arith)
    go false e later k h = absurd (omega arith)

-- Of two rows of one length, where not all is alike, the bytes there differ.
pub differ_there : (first second : List ℕ) → length first ≡ length second → alike first second < length first
    → get_or first (alike first second) 0 ≡ get_or second (alike first second) 0 → ⊥
differ_there [] second l h = absurd (omega arith)
differ_there (a ∷ first) [] l h = absurd (omega arith)
differ_there (a ∷ first) (b ∷ second) l h = go (eqb a b) refl (differ_there first second (omega (arith, l))) h
  where
    at : Bool → ℕ
    at t = cond t (1 + alike first second) 0

    go : (t : Bool) → eqb a b ≡ t
        → (alike first second < length first → get_or first (alike first second) 0 ≡ get_or second (alike first second) 0 → ⊥)
        → at t < suc (length first) → get_or (a ∷ first) (at t) 0 ≡ get_or (b ∷ second) (at t) 0 → ⊥
    go true e later h = rw one-add (later (omega arith))
    go false e later h = eqb-false a b e

-- So all is alike exactly where the rows are the same.
itself : (row : List ℕ) → alike row row ≡ length row
itself [] = refl
itself (a ∷ row) = rw (eq-eqb a a refl, itself row) (one-add (length row))

same : (first second : List ℕ) → length first ≡ length second → alike first second ≡ length first → first ≡ second
same [] [] l e = refl
same [] (b ∷ second) l e = absurd (omega (arith, l))
same (a ∷ first) [] l e = absurd (omega (arith, l))
same (a ∷ first) (b ∷ second) l e = go (eqb a b) refl (same first second (omega (arith, l))) e
  where
    go : (t : Bool) → eqb a b ≡ t → (alike first second ≡ length first → first ≡ second)
        → cond t (1 + alike first second) 0 ≡ suc (length first) → (a ∷ first) ≡ (b ∷ second)
    go true e later n = rw (eqb-true a b e, later (omega (arith, n)))
    go false e later n = absurd (omega (arith, n))

pub all_alike : (first second : List ℕ) → length first ≡ length second → (alike first second ≡ length first) ↔ (first ≡ second)
all_alike first second l = (same first second l, λ e. rw (← e) (itself first))

-- ---- what a step leaves

-- It is the public step: of a memory of 65,536 bytes `step_answer` accepts it, and answers and leaves what is compared.
pub step_is_answered : (edition : Edition) (cpu : Processor) (memory : List ℕ) → length memory ≡ 65536
    → step_answer (number_of edition) cpu (world memory clear clear)
    ≡ outcome (Ok (stepped edition cpu memory).result) (stepped edition cpu memory).left
unfolding refusal_of
step_is_answered edition cpu memory size = rw (named edition, number_and_back edition, eq-eqb _ _ size)

-- The record that it leaves has 65,543 bytes, as the one that it began with, so the two rows that are compared have one length.
pub after_step_size : (edition : Edition) (state : List ℕ) → length state ≡ 65543 → length (after_step edition state) ≡ 65543
unfolding bytes_of
after_step_size edition state size =
    let cpu : Processor = registers_of (take 7 state) in
    let memory : List ℕ = drop 7 state in
    let whole : length memory ≡ 65536 = length-drop 7 state ∙ omega (arith, size) in
    let kept = (step_keeps edition cpu (world memory clear clear) (fresh memory 8192 whole refl).sized).sized.memory in
    length-append (bytes_of (stepped edition cpu memory).result.cpu) (stepped edition cpu memory).left.memory ∙ omega (arith, kept)
