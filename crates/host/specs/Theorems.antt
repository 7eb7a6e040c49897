-- What holds of every playing: what the host changes by itself, and how playings go on, alone and side by side.
--
-- The words: `laid_out d chip memory` is the memory that a step finds, with what the devices answer. `turn_of edition p` is the playing p
-- after one step more. `goes_on until player`: there is a step to take. `play_of edition until n p` takes steps while there is one to take,
-- no more than n; the contract of `play` says so of the code. `beside_of edition until n p q` takes steps of both while they are alike and
-- each has one to take, no more than n; the contract of `play_both` says so. `are_alike p q`: they are alike by their last step.
-- Assumes nothing.
use Prim.Native.Nat.{ℕ, zero, suc, ◌+◌, ◌/◌, ◌%◌, ◌<◌, ◌≤◌}
use Rattle.std.specs.Prelude.{◌≡◌, Bool, ◌&&◌, List, [], ◌∷◌, ◌⊎◌, length, get_or, set}
use Rattle.std.proofs.Math.Path.{refl, ap₂}
use Rattle.std.proofs.Common.{ap, ◌∙◌, ⊎_elim, suc-add, add-one, get_or-set_other}
use Rattle.std.proofs.Math.Bool.{true, false}
use Rattle.std.proofs.lemmas.Bool.{false≢true}
use Rattle.std.proofs.Math.Nat.{zero-add}
use native.Mathlib.Omega.{arith}
use Rattle.std.proofs.lemmas.List.Edits.{sets}
use Rattle.marks.specs.Maps.{is_marked}
use Rattle.memory.specs.World.{World, Sized, world}
use Rattle.memory.specs.Access.{perform}
use Rattle.editions.specs.declared.Edition.{Edition}
use Rattle.engine.specs.Entry.{counted_step}
use Rattle.watch.proofs.Byte.{both, byte_of, same_byte}
use Rattle.watch.proofs.Maps.{get_other}
use Rattle.devices.specs.declared.Devices.{Devices}
use Rattle.host.specs.Turn.{Playing, sent, counts, laid_out, ready, turn_of}
use Rattle.host.specs.Play.{goes_on, Progress, progress, play_of}
use Rattle.host.specs.Beside.{are_alike, Pair, pair, beside_of}
use Rattle.host.specs.Lengths.{ready_sized}

-- An address that lies before a first one or behind a last one.
abbrev pub Outside : ℕ → ℕ → ℕ → Type 0
Outside first last a = (a < first) ⊎ (last < a)

-- The marks of other addresses than the devices' stand in other bytes of a map than theirs, 30 and 31.
pub other_byte : {k : ℕ} → Outside 0xF0 0xFF k → (k / 8 ≡ 30 → ⊥) × (k / 8 ≡ 31 → ⊥)
other_byte = ⊎_elim (λ g. (λ e. omega arith, λ e. omega arith)) (λ g. (λ e. omega arith, λ e. omega arith))

-- ---- what the host changes by itself

-- bytes stored from a place on leave those before it, and those behind them
sets_before : (vs l : List ℕ) (i k : ℕ) → k < i → get_or (sets l i vs) k 0 ≡ get_or l k 0
sets_before [] l i k h = refl
sets_before (v ∷ vs) l i k h = sets_before vs (set l i v) (suc i) k (omega arith) ∙ get_or-set_other l i k v 0 (λ e. omega arith)

sets_behind : (vs l : List ℕ) (i k : ℕ) → i + length vs ≤ k → get_or (sets l i vs) k 0 ≡ get_or l k 0
sets_behind [] l i k h = refl
sets_behind (v ∷ vs) l i k h = sets_behind vs (set l i v) (suc i) k (omega arith) ∙ get_or-set_other l i k v 0 (λ e. omega arith)

-- No byte of memory outside 00F3 to 00FF is changed; and the length stays (Lengths).
pub laid_out_only_devices : (d : Devices) (chip memory : List ℕ) (a : ℕ) → Outside 0xF3 0xFF a
    → get_or (laid_out d chip memory) a 0 ≡ get_or memory a 0
unfolding laid_out
laid_out_only_devices d chip memory a =
    ⊎_elim
    (λ h. sets_before (counts d) (sets memory 0xF3 answers) 0xFD a (omega arith) ∙ sets_before answers memory 0xF3 a h)
    (λ h. sets_behind (counts d) (sets memory 0xF3 answers) 0xFD a (omega arith) ∙ sets_behind answers memory 0xF3 a (omega arith))
  where
    answers : List ℕ
    answers = get_or chip (get_or memory 0xF2 0 % 128) 0 ∷ sent d

-- On memory and maps of the right lengths, no mark of an address outside 00F0 to 00FF is set or cleared: both maps have there what the step
-- leaves of those that there were.
module _ (edition : Edition) (p : Playing) (size : Sized p.world) (k : ℕ) (h : k < 65536) (other : Outside 0xF0 0xFF k) where
  abbrev found : World
  found = world (laid_out p.player.devices p.chip p.world.memory) p.world.reads p.world.writes

  same_bytes : byte_of (k / 8) (turn_of edition p).world ≡ byte_of (k / 8) (perform (counted_step edition p.player.cpu) found).left
  unfolding turn_of
  same_bytes =
      same_byte (counted_step edition p.player.cpu) (k / 8) (omega arith) (ready p) found
      (let sized = ready_sized p size in record { reads = sized.reads; writes = sized.writes })
      (record { reads = size.reads; writes = size.writes })
      refl
      (let n = other_byte other in
      ap₂ both (get_other p.world.reads 0 (k / 8) n.0 n.1) (get_other p.world.writes 0 (k / 8) n.0 n.1))

  pub marks_are_the_steps :
      let before = world (laid_out p.player.devices p.chip p.world.memory) p.world.reads p.world.writes in
      let left = (perform (counted_step edition p.player.cpu) before).left in
      (is_marked (turn_of edition p).world.reads k ≡ is_marked left.reads k)
      × (is_marked (turn_of edition p).world.writes k ≡ is_marked left.writes k)
  marks_are_the_steps = (rw (ap (λ b. b.read) same_bytes), rw (ap (λ b. b.stored) same_bytes))

-- ---- playings in parts

module _ (edition : Edition) (until : ℕ) where
  -- Where there is no step to take, nothing changes, whatever the budget.
  pub at_rest : (n : ℕ) (p : Playing) → goes_on until p.player ≡ false → play_of edition until n p ≡ progress p 0
  unfolding play_of
  at_rest zero p rest = refl
  at_rest (suc n) p rest = rw rest

  -- and where there is one, it is taken
  pub one_more : (n : ℕ) (p : Playing) → goes_on until p.player ≡ true
      → let more = play_of edition until n (turn_of edition p) in play_of edition until (suc n) p ≡ progress more.playing (more.steps + 1)
  unfolding play_of
  one_more n p on = rw on

  -- what a playing leaves of no steps, and of one more
  no_step : (p : Playing) → (play_of edition until 0 p).playing ≡ p
  unfolding play_of
  no_step p = refl

  later : (n : ℕ) (p : Playing) → goes_on until p.player ≡ true
      → (play_of edition until (suc n) p).playing ≡ (play_of edition until n (turn_of edition p)).playing
  later n p on = ap (λ (o : Progress). o.playing) (one_more n p on)

  next : {n : ℕ} (p : Playing) {after : Playing} → goes_on until p.player ≡ true
      → play_of edition until n (turn_of edition p) ≡ progress after n → play_of edition until (n + 1) p ≡ progress after (n + 1)
  next {n} p on e = rw (add-one n, one_more n p on, e) (ap (progress _) (add-one n))

  -- A playing of m, and then one of n from what it left, is a playing of m + n, with the steps of both.
  pub in_parts : (m n : ℕ) (p : Playing)
      → let o = play_of edition until m p in
      let q = play_of edition until n o.playing in
      play_of edition until (m + n) p ≡ progress q.playing (o.steps + q.steps)
  unfolding play_of
  in_parts zero n p = simp zero-add
  in_parts (suc m) n p = go (goes_on until p.player) refl (in_parts m n (turn_of edition p))
    where
      go : (b : Bool) → goes_on until p.player ≡ b
          → (let o = play_of edition until m (turn_of edition p) in
          let q = play_of edition until n o.playing in
          play_of edition until (m + n) (turn_of edition p) ≡ progress q.playing (o.steps + q.steps))
          → let o = play_of edition until (suc m) p in
          let q = play_of edition until n o.playing in
          play_of edition until (suc m + n) p ≡ progress q.playing (o.steps + q.steps)
      go true e later =
          let o = play_of edition until m (turn_of edition p) in
          let q = play_of edition until n o.playing in
          let steps : o.steps + q.steps + 1 ≡ o.steps + 1 + q.steps = omega arith in
          rw (suc-add, one_more m p e, one_more (m + n) p e, later, steps)
      go false e later = rw (at_rest (suc m) p e, at_rest (suc m + n) p e, at_rest n p e)

-- ---- playings side by side

all_three : (a b c : Bool) → (a && b && c) ≡ true → (a ≡ true) × (b ≡ true) × (c ≡ true)
all_three true true c e = (refl, refl, e)
all_three true false c e = absurd (false≢true e)
all_three false b c e = absurd (false≢true e)

module _ (edition : Edition) (until : ℕ) where
  -- whether both take a step
  abbrev pub both_go : Playing → Playing → Bool
  both_go p q = are_alike p q && goes_on until p.player && goes_on until q.player

  of_both : (p q : Playing) → both_go p q ≡ true
      → (are_alike p q ≡ true) × (goes_on until p.player ≡ true) × (goes_on until q.player ≡ true)
  of_both p q e = all_three (are_alike p q) (goes_on until p.player) (goes_on until q.player) e

  -- no step is taken where there is no budget, or where one of these fails; and else one of each
  pub no_budget : (p q : Playing) → beside_of edition until 0 p q ≡ pair p q 0
  unfolding beside_of
  no_budget p q = refl

  pub parted : (n : ℕ) (p q : Playing) → both_go p q ≡ false → beside_of edition until n p q ≡ pair p q 0
  unfolding beside_of
  parted zero p q e = refl
  parted (suc n) p q e = rw e

  pub together : (n : ℕ) (p q : Playing) → both_go p q ≡ true
      → let more = beside_of edition until n (turn_of edition p) (turn_of edition q) in
      beside_of edition until (suc n) p q
      ≡ record { first = more.first; second = more.second; steps = more.steps + 1; alike = more.alike }
  unfolding beside_of
  together n p q e = rw e

  -- Each of the two is left as a playing by itself leaves it, for a budget of the steps that are answered; it takes all of them.
  pub record EachPlays (p q : Playing) (b : Pair) : Type 0 where
    pub first : play_of edition until b.steps p ≡ progress b.first b.steps
    pub second : play_of edition until b.steps q ≡ progress b.second b.steps

  none_taken : (p q : Playing) → EachPlays p q (pair p q 0)
  unfolding play_of
  none_taken p q = record { first = refl; second = refl }

  pub beside_is_play : (n : ℕ) (p q : Playing) → EachPlays p q (beside_of edition until n p q)
  beside_is_play zero p q = rw (no_budget p q) (none_taken p q)
  beside_is_play (suc n) p q = go (both_go p q) refl (beside_is_play n (turn_of edition p) (turn_of edition q))
    where
      go : (b : Bool) → both_go p q ≡ b
          → EachPlays (turn_of edition p) (turn_of edition q) (beside_of edition until n (turn_of edition p) (turn_of edition q))
          → EachPlays p q (beside_of edition until (suc n) p q)
      go true e later =
          let on = of_both p q e in
          rw (together n p q e) (record {
            first = next edition until p on.1 later.first;
            second = next edition until q on.2 later.second;
          })
      go false e later = rw (parted (suc n) p q e) (none_taken p q)

  -- After every number of steps below those that are answered, both were alike: they part, if they do, with the last.
  pub alike_all_along : (n : ℕ) (p q : Playing) (m : ℕ) → m < (beside_of edition until n p q).steps
      → are_alike (play_of edition until m p).playing (play_of edition until m q).playing ≡ true
  alike_all_along zero p q m h = absurd (omega (arith, rw (no_budget p q) at h))
  alike_all_along (suc n) p q m h = go (both_go p q) refl m h (alike_all_along n (turn_of edition p) (turn_of edition q))
    where
      go : (b : Bool) → both_go p q ≡ b → (m : ℕ) → m < (beside_of edition until (suc n) p q).steps
          → ((i : ℕ) → i < (beside_of edition until n (turn_of edition p) (turn_of edition q)).steps
          → are_alike (play_of edition until i (turn_of edition p)).playing (play_of edition until i (turn_of edition q)).playing ≡ true)
          → are_alike (play_of edition until m p).playing (play_of edition until m q).playing ≡ true
      go true e zero h all = ap₂ are_alike (no_step edition until p) (no_step edition until q) ∙ (of_both p q e).0
      go true e (suc m) h all =
          let on = of_both p q e in
          ap₂ are_alike (later edition until m p on.1) (later edition until m q on.2)
          ∙ all m (omega (arith, rw (together n p q e) at h))
      go false e m h all = absurd (omega (arith, rw (parted (suc n) p q e) at h))
