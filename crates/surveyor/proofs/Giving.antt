-- Numbers given as bytes, one number at a time: to store what is left from here on leaves the buffer that storing all of it leaves.
-- Assumes nothing.
use Rattle.std.proofs.Common.{ℕ, suc, ◌+◌, ◌*◌, ◌/◌, ◌%◌, ◌<◌, ◌≤◌, Bool, true, false, cond, ◌≡◌, refl, ◌∙◌, List, ◌∷◌, Ok, Err, length, get_or, drop, zero-add, le-leb, drop-cons, Fits, w16, arith}
use Rattle.std.proofs.Math.ListN.{set, length-set, drop_of_length-le}
use Rattle.std.proofs.Math.Seq.{sets, sets-eq}
use Rattle.std.proofs.lemmas.Bool.{lt-leb}
use mir.Val.{bool_byte}
use Rattle.refusals.specs.declared.Refusal.TheVariants.{Room}
use Rattle.text.specs.Given.{Given, says}
use Rattle.surveyor.specs.Survey.{in_bytes}
use Rattle.surveyor.specs.Lengths.{length_bytes}

one_or_zero : (b : Bool) → bool_byte b ≡ cond b 1 0
one_or_zero true = refl
one_or_zero false = refl

module _ (numbers : List ℕ) where
  -- The byte of the touch stands in the buffer already, which is then called lent.
  pub record Giving (lent out : List ℕ) (i : ℕ) : Type 0 where
    pub room : 2 * length numbers + 1 ≤ length lent
    pub size : length out ≡ length lent
    pub same : sets out (2 * i + 1) (in_bytes (drop i numbers)) ≡ sets lent 1 (in_bytes numbers)

  pub begin_give : {out : List ℕ} → 2 * length numbers + 1 ≤ length out → Giving out out 0
  begin_give room = record { room = room; size = refl; same = refl }

  module _ (lent out : List ℕ) {i : ℕ} (g : Giving lent out i) where
    pub two_places : i < length numbers → 2 * i + 2 < length out
    two_places h = omega (arith, g.room, g.size)

    pub one_given : i < length numbers → Fits w16 (get_or numbers i 0)
        → Giving lent (set (set out (2 * i + 1) (get_or numbers i 0 % 256)) (2 * i + 2) (get_or numbers i 0 / 256 % 256)) (i + 1)
    unfolding in_bytes
    one_given h fits =
        let high : get_or numbers i 0 / 256 % 256 ≡ get_or numbers i 0 / 256 = omega arith in
        let next = drop-cons numbers i 0 h in
        let two : 2 * i + 2 ≡ suc (2 * i + 1) = omega arith in
        let three : 2 * (i + 1) + 1 ≡ suc (suc (2 * i + 1)) = omega arith in
        let one : i + 1 ≡ suc i = omega arith in
        record {
          room = g.room;
          size = rw (length-set, length-set) g.size;
          same = rw (high, three, two, one) (rw next at g.same);
        }

    all_given : length numbers ≤ i → out ≡ sets lent 1 (in_bytes numbers)
    unfolding in_bytes
    all_given h = rw (drop_of_length-le numbers {i = i} h) at g.same

  -- ---- what the call gives

  module _ (touch : Bool) (before : List ℕ) where
    -- the touch, and the bytes
    abbrev told : List ℕ
    told = cond touch 1 0 ∷ in_bytes numbers

    size_told : length told ≡ 2 * length numbers + 1
    size_told = omega (arith, length_bytes numbers)

    pub no_room : length before < 2 * length numbers + 1 → Given (says told) before before (Err Room)
    no_room h = let less = lt-leb (length told) (length before) (omega (arith, size_told)) in record { answer = rw less; buffer = rw less }

    pub room_for_all : {out : List ℕ} {i : ℕ} → 2 * length numbers + 1 ≤ length before → Giving (set before 0 (bool_byte touch)) out i
        → length numbers ≤ i → Given (says told) before out (Ok (2 * length numbers + 1))
    room_for_all {out} h g e =
        let fits = le-leb (length told) (length before) (omega (arith, size_told)) in
        let all : out ≡ sets before 0 told = rw (← one_or_zero touch) (all_given (set before 0 (bool_byte touch)) out g e) in
        record {
          answer = rw (fits, size_told);
          buffer = rw fits (all ∙ sets-eq told before 0 (omega (arith, size_told)) ∙ rw zero-add);
        }
