-- A buffer that starts with so much of a listing as is written, and one line more of it.
-- Assumes nothing.
use Rattle.std.proofs.Common.{◌≡◌, ℕ, ◌+◌, ◌-◌, ◌≤◌, List, [], ◌∷◌, ◌++◌, length, take, drop, Result, Ok, IsOk, sym, refl, ap, ◌∙◌, append_assoc, append-nil, arith, length-append, length-drop, length-take-le, drop-drop, take-add, take_at, drop_at, le-leb}
use Rattle.std.specs.List.{concat}
use lib.Seq.{length_front, take-length, drop-length, take-append_seam, drop-append_seam}
use borrow.Author.Rules.{part_to_end}
use borrow.Rule.Slice.PartMut.{put_mid, Post-is}
use Rattle.refusals.specs.declared.Refusal.{Refusal}
use Rattle.text.specs.Given.{Given, says, laid_into}

-- The buffer is as it was behind what is written of the listing, and the lines that are left are the rest of it.
pub record Laid (all before out : List ℕ) (done : ℕ) (left : List (List ℕ)) : Type 0 where
  pub within : done ≤ length all
  pub rest : drop done all ≡ concat left
  pub laid : out ≡ take done all ++ drop done before

pub nothing_yet : (all before : List ℕ) (left : List (List ℕ)) → concat left ≡ all → Laid all before before 0 left
nothing_yet all before left e = record { within = omega arith; rest = sym e; laid = refl }

module _ {all before out : List ℕ} {done : ℕ} {left : List (List ℕ)} (w : Laid all before out done left) (room : length all ≤ length before) where
  done_long : length (take done all) ≡ done
  done_long = length-take-le done all w.within

  still_long : length out ≡ length before
  still_long =
      rw w.laid (length_front before (take done all) done (done_long ∙ sym (length-take-le done before (omega (arith, w.within)))))

  -- where no line is left, it starts with the whole listing
  pub all_laid : left ≡ [] → out ≡ laid_into before all
  all_laid none =
      let nothing = rw length-drop at (ap length (rw none at w.rest)) in
      let whole : done ≡ length all = omega (arith, w.within) in
      rw (whole, take-length) at w.laid

  -- the line at hand, given into the rest of it
  module _ {line part : List ℕ} {later : List (List ℕ)} {r : Result ℕ Refusal} (first : left ≡ line ∷ later)
      (gives : Given (says line) (take (length out - done) (drop done out)) part r) where
    split : drop done all ≡ line ++ concat later
    split = rw first at w.rest

    inside : done + length line ≤ length all
    inside = let parts = rw (length-drop, length-append) at (ap length split) in omega (arith, w.within)

    behind : take (length out - done) (drop done out) ≡ drop done before
    behind = part_to_end out done ∙ rw w.laid (drop_at (take done all) (drop done before) done done_long)

    fits : length line ≤ length (drop done before)
    fits = rw length-drop (omega (arith, inside))

    answer : r ≡ Ok (length line)
    answer = rw (behind, le-leb (length line) (length (drop done before)) fits) at gives.answer

    pub accepted : IsOk r
    accepted = rw answer refl

    pub one_more : (n : ℕ) → r ≡ Ok n → Laid all before (put_mid done (length out - done) out part) (done + n) later
    one_more n is =
        let same : n ≡ length line = let e = answer in cc in
        let given = rw (behind, le-leb (length line) (length (drop done before)) fits) at gives.buffer in
        let none = Post-is done (length out) out (omega (arith, still_long, w.within)) ∙ drop-length out in
        let front = ap (take done) w.laid ∙ take_at (take done all) (drop done before) done done_long in
        let more : take (done + length line) all ≡ take done all ++ line = rw (take-add, split, take-append_seam) in
        rw same (record {
          within = inside;
          rest = rw (← drop-drop (length line) done all, split, drop-append_seam);
          laid = rw (none, front, given, more, append-nil, drop-drop, append_assoc);
        })
