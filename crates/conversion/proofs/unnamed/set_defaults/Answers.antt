-- What is copied and filled into the three stretches is what stands there in the file with its defaults.
-- Assumes nothing.
use Rattle.std.proofs.Common.{◌≡◌, ℕ, ◌+◌, ◌≤◌, List, length, drop, replicate, refl, ◌∙◌, arith, length-drop, length-take-le}
use Rattle.std.proofs.Math.Seq.{length-sets}
use Rattle.std.proofs.lemmas.List.Edits.{sets}
use borrow.Rule.Slice.PartMut.{put_mid, mid_of}
use Rattle.laws.specs.Stored.{put_stored}
use Rattle.conversion.specs.Unnamed.{first_four, with_defaults}
use Rattle.conversion.proofs.Stretches.{Zeros, zeros_lem, all_there}
use Rattle.conversion.proofs.unnamed.set_defaults.Goals as goal

-- a part that is filled with zeros
zeroed : (row : List ℕ) (at n : ℕ) {part : List ℕ} → at + n ≤ length row → part ≡ replicate (length (mid_of at n row)) 0 → Zeros n part
zeroed row at n room e =
    let size : length (mid_of at n row) ≡ n = length-take-le n (drop at row) (rw length-drop (omega arith)) in zeros_lem n (rw size at e)

laid : (file : List ℕ) {first second third : List ℕ} → length file ≡ 66048 → first ≡ first_four
    → second ≡ replicate (length (mid_of 44 212 (put_mid 33 4 file first))) 0
    → third ≡ replicate (length (mid_of 65792 256 (put_mid 44 212 (put_mid 33 4 file first) second))) 0
    → put_mid 65792 256 (put_mid 44 212 (put_mid 33 4 file first) second) third ≡ with_defaults file
laid file {first} {second} {third} size f s t =
    let one : put_mid 33 4 file first ≡ sets file 33 first_four = rw f (put_stored file first_four 33 refl (omega arith)) in
    let z = zeroed (sets file 33 first_four) 44 212 (rw length-sets (omega arith)) (rw one at s) in
    let two : put_mid 44 212 (put_mid 33 4 file first) second ≡ sets (sets file 33 first_four) 44 second =
    rw one (put_stored (sets file 33 first_four) second 44 z.size (rw length-sets (omega arith))) in
    let y = zeroed (sets (sets file 33 first_four) 44 second) 65792 256 (rw (length-sets, length-sets) (omega arith)) (rw two at t) in
    rw two (put_stored (sets (sets file 33 first_four) 44 second) third 65792 y.size (rw (length-sets, length-sets) (omega arith)))
    ∙ all_there file second third size z y

pub returns : goal.returns
returns c =
    laid c.args.file.now c.told-file c.copy_from_slice.ensures.after (c.fill.ensures.after (λ y e. e)) (c.fill-2.ensures.after (λ y e. e))
