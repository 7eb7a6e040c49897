-- What holds of the two ways between state records and SPC files: which bytes are unnamed, what is accepted, and that nothing is lost.
-- The one hypothesis is that files and records hold bytes, which the code's types give.
-- Assumes nothing.
use Rattle.std.specs.Prelude.{ℕ, ◌<◌, ◌≤◌, ◌≡◌, refl, Bool, true, false, List, ◌++◌, Result, Ok, Err, length, get_or, replicate}
use Rattle.std.proofs.Common.{true≢false, sym, ap, ◌∙◌, ⊎_elim, inl, inr, arith, length-append, take_at, get_or-take}
use mathlib.Core.List.{List-discrete}
use Rattle.std.proofs.Math.Decide.{ℕ_discrete, dec_le}
use Rattle.std.proofs.lemmas.List.{length-replicate}
use borrow.Author.Tests.{eq-eqb, ne_eqb}
use Rattle.refusals.specs.declared.Refusal.{Refusal}
use Rattle.refusals.specs.declared.Refusal.TheVariants.{Unnamed as not_default}
use Rattle.processor.specs.declared.Processor.{Processor}
use Rattle.spc_file.specs.Layout.{signature, laid}
use Rattle.spc_file.specs.Calls.{refusal_of}
use Rattle.spc_file.specs.Theorems.{Accepted, accepts, accepted, Stored}
use Rattle.spc_file.specs.Theorems.{laid_elsewhere, laid_length, laid_alike, still_accepted}
use Rattle.conversion.specs.Unnamed.{unnamed, place_at, Unnamed, with_defaults, all_default, EachDefault}
use Rattle.conversion.specs.Calls.{to_file_refusal, new_file, to_record_refusal}
use Rattle.conversion.specs.Defaults.{each_stretch, not_both, unnamed_at, length_defaults}
use Rattle.conversion.specs.Defaults.{keeps, kept, yes_all, not_all, has_them, begins_as_before}

-- ---- which bytes are unnamed

-- No unnamed byte is one of the signature's 33, or one to which a write into a file stores, the record's and the memory's;
pub unnamed_elsewhere : {at default : ℕ} → place_at at ≡ unnamed default → (33 ≤ at) × (Stored at → ⊥)
unnamed_elsewhere {at} {default} =
    each_stretch (λ p. p ≡ unnamed default → (33 ≤ at) × (Stored at → ⊥)) at
    (λ a e. absurd (not_both e))
    (λ a b e. (a, ⊎_elim (λ p. omega arith) (λ p. omega arith)))
    (λ a b e. absurd (not_both e))
    (λ a b e. (omega arith, ⊎_elim (λ p. omega arith) (λ p. omega arith)))
    (λ a b e. absurd (not_both e))
    (λ a e. (omega arith, ⊎_elim (λ p. omega arith) (λ p. omega arith)))

-- every other byte is unnamed.
pub elsewhere_unnamed : (at : ℕ) → 33 ≤ at → (Stored at → ⊥) → Unnamed (place_at at)
elsewhere_unnamed at h other = unnamed_at at (λ a. omega arith) (λ a b. other (inl (a, b))) (λ a b. other (inr (a, b)))

-- ---- files whose unnamed bytes have their defaults

module _ (file : List ℕ) where
  -- The test passes if every unnamed byte has its default,
  pub default_each : EachDefault file → all_default file ≡ true
  default_each d = yes_all file (keeps file d)

  -- and only then.
  pub each_default : all_default file ≡ true → EachDefault file
  each_default e = go (List-discrete ℕ_discrete (with_defaults file) file)
    where
      go : Dec (with_defaults file ≡ file) → EachDefault file
      go (yes d) = kept file d
      go (no n) = absurd (true≢false (sym e ∙ not_all file n))

  not_each : (EachDefault file → ⊥) → all_default file ≡ false
  not_each n = not_all file (λ e. n (kept file e))

-- ---- files that hold nothing but a state record

-- An SPC file in which every unnamed byte has its default.
pub record Plain (file : List ℕ) : Type 0 where
  pub accepted : Accepted file
  pub defaults : EachDefault file

-- Any SPC file, with its defaults, is one.
pub made_plain : (file : List ℕ) → Accepted file → Plain (with_defaults file)
made_plain file a = record {
  accepted = record { size = length_defaults 0 file ∙ a.size; begins = begins_as_before file ∙ a.begins };
  defaults = has_them file;
}

pub signature_size : length signature ≡ 33
unfolding signature
signature_size = refl

-- A new file is one.
pub new_plain : Plain new_file
unfolding new_file
new_plain =
    made_plain (signature ++ replicate 66015 0)
    (record {
      size = omega (arith, length-append signature (replicate 66015 0), length-replicate {A = ℕ} 66015 0, signature_size);
      begins = take_at signature (replicate 66015 0) 33 signature_size;
    })

-- Laid into two of them, a record and a memory leave the same file,
pub plain_alike : {first second : List ℕ} → Plain first → Plain second → (cpu : Processor) (memory : List ℕ) → length memory ≡ 65536
    → laid cpu memory first ≡ laid cpu memory second
plain_alike {first} {second} f s cpu memory size =
    laid_alike cpu memory first second size f.accepted.size s.accepted.size (λ at h other. go at h other (dec_le at 32))
  where
    begins : (at : ℕ) → at ≤ 32 → {file : List ℕ} → Plain file → get_or file at 0 ≡ get_or signature at 0
    begins at h {file} p = sym (get_or-take 33 file at 0 (omega arith)) ∙ ap (λ (l : List ℕ). get_or l at 0) p.accepted.begins

    go : (at : ℕ) → at < 66048 → (Stored at → ⊥) → Dec (at ≤ 32) → get_or first at 0 ≡ get_or second at 0
    go at h other (yes a) = begins at a f ∙ sym (begins at a s)
    go at h other (no a) =
        let u = elsewhere_unnamed at (omega arith) other in
        f.defaults at u.default (omega (arith, f.accepted.size)) u.is
        ∙ sym (s.defaults at u.default (omega (arith, s.accepted.size)) u.is)

-- and it is such a file, too.
pub plain_still : {file : List ℕ} → Plain file → (cpu : Processor) (memory : List ℕ) → length memory ≡ 65536 → Plain (laid cpu memory file)
plain_still {file} p cpu memory size = record {
  accepted = still_accepted cpu memory file p.accepted size;
  defaults = λ at default h e.
      laid_elsewhere cpu memory file size at (unnamed_elsewhere e).1
      ∙ p.defaults at default (omega (arith, laid_length cpu memory file)) e;
}

-- ---- what is accepted

module _ (state file : List ℕ) where
  -- A record is accepted if it has its length and the file has its own,
  pub takes_record : length state ≡ 65543 → length file ≡ 66048 → to_file_refusal state file ≡ Ok tt
  takes_record r f = rw (eq-eqb _ _ r, eq-eqb _ _ f)

  -- and only then.
  pub took_record : to_file_refusal state file ≡ Ok tt → (length state ≡ 65543) × (length file ≡ 66048)
  took_record e = go (ℕ_discrete (length state) 65543) (ℕ_discrete (length file) 66048)
    where
      go : Dec (length state ≡ 65543) → Dec (length file ≡ 66048) → (length state ≡ 65543) × (length file ≡ 66048)
      go (yes r) (yes f) = (r, f)
      go (yes r) (no n) = let other = rw (eq-eqb _ _ r, ne_eqb _ _ n) at e in cc
      go (no n) f = let other = rw (ne_eqb _ _ n) at e in cc

module _ (file state : List ℕ) (size : length state ≡ 65543) where
  -- Where the record has its length and reading accepts the file, it is accepted if every unnamed byte has its default,
  pub takes_file : Plain file → to_record_refusal file state ≡ Ok tt
  takes_file p = rw (eq-eqb _ _ size, accepts p.accepted, default_each file p.defaults)

  -- and refused for an unnamed byte if not;
  pub refuses_file : Accepted file → (EachDefault file → ⊥) → to_record_refusal file state ≡ Err not_default
  refuses_file a n = rw (eq-eqb _ _ size, accepts a, not_each file n)

-- accepted, it is such a file, and the lent record has its length.
pub took_file : (file state : List ℕ) → to_record_refusal file state ≡ Ok tt → (length state ≡ 65543) × Plain file
took_file file state e = go (ℕ_discrete (length state) 65543) (refusal_of file) refl (all_default file) refl
  where
    go : Dec (length state ≡ 65543) → (r : Result Unit Refusal) → refusal_of file ≡ r → (all : Bool) → all_default file ≡ all
        → (length state ≡ 65543) × Plain file
    go (yes s) (Ok x) z true d = (s, record { accepted = accepted z; defaults = each_default file d })
    go (yes s) (Ok x) z false d = let other = rw (eq-eqb _ _ s, z, d) at e in cc
    go (yes s) (Err refusal) z all d = let other = rw (eq-eqb _ _ s, z) at e in cc
    go (no n) r z all d = let other = rw (ne_eqb _ _ n) at e in cc
