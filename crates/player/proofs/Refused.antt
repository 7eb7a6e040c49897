-- What the tests of a call say of the refusal of a packet, and what a refusal says of the answer.
-- Assumes nothing.
use Rattle.std.specs.Prelude.{ℕ, ◌≤◌, ◌≡◌, refl, List, Bool, true, false, cond, ◌&&◌, leb, length, Result, Ok, Err}
use Rattle.std.proofs.Common.{arith, sym, ap, ◌∙◌, true≢false, eq-eqb, ne_eqb}
use borrow.Author.Tests.{leb-true}
use Rattle.refusals.specs.declared.Refusal.{Refusal}
use Rattle.refusals.specs.declared.Refusal.TheVariants as reason
use Rattle.editions.specs.Editions.{is_edition}
use Rattle.state.specs.Registers.{is_whole}
use Rattle.player.specs.declared.head.Request.{Request}
use Rattle.player.specs.Head.{edition_in, until_in, registers_in, request_of, asked_in}
use Rattle.player.specs.Packet.{Packet, refusal_of, answer, Answers, answers, played_of, played_beside}
use Rattle.player.specs.Promises.{played_on, Two, two, played_both_on, played_second}

-- ---- what a head asks: w, n and e are its tests

asked_ok : (w n e : Bool) (x r : Request) → ◌≡◌ {A = Result Request Refusal} (Ok r) (cond (w && n) (cond e (Ok x) (Err reason.Edition)) (Err reason.Form))
    → ((w && n) ≡ true) × (e ≡ true) × (r ≡ x)
asked_ok true true true x r h = (refl, refl, grind (arith, h))
asked_ok true true false x r h = absurd (grind (arith, h))
asked_ok true false e x r h = absurd (grind (arith, h))
asked_ok false n e x r h = absurd (grind (arith, h))

asked_err : (w n e : Bool) (x : Request) (r : Refusal) (rest : Result Unit Refusal)
    → ◌≡◌ {A = Result Request Refusal} (Err r) (cond (w && n) (cond e (Ok x) (Err reason.Edition)) (Err reason.Form))
    → cond (w && n) (cond e rest (Err reason.Edition)) (Err reason.Form) ≡ Err r
asked_err true true true x r rest h = absurd (grind (arith, h))
asked_err true true false x r rest h = grind (arith, h)
asked_err true false e x r rest h = grind (arith, h)
asked_err false n e x r rest h = grind (arith, h)

second : (s t : Bool) → (s && t) ≡ true → t ≡ true
second true t h = h
second false t h = absurd (true≢false (sym h))

pub near : (head : List ℕ) {r : Request} → Ok r ≡ asked_in head → r.until ≤ 4294967280
near head {r} a =
    let w =
    asked_ok (is_whole (registers_in head)) (leb (until_in head) 4294967280) (is_edition (edition_in head)) (request_of head) r a in
    rw w.2 (leb-true _ _ (second (is_whole (registers_in head)) _ w.0))

-- ---- the refusal

module _ (p : Packet) where
  pub no_head : (length p.head ≡ 64 → ⊥) → refusal_of p ≡ Err reason.Form
  unfolding refusal_of
  no_head n = rw (ne_eqb _ _ n)

  module _ (h : length p.head ≡ 64) where
    pub no_chip : (length p.chip ≡ 512 → ⊥) → refusal_of p ≡ Err reason.Form
    unfolding refusal_of
    no_chip n = rw (eq-eqb _ _ h, ne_eqb _ _ n)

    module _ (c : length p.chip ≡ 512) where
      pub not_asked : {e : Refusal} → Err e ≡ asked_in p.head → refusal_of p ≡ Err e
      unfolding refusal_of
      not_asked a =
          rw (eq-eqb _ _ h, eq-eqb _ _ c)
          (asked_err (is_whole (registers_in p.head)) (leb (until_in p.head) 4294967280) (is_edition (edition_in p.head)) (request_of p.head) _ _ a)

      module _ {r : Request} (a : Ok r ≡ asked_in p.head) where
        well : ((is_whole (registers_in p.head) && leb (until_in p.head) 4294967280) ≡ true) × (is_edition (edition_in p.head) ≡ true) × (r ≡ request_of p.head)
        well =
            asked_ok (is_whole (registers_in p.head)) (leb (until_in p.head) 4294967280) (is_edition (edition_in p.head)) (request_of p.head) r a

        pub no_memory : (length p.world.memory ≡ 65536 → ⊥) → refusal_of p ≡ Err reason.Memory
        unfolding refusal_of
        no_memory n = rw (eq-eqb _ _ h, eq-eqb _ _ c, well.0, well.1, ne_eqb _ _ n)

        module _ (m : length p.world.memory ≡ 65536) where
          pub no_reads : (length p.world.reads ≡ 8192 → ⊥) → refusal_of p ≡ Err reason.Map
          unfolding refusal_of
          no_reads n = rw (eq-eqb _ _ h, eq-eqb _ _ c, well.0, well.1, eq-eqb _ _ m, ne_eqb _ _ n)

          module _ (s : length p.world.reads ≡ 8192) where
            pub no_writes : (length p.world.writes ≡ 8192 → ⊥) → refusal_of p ≡ Err reason.Map
            unfolding refusal_of
            no_writes n = rw (eq-eqb _ _ h, eq-eqb _ _ c, well.0, well.1, eq-eqb _ _ m, eq-eqb _ _ s, ne_eqb _ _ n)

            module _ (w : length p.world.writes ≡ 8192) where
              pub no_fetched : (length p.fetched ≡ 8192 → ⊥) → refusal_of p ≡ Err reason.Map
              unfolding refusal_of
              no_fetched n = rw (eq-eqb _ _ h, eq-eqb _ _ c, well.0, well.1, eq-eqb _ _ m, eq-eqb _ _ s, eq-eqb _ _ w, ne_eqb _ _ n)

              module _ (f : length p.fetched ≡ 8192) where
                pub no_made : (length p.made ≡ 8192 → ⊥) → refusal_of p ≡ Err reason.Map
                unfolding refusal_of
                no_made n =
                    rw (eq-eqb _ _ h, eq-eqb _ _ c, well.0, well.1, eq-eqb _ _ m, eq-eqb _ _ s, eq-eqb _ _ w, eq-eqb _ _ f, ne_eqb _ _ n)

                -- All tests are passed, and it is played on as it asks.
                pub taken : length p.made ≡ 8192 → (refusal_of p ≡ Ok tt) × (r ≡ request_of p.head)
                unfolding refusal_of
                taken d = (
                  rw (eq-eqb _ _ h, eq-eqb _ _ c, well.0, well.1, eq-eqb _ _ m, eq-eqb _ _ s, eq-eqb _ _ w, eq-eqb _ _ f, eq-eqb _ _ d),
                  well.2,
                )

-- ---- the answer

module _ (p : Packet) where
  pub refused : {e : Refusal} → refusal_of p ≡ Err e → answer (Err e) p ≡ played_of p
  unfolding played_of
  refused z = rw z

  pub accepted : {r : Request} {left : Packet} → (refusal_of p ≡ Ok tt) × (r ≡ request_of p.head) → left ≡ played_on r p
      → answer (Ok tt) left ≡ played_of p
  unfolding played_of
  accepted z l = rw z.0 (ap (λ (q : Packet). answer (Ok tt) q) (l ∙ ap (λ (r : Request). played_on r p) z.1))

module _ (p q : Packet) where
  pub first_refused : {e : Refusal} → refusal_of p ≡ Err e → answers (Err e) p q ≡ played_beside p q
  unfolding played_beside
  first_refused z = rw z

  pub second_refused : (asked : Request) {e : Refusal} → refusal_of q ≡ Err e → answers (Err e) p q ≡ played_second asked p q
  second_refused asked z = rw z

  pub second_accepted : (asked : Request) {first second : Packet} → refusal_of q ≡ Ok tt
      → two first second ≡ played_both_on asked p q → answers (Ok tt) first second ≡ played_second asked p q
  second_accepted asked z l = rw z (ap (λ (t : Two). answers (Ok tt) t.first t.second) l)

  pub first_accepted : {r : Request} {a : Answers} → (refusal_of p ≡ Ok tt) × (r ≡ request_of p.head) → a ≡ played_second r p q
      → a ≡ played_beside p q
  unfolding played_beside
  first_accepted {r} z l = l ∙ ap (λ (r : Request). played_second r p q) z.1 ∙ rw z.0
