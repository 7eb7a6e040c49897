-- Two records are equal, field by field, exactly if their registers, the byte of their flags and the number of their states are the same.
-- Assumes nothing.
use Rattle.std.proofs.Common.{◌≡◌, Bool, true, false, true≢false, ◌&&◌, eqb, refl, sym, ap, subst, ◌∙◌, eq-eqb, eqb-true}
use Rattle.std.proofs.Math.Bool.{beq, and-true, and-false}
use denote.Enum.Bare.{sameb, same_true, true_same}
use Rattle.psw.specs.Status.{byte_of, flags_of}
use Rattle.psw.specs.Theorems.{flags_to_byte_and_back}
use Rattle.psw.specs.declared.ProgramStatusWord.{ProgramStatusWord}
use Rattle.waking.specs.States.{number_of, state_of}
use Rattle.waking.specs.Theorems.{number_and_back}
use Rattle.waking.specs.contracts.State.{the_type}
use Rattle.waking.specs.declared.State.{State}
use Rattle.processor.specs.declared.Processor.{Processor}
use Rattle.host.specs.Beside.{same_registers}

-- Two tests are the same where each that holds lets the other hold.
by_each : (s t : Bool) → (s ≡ true → t ≡ true) → (t ≡ true → s ≡ true) → s ≡ t
by_each true t f g = sym (f refl)
by_each false true f g = g refl
by_each false false f g = refl

own : (s : Bool) → beq s s ≡ true
own true = refl
own false = refl

same_flag : (s t : Bool) → beq s t ≡ true → s ≡ t
same_flag true true h = refl
same_flag true false h = sym h
same_flag false true h = h
same_flag false false h = refl

-- a flag of two words, and the others
and_more : {P : Type 0} (x y : Bool) {rest : Bool} → (rest ≡ true → P) → (beq x y && rest) ≡ true → (x ≡ y) × P
and_more true true f h = (refl, f h)
and_more true false f h = absurd (true≢false (sym h))
and_more false true f h = absurd (true≢false (sym h))
and_more false false f h = (refl, f h)

abbrev flags_equal : ProgramStatusWord → ProgramStatusWord → Bool
flags_equal p q =
    beq p.n q.n && (beq p.v q.v && (beq p.p q.p && (beq p.b q.b && (beq p.h q.h && (beq p.i q.i && (beq p.z q.z && beq p.c q.c))))))

flags_are : (p q : ProgramStatusWord) → flags_equal p q ≡ eqb (byte_of p) (byte_of q)
flags_are p q = by_each _ _ (λ h. eq-eqb _ _ (ap byte_of (same h))) (λ h. equal (eqb-true _ _ h))
  where
    same : flags_equal p q ≡ true → p ≡ q
    same h =
        let n =
        and_more p.n q.n (and_more p.v q.v (and_more p.p q.p (and_more p.b q.b (and_more p.h q.h (and_more p.i q.i (and_more p.z q.z (same_flag p.c q.c)))))))
        h in
        let v = n.1 in
        let f = v.1 in
        let b = f.1 in
        let half = b.1 in
        let i = half.1 in
        let z = i.1 in
        rw (n.0, v.0, f.0, b.0, half.0, i.0, z.0, z.1)

    equal : byte_of p ≡ byte_of q → flags_equal p q ≡ true
    equal e =
        let is : p ≡ q = sym (flags_to_byte_and_back p) ∙ ap flags_of e ∙ flags_to_byte_and_back q in
        subst (λ (x : ProgramStatusWord). flags_equal p x ≡ true) is
        (rw (own p.n, own p.v, own p.p, own p.b, own p.h, own p.i, own p.z, own p.c))

abbrev states_equal : State → State → Bool
states_equal a b = sameb the_type a b

states_are : (a b : State) → states_equal a b ≡ eqb (number_of a) (number_of b)
states_are a b =
    by_each _ _ (λ h. eq-eqb _ _ (ap number_of (same_true the_type tt a b h)))
    (λ h. true_same the_type a b (sym (number_and_back a) ∙ ap state_of (eqb-true _ _ h) ∙ number_and_back b))

none : (s t : Bool) → (s && (t && false)) ≡ false
none s t = rw (and-false, and-false)

-- the flags and the state behind the registers
order : (pc psw state a x y sp : Bool)
    → (pc && (psw && (state && (a && (x && (y && sp)))))) ≡ (pc && a && x && y && sp && psw && state)
order false psw state a x y sp = refl
order true psw state false x y sp = none psw state
order true psw state true false y sp = none psw state
order true psw state true true false sp = none psw state
order true psw state true true true false = none psw state
order true psw state true true true true = rw and-true

-- What `==` answers of two records.
pub registers_are : (a b : Processor) {r : Bool}
    → r ≡ (eqb a.pc b.pc && (flags_equal a.psw b.psw && (states_equal a.state b.state && (eqb a.a b.a && (eqb a.x b.x && (eqb a.y b.y && eqb a.sp b.sp))))))
    → r ≡ same_registers a b
registers_are a b h = h ∙ rw (flags_are a.psw b.psw, states_are a.state b.state)
    (order
    (eqb a.pc b.pc)
    (eqb (byte_of a.psw) (byte_of b.psw))
    (eqb (number_of a.state) (number_of b.state))
    (eqb a.a b.a)
    (eqb a.x b.x)
    (eqb a.y b.y)
    (eqb a.sp b.sp))
