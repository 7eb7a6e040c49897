-- Two records are the same where their fields are, and a choice is what its test chooses: what `search` goes by where a function makes a
-- record of what it has called.
-- Assumes nothing.
use Rattle.std.proofs.Common.{◌≡◌, Bool, true, false, cond}
use Rattle.processor.specs.declared.Processor.{Processor}
use Rattle.processor.specs.declared.Produced.{Produced}

pub same_processor : {p q : Processor}
    → p.a ≡ q.a → p.x ≡ q.x → p.y ≡ q.y → p.sp ≡ q.sp → p.pc ≡ q.pc → p.psw ≡ q.psw → p.state ≡ q.state → p ≡ q
same_processor a x y sp pc psw state = rw (a, x, y, sp, pc, psw, state)

pub same_produced : {p q : Produced} → p.cpu ≡ q.cpu → p.byte ≡ q.byte → p ≡ q
same_produced cpu byte = rw (cpu, byte)

-- what a test that holds chooses, and what one that fails does
pub when : {A : Type 0} (b : Bool) (x y z : A) → b ≡ true → z ≡ x → z ≡ cond b x y
when b x y z e p = rw e p

pub otherwise : {A : Type 0} (b : Bool) (x y z : A) → b ≡ false → z ≡ y → z ≡ cond b x y
otherwise b x y z e p = rw e p
