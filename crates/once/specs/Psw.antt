-- Each function on the program status word has one outcome.
-- Assumes nothing.
use Rattle.std.specs.Prelude.{◌≡◌, refl, Bool, false}
use Rattle.psw.specs.Status.{cleared}
use Rattle.psw.specs.declared.ProgramStatusWord.{ProgramStatusWord}
use Rattle.psw.proofs as psw
use Rattle.psw.proofs.ProgramStatusWord as word
use Rattle.psw.proofs.ProgramStatusWordDefault as first
use Rattle.once.specs.Law.{One, Answers, second}
use Rattle.once.specs.Forms.{answers, gives}

pub one_if_once : Answers psw.one_if.Reads.Post
one_if_once = record { same = λ p q. answers p.0 q.0 }

pub to_byte_once : Answers word.to_byte.Reads.Post
to_byte_once = record { same = answers }

pub from_byte_once : Answers word.from_byte.Reads.Post
from_byte_once = record { same = answers }

pub on_line_once : Answers word.on_line.Reads.Post
on_line_once = record { same = answers }

pub text_once : One word.text.Reads.Post (λ κ. second)
text_once = record { same = gives }

-- a word whose flags are all clear
all_clear : {x : ProgramStatusWord} → x.n ≡ false → x.v ≡ false → x.p ≡ false → x.b ≡ false → x.h ≡ false → x.i ≡ false → x.z ≡ false
    → x.c ≡ false → x ≡ cleared
all_clear n v p b h i z c = rw (n, v, p, b, h, i, z, c)

pub default_once : Answers first.default.Reads.Post
default_once = record {
  same = λ p q.
      answers
      (all_clear p.0 p.1.0 p.1.1.0 p.1.1.1.0 p.1.1.1.1.0 p.1.1.1.1.1.0 p.1.1.1.1.1.1.0 p.1.1.1.1.1.1.1)
      (all_clear q.0 q.1.0 q.1.1.0 q.1.1.1.0 q.1.1.1.1.0 q.1.1.1.1.1.0 q.1.1.1.1.1.1.0 q.1.1.1.1.1.1.1);
}
