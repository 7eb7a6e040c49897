-- Each function on a map of marks has one outcome.
-- Assumes nothing.
use Rattle.std.specs.Prelude.{◌≡◌}
use Rattle.marks.specs.declared.Counted.{Counted}
use Rattle.marks.proofs as marks
use Rattle.marks.proofs.CountedDefault as first_counts
use Rattle.once.specs.Law.{One, Answers, first}
use Rattle.once.specs.Forms.{answers, leaves}

pub is_marked_once : Answers marks.is_marked.Reads.Post
is_marked_once = record { same = answers }

pub mark_once : One marks.mark.Reads.Post (λ κ. first)
mark_once = record { same = leaves }

pub mark_unless_once : One marks.mark_unless.Reads.Post (λ κ. first)
mark_unless_once = record { same = leaves }

pub counts_once : Answers marks.counts.Reads.Post
counts_once = record { same = answers }

-- numbers that are all zero
all_zero : {x : Counted} → x.read_only ≡ 0 → x.stored_only ≡ 0 → x.both ≡ 0 → x ≡ record { read_only = 0; stored_only = 0; both = 0 }
all_zero r s b = rw (r, s, b)

pub default_once : Answers first_counts.default.Reads.Post
default_once = record { same = λ p q. answers (all_zero p.0 p.1.0 p.1.1) (all_zero q.0 q.1.0 q.1.1) }
