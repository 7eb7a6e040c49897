-- Each byte of the text is pushed behind those before it.
-- Assumes nothing.
use Rattle.std.proofs.Common.{rules}
use Rattle.std.proofs.lemmas.Iterator.{YieldsList-from_slice}
use Rattle.text.proofs.Laws.{pushed_each}
use Rattle.text.proofs.Line.text.Goals as goal

pub returns : goal.returns
returns c = pushed_each _ _ (λ m n x left called. search rules) (YieldsList-from_slice _ c.iter.ensures.rest) c.fold.ensures.ran
