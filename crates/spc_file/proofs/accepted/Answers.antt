-- The constant is the signature's text, byte by byte, as it computes.
-- Assumes nothing.
use Rattle.std.proofs.Common.{rules}
use Rattle.spc_file.specs.Layout.{signature}
use Rattle.spc_file.proofs.accepted.Goals as goal

pub returns-then-not-starts_with : goal.returns-then-not-starts_with
unfolding signature
returns-then-not-starts_with c = search rules

pub returns : goal.returns
unfolding signature
returns c = search rules
