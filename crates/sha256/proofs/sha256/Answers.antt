-- `sha256`: the two ways by the message's length.
use Rattle.std.proofs.Common.{le-leb}
use borrow.Author.Tests.{lt-leb}
use Rattle.sha256.specs.Fips.{sha256}
use Rattle.sha256.proofs.sha256.Goals as goal

pub returns : goal.returns
unfolding sha256
returns c = simp (le-leb _ _ c.if-message-gt16777216.false, c.digest.ensures, c.hash_value.ensures)

pub returns-then-message-gt16777216 : goal.returns-then-message-gt16777216
returns-then-message-gt16777216 c = simp (lt-leb _ _ c.if-message-gt16777216.true)
