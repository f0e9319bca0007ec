-- `sums`: after i turns the first i sums stand.
use Rattle.std.proofs.Common.{refl, arith}
use Rattle.sha256.specs.Fips.{sums}
use Rattle.sha256.specs.TableLaws.{stored_none, stored_more, stored_all}
use Rattle.sha256.proofs.block.sums.Goals as goal

pub loop-i-init : goal.loop-i-init
loop-i-init c = stored_none _ 8 _ refl

pub loop-i-preserved : goal.loop-i-preserved
loop-i-preserved c = stored_more c.loop-i.invariant (omega arith) refl

pub returns : goal.returns
unfolding sums
returns c = stored_all c.loop-i.invariant (omega arith)
