use Rattle.std.proofs.Common.{arith}
use Rattle.sizes.specs.Sizes.{entry_count}
use Rattle.sizes.proofs.entry_count.Goals as goal

pub returns : goal.returns
unfolding entry_count
returns c = omega arith
