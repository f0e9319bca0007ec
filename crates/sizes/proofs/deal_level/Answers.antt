use native.Mathlib.Omega.{arith}
use Rattle.sizes.specs.Sizes.{deal_level}
use Rattle.sizes.specs.SizesLaws.{deal_size_lem}
use Rattle.sizes.proofs.deal_level.Goals as goal

pub overflow_sub-result : goal.overflow_sub-result
unfolding deal_level
overflow_sub-result c = let l = (deal_size_lem c.args.d c.requires).level_low in omega arith

pub returns : goal.returns
unfolding deal_level
returns c = omega arith
