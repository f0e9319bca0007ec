use Rattle.std.proofs.Common.{arith}
use Rattle.sizes.specs.SizesLaws.{lent_size}
use Rattle.lent.proofs.opening.tree_sized.Goals as goal

pub overflow_sub-result : goal.overflow_sub-result
overflow_sub-result c = omega (arith, (lent_size c.args.size c.requires).deal.size_low)
