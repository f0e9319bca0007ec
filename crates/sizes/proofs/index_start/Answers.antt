use mathlib.Core.Path.{ap}
use Prim.Native.Nat.{ℕ, ◌-◌, ◌*◌}
use native.Mathlib.Omega.{arith}
use Rattle.sizes.specs.Sizes.{index_start}
use Rattle.sizes.specs.SizesLaws.{deal_size_lem, index_area}
use Rattle.sizes.proofs.index_start.Goals as goal

pub overflow_mul-result : goal.overflow_mul-result
overflow_mul-result c =
    let d = c.args.d in let t = deal_size_lem d c.requires in let i = index_area d t in omega arith

pub overflow_sub-result : goal.overflow_sub-result
overflow_sub-result c =
    let d = c.args.d in let t = deal_size_lem d c.requires in let i = index_area d t in omega arith

pub returns : goal.returns
unfolding index_start
returns c = ap (λ (n : ℕ). c.args.d - 64 * n) c.entry_count.ensures
