use mathlib.Core.Path.{ap}
use Prim.Native.Nat.{ℕ, ◌+◌, ◌*◌}
use native.Mathlib.Omega.{arith}
use Rattle.sizes.specs.Sizes.{slot_place}
use Rattle.sizes.specs.SizesLaws.{deal_size_lem, index_area}
use Rattle.sizes.proofs.slot_place.Goals as goal

pub overflow_mul-result : goal.overflow_mul-result
overflow_mul-result c =
    let t = deal_size_lem c.args.d c.requires.0 in let i = index_area c.args.d t in omega arith

pub overflow_add-result : goal.overflow_add-result
overflow_add-result c =
    let t = deal_size_lem c.args.d c.requires.0 in let i = index_area c.args.d t in omega arith

pub returns : goal.returns
unfolding slot_place
returns c = ap (λ (n : ℕ). n + 64 * c.args.i) c.index_start.ensures
