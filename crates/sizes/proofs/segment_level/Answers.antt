use mathlib.Core.Path.{◌≡◌, ap, ◌∙◌}
use native.Mathlib.Omega.{arith}
use Rattle.pow2.specs.Power.{height}
use Rattle.sizes.specs.Sizes.{area, segment_level}
use Rattle.sizes.proofs.segment_level.Goals as goal

pub overflow_sub-result : goal.overflow_sub-result
unfolding segment_level
overflow_sub-result c =
    let e : c.log2.result ≡ height (area c.args.size) =
    c.log2.ensures ∙ ap height c.area.ensures in
    omega arith

pub returns : goal.returns
unfolding segment_level
returns c =
    let e : c.log2.result ≡ height (area c.args.size) =
    c.log2.ensures ∙ ap height c.area.ensures in
    omega arith
