use mathlib.Core.Path.{ap}
use Prim.Native.Nat.{ℕ, ◌/◌}
use Rattle.sizes.specs.Sizes.{segment_position}
use Rattle.sizes.proofs.segment_position.Goals as goal

pub returns : goal.returns
unfolding segment_position
returns c = ap (λ (n : ℕ). c.args.offset / n) c.area.ensures
