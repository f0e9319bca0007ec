-- `fill_few`: the nodes over the pairs, where a count of 16 may stand as 16.
use mathlib.Core.Path.{◌≡◌, ap, ◌∙◌}
use Prim.Native.Nat.{ℕ}
use native.Mathlib.Omega.{arith}
use Rattle.tree.specs.RowAbove.{row_above}
use Rattle.tree.proofs.above.fill_few.Goals as goal

pub returns-then-count-eq16 : goal.returns-then-count-eq16
returns-then-count-eq16 c =
    let a = c.args in
    let sixteen : 16 ≡ a.count = omega arith in
    c.fill_lanes.ensures ∙ ap (λ (n : ℕ). row_above n a.below.now) sixteen
