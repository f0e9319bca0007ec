-- `fill_singly`: the nodes over the first i pairs are written.
use mathlib.Core.Path.{◌≡◌}
use Rattle.octets.specs.Splice.{splice}
use Rattle.tree.specs.RowAbove.{row_above}
use Rattle.tree.proofs.above.fill_singly.Given as goal

abbrev pub invariant-loop-i : goal.invariant-loop-i
invariant-loop-i l = l.above ≡ splice l.fn.above 0 (row_above l.i l.below)
