-- `fill_singly`: one more node.
use mathlib.Core.Path.{◌≡◌, ap, ◌∙◌}
use Prim.Native.Nat.{ℕ}
use native.Mathlib.Omega.{arith}
use Rattle.octets.specs.Splice.{splice}
use Rattle.node.specs.Node.{node_hash}
use Rattle.tree.specs.RowAbove.{row_above}
use Rattle.tree.proofs.LanesAbove.{nothing_above, one_more, all_above}
use Rattle.tree.proofs.above.fill_singly.Goals as goal

pub loop-i-init : goal.loop-i-init
loop-i-init c = nothing_above c.args.below.now c.args.above.now

pub loop-i-preserved : goal.loop-i-preserved
loop-i-preserved c =
    let a = c.args in
    c.put_array.ensures.0
    ∙ one_more a.below.now a.above.now c.loop-i.i c.loop-i.above c.node_hash.result
    (omega (arith, c.requires.1, c.loop-i-test.true)) c.loop-i.invariant
    (c.node_hash.ensures ∙ ap node_hash c.array_at.ensures)

pub returns : goal.returns
returns c =
    let a = c.args in
    let all : c.loop-i.i ≡ a.count = omega arith in
    c.loop-i.invariant
    ∙ ap (λ (n : ℕ). splice a.above.now 0 (row_above n a.below.now)) all
    ∙ all_above a.below.now a.above.now a.count c.requires.1
