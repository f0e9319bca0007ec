-- `over_eight`: the four nodes above, as bytes, and three nodes over them.
use mathlib.Core.List.{◌++◌}
use Prim.Native.Nat.{ℕ, ◌+◌, ◌*◌, ◌<◌}
use mathlib.Core.Path.{◌≡◌, ap, ap₂, ◌∙◌}
use native.Mathlib.Omega.{arith}
use Rattle.sha256.specs.Fips.{digest}
use Rattle.node.specs.Node.{node_hash}
use Rattle.lanes.specs.Lanes.{lane}
use Rattle.lanes.specs.NodeWordsLaws.{held_hash}
use Rattle.merkle.specs.Tree.{pairs_of}
use Rattle.merkle.proofs.Parts.{over_eight}
use Rattle.merkle.proofs.tree.over_eight.Goals as goal

pub returns : goal.returns
returns c =
    let four = c.level_above-four in
    λ x held.
    let bytes : (l : ℕ) → l < 4 → digest (lane 8 four.result l) ≡ pairs_of x l
    = λ l b.
    held_hash four.result (x (2 * l) ++ x (2 * l + 1)) l (four.ensures x held l b) in
    c.node_hash-3.ensures
    ∙ ap node_hash
    (c.join.ensures
    ∙ ap₂ ◌++◌
    (c.node_hash.ensures
    ∙ ap node_hash
    (c.join-left.ensures
    ∙ ap₂ ◌++◌ (c.node_of_lane.ensures ∙ bytes 0 (omega arith))
    (c.node_of_lane-2.ensures ∙ bytes 1 (omega arith))))
    (c.node_hash-2.ensures
    ∙ ap node_hash
    (c.join-right.ensures
    ∙ ap₂ ◌++◌ (c.node_of_lane-3.ensures ∙ bytes 2 (omega arith))
    (c.node_of_lane-4.ensures ∙ bytes 3 (omega arith)))))
    ∙ over_eight x
