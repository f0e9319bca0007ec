-- `lane_roots_with_path`: in each lane one node, or the node over the commitments of the halves; the left half's
-- commitment in the last lane is written above the right half's path.
use Prim.Native.Nat.{ℕ, ◌+◌, ◌-◌, ◌*◌, ◌/◌}
use mathlib.Core.Path.{◌≡◌, subst, ap, ◌∙◌}
use mathlib.Core.List.{List, ◌++◌}
use native.Mathlib.Omega.{arith}
use Rattle.octets.specs.Bytes.{bytes_of_slice}
use Rattle.octets.specs.Splice.{part}
use Rattle.octets.specs.SpliceLaws.{bytes_part}
use Rattle.node.specs.Node.{node_hash}
use Rattle.lanes.specs.NodeWords.{Holds}
use Rattle.lanes.specs.NodeWordsLaws.{held_node}
use Rattle.merkle.specs.Tree.{commitment_of}
use Rattle.merkle.specs.TreeLaws.{commitment_bytes}
use Rattle.merkle.proofs.Cuts.{one_node, half_sized, two_halves, over_halves}
use Rattle.merkle.proofs.PathParts.{path_of_one, path_of_halves}
use Rattle.merkle.proofs.last_path.+lane_roots_with_path.Goals as goal

pub returns-then-height-eq0-clause-by_index : goal.returns-then-height-eq0-clause-by_index
returns-then-height-eq0-clause-by_index t c =
    let a = c.args in
    λ l b.
    subst (λ (n : List ℕ). Holds c.load_nodes.result l n)
    (one_node a.height a.size c.requires.0 c.if-height-eq0.true a.run.now (a.at + l * a.step))
    (c.load_nodes.ensures l b)

pub returns-then-height-eq0-clause-path_after : goal.returns-then-height-eq0-clause-path_after
returns-then-height-eq0-clause-path_after t c =
    let a = c.args in
    path_of_one a.path.now (part a.run.now (a.at + 15 * a.step) a.size) a.height c.if-height-eq0.true

pub lane_roots-left-requires : goal.lane_roots-left-requires
lane_roots-left-requires t c = (
  half_sized c.args.height c.args.size c.requires.0 c.if-height-eq0.false,
  omega arith,
)

pub lane_roots_with_path-right-requires : goal.lane_roots_with_path-right-requires
lane_roots_with_path-right-requires t c =
    let e = two_halves c.args.height c.args.size c.requires.0 c.if-height-eq0.false in (
      omega arith,
      (half_sized c.args.height c.args.size c.requires.0 c.if-height-eq0.false, omega arith, omega arith),
    )

pub returns-clause-by_index : goal.returns-clause-by_index
returns-clause-by_index t c =
    let a = c.args in
    let half : ℕ = a.size / 2 in
    let left : ℕ → List ℕ = λ p. commitment_of (a.height - 1) (part a.run.now p half) in
    λ l b.
    let m : a.at + half + l * a.step ≡ a.at + l * a.step + half = omega arith in
    subst (λ (n : List ℕ). Holds c.hash_nodes.result l n)
    (ap (λ (p : ℕ). node_hash (left (a.at + l * a.step) ++ left p)) m
    ∙ over_halves a.height a.size c.requires.0 c.if-height-eq0.false a.run.now (a.at + l * a.step))
    (c.hash_nodes.ensures l b (left (a.at + l * a.step)) (left (a.at + half + l * a.step))
    (c.lane_roots-left.ensures l b) (c.lane_roots_with_path-right.ensures.by_index l b))

pub returns-clause-path_after : goal.returns-clause-path_after
returns-clause-path_after t c =
    let a = c.args in
    let run = a.run.now in
    let half : ℕ = a.size / 2 in
    path_of_halves a.height a.size c.requires.0 c.if-height-eq0.false run a.path.now
    c.lane_roots_with_path-right.new.path c.put_array.new.d c.node_of_lane.result
    (a.at + 15 * a.step) (a.at + half + 15 * a.step)
    (omega arith) (omega arith) (omega arith)
    c.lane_roots_with_path-right.ensures.path_after
    (c.node_of_lane.ensures
    ∙ held_node c.lane_roots-left.result (commitment_of (a.height - 1) (part run (a.at + 15 * a.step) half)) 15
    (commitment_bytes (a.height - 1) (part run (a.at + 15 * a.step) half)
    (bytes_part run (a.at + 15 * a.step) half (bytes_of_slice run c.type_inv.run)))
    (c.lane_roots-left.ensures 15 (omega arith)))
    c.put_array.ensures.0
