-- `lane_roots`: in each lane one node, or the node over the commitments of the halves.
use Prim.Native.Nat.{ℕ, ◌+◌, ◌-◌, ◌*◌, ◌/◌}
use mathlib.Core.Path.{◌≡◌, subst, ap, ◌∙◌}
use mathlib.Core.List.{List, ◌++◌}
use native.Mathlib.Omega.{arith}
use Rattle.octets.specs.Splice.{part}
use Rattle.node.specs.Node.{node_hash}
use Rattle.lanes.specs.NodeWords.{Holds}
use Rattle.merkle.specs.Tree.{commitment_of}
use Rattle.merkle.proofs.Cuts.{one_node, half_sized, two_halves, over_halves}
use Rattle.merkle.proofs.tree.+lane_roots.Goals as goal

pub returns-then-height-eq0 : goal.returns-then-height-eq0
returns-then-height-eq0 t c =
    let a = c.args in
    λ l b.
    subst (λ (n : List ℕ). Holds c.load_nodes.result l n)
    (one_node a.height a.size c.requires.0 c.if-height-eq0.true a.run.now (a.at + l * a.step))
    (c.load_nodes.ensures l b)

pub lane_roots-left-requires : goal.lane_roots-left-requires
lane_roots-left-requires t c = (
  omega arith,
  (half_sized c.args.height c.args.size c.requires.0 c.if-height-eq0.false, omega arith),
)

pub lane_roots-right-requires : goal.lane_roots-right-requires
lane_roots-right-requires t c =
    let e = two_halves c.args.height c.args.size c.requires.0 c.if-height-eq0.false in (
      omega arith,
      (half_sized c.args.height c.args.size c.requires.0 c.if-height-eq0.false, omega arith),
    )

pub returns : goal.returns
returns t c =
    let a = c.args in
    let half : ℕ = a.size / 2 in
    let left : ℕ → List ℕ = λ p. commitment_of (a.height - 1) (part a.run.now p half) in
    λ l b.
    let e : a.at + half + l * a.step ≡ a.at + l * a.step + half = omega arith in
    subst (λ (n : List ℕ). Holds c.hash_nodes.result l n)
    (ap (λ (p : ℕ). node_hash (left (a.at + l * a.step) ++ left p)) e
    ∙ over_halves a.height a.size c.requires.0 c.if-height-eq0.false a.run.now (a.at + l * a.step))
    (c.hash_nodes.ensures l b (left (a.at + l * a.step)) (left (a.at + half + l * a.step))
    (c.lane_roots-left.ensures l b) (c.lane_roots-right.ensures l b))
