-- `over_lanes`: the node in the one lane, or the left neighbour of the last node and what the nodes above give.
use Prim.Native.Nat.{ℕ, ◌+◌, ◌-◌, ◌*◌}
use mathlib.Core.Path.{ap, ◌∙◌}
use mathlib.Core.List.{◌++◌}
use native.Mathlib.Omega.{arith}
use lib.Pow.{pow_pos}
use Rattle.octets.specs.Bytes.{bytes_of_lem}
use Rattle.node.specs.Node.{node_hash_byte}
use Rattle.lanes.specs.NodeWordsLaws.{held_node}
use Rattle.merkle.specs.Tree.{pairs_of}
use Rattle.merkle.proofs.PathParts.{lanes_above, over_one, over_more}
use Rattle.merkle.proofs.last_path.+over_lanes.Goals as goal

pub returns-then-levels-eq0 : goal.returns-then-levels-eq0
returns-then-levels-eq0 t c =
    let a = c.args in
    λ x held.
    let first = held 0 (omega (arith, pow_pos a.levels)) in
    let one = over_one x a.path.now a.levels (32 * a.height) c.if-levels-eq0.true in
    (c.node_of_lane.ensures ∙ held_node a.nodes (x 0) 0 first.1 first.0 ∙ one.0, one.1)

pub overflow_sub-count : goal.overflow_sub-count
overflow_sub-count t c =
    omega (arith, lanes_above c.args.count c.args.levels c.requires.0 c.requires.1 c.if-levels-eq0.false)

pub node_of_lane-requires-2 : goal.node_of_lane-requires-2
node_of_lane-requires-2 t c =
    omega (arith, lanes_above c.args.count c.args.levels c.requires.0 c.requires.1 c.if-levels-eq0.false)

pub level_above-requires : goal.level_above-requires
level_above-requires t c =
    omega (arith, lanes_above c.args.count c.args.levels c.requires.0 c.requires.1 c.if-levels-eq0.false)

pub over_lanes-requires : goal.over_lanes-requires
over_lanes-requires t c =
    let up = lanes_above c.args.count c.args.levels c.requires.0 c.requires.1 c.if-levels-eq0.false in
    (omega arith, (up.2, omega arith, omega (arith, c.put_array.auto.d)))

pub returns : goal.returns
returns t c =
    let a = c.args in
    let up = lanes_above a.count a.levels c.requires.0 c.requires.1 c.if-levels-eq0.false in
    λ x held.
    let last = held (a.count - 2) (omega arith) in
    over_more x a.path.now c.put_array.new.d c.over_lanes.new.path c.node_of_lane-2.result
    c.over_lanes.result a.levels a.height c.if-levels-eq0.false (omega (arith, c.requires.2))
    c.put_array.ensures.1
    (c.node_of_lane-2.ensures ∙ held_node a.nodes (x (a.count - 2)) (a.count - 2) last.1 last.0
    ∙ ap (λ (m : ℕ). x (m - 2)) c.requires.0)
    c.put_array.ensures.0
    (c.over_lanes.ensures (pairs_of x)
    (λ l b. (
      c.level_above.ensures x (λ i g. (held i (omega arith)).0) l b,
      bytes_of_lem (pairs_of x l) (λ i g. node_hash_byte (x (2 * l) ++ x (2 * l + 1)) i),
    )))
