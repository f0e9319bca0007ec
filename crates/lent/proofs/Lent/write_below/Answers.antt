-- Writing the whole path into the output as it was is writing what is left of it into the output as it is.
use Rattle.std.specs.Prelude.{option_map}
use mathlib.Core.Path.{◌≡◌, ap, subst, ◌∙◌}
use Prim.Native.Nat.{ℕ, ◌+◌, ◌-◌, ◌*◌, ◌<◌}
use native.Mathlib.Omega.{arith}
use lib.ListN.{length}
use Rattle.octets.specs.Splice.{splice}
use Rattle.sizes.specs.Sizes.{deal_level}
use Rattle.paths.specs.Start.{path_start, InTree}
use Rattle.paths.specs.StartLaws.{turn_sibling}
use Rattle.paths.specs.Siblings.{sibling_of, siblings}
use Rattle.lent.specs.Seen.{seen}
use Rattle.lent.specs.PathNodes.{IsNode}
use Rattle.lent.specs.UsableLaws.{usable_size, nodes_sized}
use Rattle.lent.proofs.Ways.{parent_in, way_start, way_next}
use Rattle.lent.proofs.WriteLoops.{left, write_start, write_next}
use Rattle.lent.proofs.Lent.write_below.Goals as goal

pub loop-i-init : goal.loop-i-init
loop-i-init c =
    let a = c.args in
    let nodes = (seen a.self.now).nodes in (
      way_start nodes (deal_level (length a.self.now.bytes.now)) a.levels a.level a.node c.requires.in_tree c.requires.node,
      write_start nodes a.out.now a.at a.levels a.level a.node.position,
    )

pub overflow_add-level : goal.overflow_add-level
overflow_add-level c =
    omega (arith, c.loop-i.invariant.0.in_tree.up, (usable_size c.args.self.now.usable).lent_level)

pub node_in-sibling-requires : goal.node_in-sibling-requires
node_in-sibling-requires c =
    let a = c.args in
    let i = c.loop-i.i in
    let h : i < a.levels = omega arith in
    simp c.sibling_of.ensures (turn_sibling a.levels a.level i c.loop-i.x.position h c.loop-i.invariant.0.in_tree)

pub overflow_add-level-in-loop-i : goal.overflow_add-level-in-loop-i
overflow_add-level-in-loop-i c =
    omega (arith, c.loop-i.invariant.0.in_tree.up, (usable_size c.args.self.now.usable).lent_level)

pub above-x-requires : goal.above-x-requires
above-x-requires c =
    let a = c.args in
    let nodes = (seen a.self.now).nodes in
    let t = c.loop-i.invariant.0 in
    let h : c.loop-i.i < a.levels = omega arith in
    record {
      in_tree = parent_in a.levels a.level c.loop-i.i c.loop-i.x.position h t.in_tree;
      node = t.node_is;
      sibling_value = c.node_in-sibling.ensures ∙ ap (nodes (a.level + c.loop-i.i)) c.sibling_of.ensures;
    }

pub loop-i-preserved : goal.loop-i-preserved
loop-i-preserved c =
    let a = c.args in
    let nodes = (seen a.self.now).nodes in
    let top = deal_level (length a.self.now.bytes.now) in
    let i = c.loop-i.i in
    let p = c.loop-i.x.position in
    let t = c.loop-i.invariant.0 in
    let h : i < a.levels = omega arith in
    let each = nodes_sized a.self.now.bytes.now (option_map (λ t. t.now) a.self.now.tree) a.self.now.usable in
    let beside = turn_sibling a.levels a.level i p h t.in_tree in (
      way_next nodes top a.levels a.level i c.loop-i.x c.above-x.result h t c.above-x.ensures.0
          c.above-x.ensures.1,
      simp (c.put_array.ensures.0, c.node_in-sibling.ensures, c.sibling_of.ensures, c.above-x.ensures.1)
          (c.loop-i.invariant.1
          ∙ write_next nodes c.loop-i.out a.at a.levels a.level i p h
          (each.sized (path_start (a.levels - i) (a.level + i) (sibling_of p)) beside)
          (omega arith)),
    )

pub returns : goal.returns
returns c =
    let a = c.args in
    let nodes = (seen a.self.now).nodes in
    let top = deal_level (length a.self.now.bytes.now) in
    let t = c.loop-i.invariant.0 in
    let e : c.loop-i.i ≡ a.count = omega arith in
    subst (λ (i : ℕ).
    IsNode nodes (a.level + i) c.loop-i.x
    × InTree top (path_start (a.levels - i) (a.level + i) c.loop-i.x.position)
    × (splice a.out.now a.at (siblings nodes a.levels a.level a.node.position)
    ≡ splice c.loop-i.out (a.at + 32 * i) (left nodes a.levels a.level i c.loop-i.x.position))) e
    (t.node_is, t.in_tree, c.loop-i.invariant.1)
