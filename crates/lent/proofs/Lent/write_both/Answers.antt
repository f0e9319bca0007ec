-- Writing both whole paths into the output as it was is writing what is left of them into the output as it is.
use Rattle.std.specs.Prelude.{option_map}
use mathlib.Core.Path.{◌≡◌, sym, ap, ◌∙◌}
use Prim.Native.Nat.{ℕ, ◌+◌, ◌-◌, ◌<◌}
use native.Mathlib.Omega.{arith}
use mathlib.Core.List.{List}
use lib.ListN.{length}
use Rattle.merkle.specs.NodeSource.{NodeSource}
use Rattle.sizes.specs.Sizes.{deal_level}
use Rattle.paths.specs.Start.{path_start}
use Rattle.paths.specs.StartLaws.{turn_above, turn_sibling}
use Rattle.paths.specs.NodesSized.{NodesSized}
use Rattle.paths.specs.Siblings.{sibling_of}
use Rattle.paths.specs.SiblingsLaws.{path_length}
use Rattle.lent.specs.Seen.{seen}
use Rattle.lent.specs.UsableLaws.{usable_size, nodes_sized}
use Rattle.lent.specs.declared.PathNode.{PathNode}
use Rattle.lent.proofs.Ways.{OnWay, parent_in, way_start, way_next, way_over}
use Rattle.lent.proofs.WriteLoops.{both_start, both_turn, both_over}
use Rattle.lent.proofs.Lent.write_both.Goals as goal

-- the sibling of a turn has 32 bytes
sized : {nodes : NodeSource} {top n level i : ℕ} (x : PathNode) {sibling : List ℕ} → NodesSized nodes top
    → OnWay nodes top n level i x → i < n → sibling ≡ nodes (level + i) (sibling_of x.position) → length sibling ≡ 32
sized {n = n} {level = level} {i = i} x each t h e =
    ap length e
    ∙ each.sized (path_start (n - i) (level + i) (sibling_of x.position))
    (turn_sibling n level i x.position h t.in_tree)

pub loop-i-init : goal.loop-i-init
loop-i-init c =
    let a = c.args in
    let nodes = (seen a.self.now).nodes in
    let top = deal_level (length a.self.now.bytes.now) in (
      way_start nodes top a.levels a.level a.first c.requires.first_in_tree c.requires.first_node,
      way_start nodes top a.levels a.level a.second c.requires.second_in_tree c.requires.second_node,
      both_start nodes a.out.now a.at a.second_at a.levels a.level a.first.position a.second.position,
    )

pub overflow_add-here : goal.overflow_add-here
overflow_add-here c =
    omega (arith, c.loop-i.invariant.0.in_tree.up, (usable_size c.args.self.now.usable).lent_level)

pub sibling_beside-sibling-requires : goal.sibling_beside-sibling-requires
sibling_beside-sibling-requires c =
    record {
      in_tree = turn_sibling c.args.levels c.args.level c.loop-i.i c.loop-i.x.position c.loop-i-test.true
          c.loop-i.invariant.0.in_tree;
      node = c.loop-i.invariant.1.node_is;
    }

pub second_sibling-other-requires : goal.second_sibling-other-requires
second_sibling-other-requires c =
    record {
      in_tree = turn_sibling c.args.levels c.args.level c.loop-i.i c.loop-i.y.position c.loop-i-test.true
          c.loop-i.invariant.1.in_tree;
      node = c.loop-i.invariant.0.node_is;
      other_sibling_value = c.sibling_beside-sibling.ensures;
    }

pub above-x-requires : goal.above-x-requires
above-x-requires c =
    let t = c.loop-i.invariant.0 in
    record {
      in_tree = parent_in c.args.levels c.args.level c.loop-i.i c.loop-i.x.position c.loop-i-test.true t.in_tree;
      node = t.node_is;
      sibling_value = c.sibling_beside-sibling.ensures;
    }

pub above-y-requires : goal.above-y-requires
above-y-requires c =
    let t = c.loop-i.invariant.1 in
    record {
      in_tree = parent_in c.args.levels c.args.level c.loop-i.i c.loop-i.y.position c.loop-i-test.true t.in_tree;
      node = t.node_is;
      sibling_value = c.second_sibling-other.ensures;
    }

pub loop-i-preserved : goal.loop-i-preserved
loop-i-preserved c =
    let a = c.args in
    let nodes = (seen a.self.now).nodes in
    let top = deal_level (length a.self.now.bytes.now) in
    let each = nodes_sized a.self.now.bytes.now (option_map (λ t. t.now) a.self.now.tree) a.self.now.usable in
    let i = c.loop-i.i in
    let p = c.loop-i.x.position in
    let q = c.loop-i.y.position in
    let k = c.loop-i-test.true in
    let x = c.loop-i.invariant.0 in
    let y = c.loop-i.invariant.1 in
    let rest = turn_above a.levels a.level i p k x.in_tree in (
      way_next nodes top a.levels a.level i c.loop-i.x c.above-x.result k x c.above-x.ensures.0
          c.above-x.ensures.1,
      way_next nodes top a.levels a.level i c.loop-i.y c.above-y.result k y c.above-y.ensures.0
          c.above-y.ensures.1,
      c.loop-i.invariant.2
          ∙ both_turn nodes c.loop-i.out a.at a.second_at a.levels a.level i p q k
          c.sibling_beside-sibling.ensures c.second_sibling-other.ensures c.put_array.ensures.0
          c.put_array-in-loop-i.ensures.0 c.above-x.ensures.1 c.above-y.ensures.1
          (sized c.loop-i.x each x k c.sibling_beside-sibling.ensures)
          (sized c.loop-i.y each y k c.second_sibling-other.ensures)
          (path_length nodes top each _ rest) c.requires.fits.0
          (omega arith),
    )

pub returns : goal.returns
returns c =
    let a = c.args in
    let nodes = (seen a.self.now).nodes in
    let top = deal_level (length a.self.now.bytes.now) in
    let i = c.loop-i.i in (
      way_over nodes top a.levels a.level i c.loop-i.x (omega arith) (omega arith) c.loop-i.invariant.0,
      sym
          (c.loop-i.invariant.2
          ∙ both_over nodes c.loop-i.out a.at a.second_at a.levels a.level i c.loop-i.x.position
          c.loop-i.y.position (omega arith)),
    )
