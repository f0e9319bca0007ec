-- The last difference along the whole path is that along what is left of it, on top of the last one seen. With a tree
-- the node on the way is looked up at each level; without one the deal's own path leads to it.
use Rattle.std.specs.Prelude.{option_map}
use mathlib.Core.Path.{◌≡◌, sym, ap, ◌∙◌}
use Prim.Native.Nat.{ℕ, ◌+◌, ◌*◌, ◌/◌, ◌<◌}
use native.Mathlib.Omega.{arith}
use mathlib.Core.List.{List}
use lib.ListN.{length, drop}
use Rattle.octets.specs.Splice.{part}
use Rattle.merkle.specs.NodeSource.{NodeSource}
use Rattle.sizes.specs.Sizes.{deal_level}
use Rattle.paths.specs.Start.{path_start, InTree}
use Rattle.paths.specs.NodesSized.{NodesSized}
use Rattle.paths.specs.Path.{pair_of}
use Rattle.paths.specs.Siblings.{siblings, pair_at}
use Rattle.paths.specs.SiblingsLaws.{path_length}
use Rattle.lent.specs.Seen.{seen}
use Rattle.lent.specs.UsableLaws.{usable_size, nodes_sized}
use Rattle.lent.proofs.OwnLoops.{OwnTurn, own_start, own_pair, own_above, own_next}
use Rattle.lent.proofs.OwnLoops.{compared_start, compared_next, compared_over}
use Rattle.lent.proofs.Lent.compare_with_own.Goals as goal

-- the deal's own path has 32 bytes for each level
own_length : {nodes : NodeSource} {top : ℕ} (own : List ℕ) (n level p : ℕ) → NodesSized nodes top
    → InTree top (path_start n level p) → own ≡ siblings nodes n level p → length own ≡ 32 * n
own_length {nodes = nodes} {top = top} own n level p each w e =
    ap length e ∙ path_length nodes top each (path_start n level p) w

-- the string of the deal's own path in a turn
own_string : {nodes : NodeSource} {top n level i p : ℕ} (own b node string : List ℕ) → NodesSized nodes top
    → OwnTurn nodes top own n level i p b → i < n → string ≡ pair_of p b node → node ≡ part own (i * 32) 32
    → string ≡ pair_at nodes (level + i) p
own_string {nodes = nodes} {top = top} {n = n} {level = level} {i = i} {p = p} own b node string each t h e f =
    e ∙ ap (pair_of p b) f ∙ own_pair nodes top own n level i p b h each t

pub loop-i-init : goal.loop-i-init
loop-i-init c =
    let a = c.args in
    let nodes = (seen a.self.now).nodes in
    let n = length a.path.now / 32 in (
      own_start nodes (deal_level (length a.self.now.bytes.now)) a.own.now n a.level a.position a.own_node c.requires.in_tree
          c.requires.own_value c.requires.own_node_value,
      compared_start nodes n a.level a.position a.x a.path.now a.below,
    )

pub array_at-requires-in-loop-i : goal.array_at-requires-in-loop-i
array_at-requires-in-loop-i c =
    let a = c.args in
    let each = nodes_sized a.self.now.bytes.now (option_map (λ t. t.now) a.self.now.tree) a.self.now.usable in
    omega (
      arith,
      own_length a.own.now (length a.path.now / 32) a.level a.position each c.requires.in_tree c.requires.own_value,
    )

pub overflow_add-level : goal.overflow_add-level
overflow_add-level c = omega (arith, c.loop-i.invariant.0.in_tree.up, (usable_size c.args.self.now.usable).lent_level)

pub node_above-b-requires : goal.node_above-b-requires
node_above-b-requires c =
    let a = c.args in
    let nodes = (seen a.self.now).nodes in
    let each = nodes_sized a.self.now.bytes.now (option_map (λ t. t.now) a.self.now.tree) a.self.now.usable in
    let t = c.loop-i.invariant.0 in
    let k = c.loop-i-test.true in
    record {
      in_tree = own_above nodes (deal_level (length a.self.now.bytes.now)) a.own.now (length a.path.now / 32) a.level c.loop-i.i
          c.loop-i.p c.loop-i.b k each t;
      pair = own_string a.own.now c.loop-i.b c.array_at-in-loop-i.result c.pair-own_string.result each t k
          c.pair-own_string.ensures c.array_at-in-loop-i.ensures;
    }

pub loop-i-preserved : goal.loop-i-preserved
loop-i-preserved c =
    let a = c.args in
    let nodes = (seen a.self.now).nodes in
    let top = deal_level (length a.self.now.bytes.now) in
    let n = length a.path.now / 32 in
    let each = nodes_sized a.self.now.bytes.now (option_map (λ t. t.now) a.self.now.tree) a.self.now.usable in
    let i = c.loop-i.i in
    let p = c.loop-i.p in
    let t = c.loop-i.invariant.0 in
    let k = c.loop-i-test.true in
    let own = own_string a.own.now c.loop-i.b c.array_at-in-loop-i.result c.pair-own_string.result each t k
    c.pair-own_string.ensures c.array_at-in-loop-i.ensures in (
      own_next nodes top a.own.now n a.level i p c.loop-i.b k each t c.node_above-b.result
          c.node_above-b.ensures,
      simp (
        c.node_hash-a.ensures,
        c.compare_above-last.ensures,
        own,
        c.pair-string.ensures,
        c.array_at.ensures,
      )
          (c.loop-i.invariant.1 ∙ compared_next nodes n a.level i p c.loop-i.a a.path.now c.loop-i.last k),
    )

pub returns : goal.returns
returns c =
    let a = c.args in
    let nodes = (seen a.self.now).nodes in
    let i = c.loop-i.i in
    sym
    (c.loop-i.invariant.1
    ∙ compared_over nodes (length a.path.now / 32) (a.level + i) i c.loop-i.p c.loop-i.a
    (drop (i * 32) a.path.now) c.loop-i.last (omega arith))
