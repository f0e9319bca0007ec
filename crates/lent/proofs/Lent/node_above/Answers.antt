-- With a tree the node is looked up; without one the nodes are a tree's, and the node is the pair's hash.
use Rattle.std.specs.Prelude.{ℕ, ◌+◌}
use Rattle.std.proofs.Common.{sym, ap, ◌∙◌, arith}
use native.Mathlib.Numerals.{add-one}
use Rattle.node.specs.Node.{node_hash}
use Rattle.merkle.specs.Tree.{node_at}
use Rattle.merkle.specs.TreeLaws.{node_split}
use Rattle.paths.specs.Start.{path_start}
use Rattle.lent.specs.UsableLaws.{node_level}
use Rattle.lent.proofs.Lent.node_above.Goals as goal

pub overflow_add-level : goal.overflow_add-level
overflow_add-level c =
    let start = path_start c.args.levels (c.args.level + 1) c.args.position in
    omega (arith, node_level c.args.self.now.usable start c.requires.in_tree)

pub returns-in-None : goal.returns-in-None
returns-in-None c =
    let bytes = c.args.self.now.bytes.now in
    let q = c.args.position in
    rw c.in-None.is
    (c.node_hash.ensures
    ∙ ap node_hash (rw c.in-None.is at c.requires.pair)
    ∙ sym (node_split c.args.level q bytes)
    ∙ ap (λ (n : ℕ). node_at bytes n q) (sym (add-one c.args.level)))
