-- A node and its sibling are a pair of the deal's, in order.
use Rattle.std.proofs.Common.{ap₂, ◌∙◌}
use Rattle.paths.specs.Path.{pair_of}
use Rattle.paths.specs.SiblingsLaws.{pair_here}
use Rattle.lent.specs.Seen.{seen}
use Rattle.lent.proofs.Lent.above.Goals as goal

pub node_above-node-requires : goal.node_above-node-requires
node_above-node-requires c =
    let p = c.args.x.position in
    record {
      in_tree = c.requires.in_tree;
      pair = c.pair-pair.ensures
          ∙ ap₂ (pair_of p) c.requires.node c.requires.sibling_value
          ∙ pair_here (seen c.args.self.now).nodes c.args.level p;
    }
