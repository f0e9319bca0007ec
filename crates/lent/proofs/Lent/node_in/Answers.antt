use Rattle.paths.specs.Start.{path_start}
use Rattle.lent.specs.LentDeal.{tree_deal}
use Rattle.lent.specs.Usable.{Usable}
use Rattle.lent.specs.UsableLaws.{node_in_tree, node_level, node_room, tree_sized_lem}
use Rattle.lent.proofs.Lent.node_in.Goals as goal

pub node_in-requires : goal.node_in-requires
node_in-requires c =
    let deal = c.args.self.now in
    let start = path_start c.args.levels c.args.level c.args.position in
    let u : Usable (tree_deal deal.bytes.now c.in-Some.tree.now) = rw c.in-Some.is at deal.usable in
    (node_in_tree deal.usable start c.requires, tree_sized_lem deal.bytes.now c.in-Some.tree.now u)

pub node_at-requires : goal.node_at-requires
node_at-requires c =
    let deal = c.args.self.now in
    let start = path_start c.args.levels c.args.level c.args.position in
    (node_level deal.usable start c.requires, node_room deal.usable start c.requires)
