use Rattle.std.proofs.Common.{sym, ap, ◌∙◌}
use Rattle.lent.specs.Seen.{seen}
use Rattle.lent.proofs.Lent.sibling_beside.Goals as goal

pub returns-then-sibling-other : goal.returns-then-sibling-other
returns-then-sibling-other c =
    c.requires.node
    ∙ ap ((seen c.args.self.now).nodes c.args.level) (sym c.if-sibling-other.true ∙ c.sibling_of-sibling.ensures)

pub returns : goal.returns
returns c = c.node_in.ensures ∙ ap ((seen c.args.self.now).nodes c.args.level) c.sibling_of-sibling.ensures
