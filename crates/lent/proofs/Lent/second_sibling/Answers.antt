use Rattle.std.specs.Prelude.{ℕ}
use Rattle.std.proofs.Common.{sym, ap, ◌∙◌}
use Rattle.paths.specs.Siblings.{sibling_of}
use Rattle.lent.specs.Seen.{seen}
use Rattle.lent.proofs.Lent.second_sibling.Goals as goal

pub returns-then-position-other : goal.returns-then-position-other
returns-then-position-other c =
    let nodes = (seen c.args.self.now).nodes in
    c.requires.other_sibling_value
    ∙ ap (λ (q : ℕ). nodes c.args.level (sibling_of q)) (sym c.if-position-other.true)
