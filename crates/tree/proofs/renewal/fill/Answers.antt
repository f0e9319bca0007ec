-- `fill`: renewing after the whole deal was written.
use mathlib.Core.Path.{◌∙◌}
use Rattle.tree.specs.FilledLaws.{fills_any}
use Rattle.tree.proofs.renewal.fill.Goals as goal

pub returns : goal.returns
returns c =
    let a = c.args in
    c.renew.ensures ∙ fills_any a.deal.now a.top c.requires.0 a.tree.now c.requires.1
