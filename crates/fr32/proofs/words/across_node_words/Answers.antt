use Rattle.std.proofs.Common.{◌∙◌}
use Rattle.fr32.proofs.WordFormulas.{over_end}
use Rattle.fr32.proofs.words.across_node_words.Goals as goal

pub returns : goal.returns
returns c = let a = c.args in c.across_words.ensures ∙ over_end a.low a.high a.shift
