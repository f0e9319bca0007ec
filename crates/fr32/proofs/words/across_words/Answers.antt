use Rattle.std.proofs.Common.{rules}
use Rattle.fr32.proofs.WordFormulas.{not_shifted, shifted}
use Rattle.fr32.proofs.words.across_words.Goals as goal

pub returns-then-shift-eq0 : goal.returns-then-shift-eq0
returns-then-shift-eq0 c =
    let a = c.args in
    not_shifted a.low a.high a.shift c.if-shift-eq0.true (search rules)

pub returns : goal.returns
returns c =
    shifted c.args.low c.args.high c.args.shift c.requires
