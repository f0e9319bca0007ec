-- `sixteen_rounds`: four rounds, and four more.
use Rattle.std.proofs.Common.{refl}
use Rattle.sha256.specs.Fips.{rounds}
use Rattle.sha256.proofs.block.sixteen_rounds.Goals as goal

pub returns : goal.returns
unfolding rounds
returns g c =
    let s = c.args.s in
    c.four_rounds.ensures s (c.four_rounds-s12.ensures s (c.four_rounds-s8.ensures s (c.four_rounds-s4.ensures s refl)))
