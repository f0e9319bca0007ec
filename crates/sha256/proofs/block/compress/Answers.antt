-- `compress`: the rounds, and the sums.
use Rattle.sha256.specs.Fips.{compress}
use Rattle.sha256.proofs.block.compress.Goals as goal

pub returns : goal.returns
unfolding compress
returns c = simp (c.sums.ensures, c.rounds.ensures)
