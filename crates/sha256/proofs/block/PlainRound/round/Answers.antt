-- `round`: what each call gives, put together.
use Rattle.sha256.specs.Fips.{round}
use Rattle.sha256.proofs.block.PlainRound.round.Goals as goal

pub returns : goal.returns
unfolding round
returns c = simp (c.maj.ensures, c.big_sigma0.ensures, c.ch.ensures, c.big_sigma1.ensures)
