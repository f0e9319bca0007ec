-- `next_word`: what each call gives, put together.
use Rattle.sha256.specs.Fips.{schedule_word}
use Rattle.sha256.proofs.chain.ChainedRound.next_word.Goals as goal

pub returns : goal.returns
unfolding schedule_word
returns c = simp (c.small_sigma0.ensures, c.small_sigma1.ensures)
