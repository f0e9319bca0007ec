-- `round`: what each call gives, put together.
use Rattle.std.proofs.Common.{arith}
use Rattle.sha256.specs.BlockLaws.{chained, taken_away}
use Rattle.sha256.proofs.chain.ChainedRound.round.Goals as goal

pub returns : goal.returns
returns c =
    chained c.args.s c.args.k c.args.w _ _ _
    (simp (c.big_sigma1.ensures, c.ch.ensures))
    (taken_away _ _ (omega arith) c.element_fits4.fits)
    (simp (c.big_sigma0.ensures, c.maj.ensures))
