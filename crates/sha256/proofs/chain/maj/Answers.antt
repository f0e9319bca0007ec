-- `maj` is its definition, as a sum.
use Rattle.sha256.proofs.BitLaws.{maj_sum}
use Rattle.sha256.proofs.chain.maj.Goals as goal

pub returns : goal.returns
returns c = maj_sum c.args.x c.args.y c.args.z c.ranges.x.fits c.ranges.y.fits c.ranges.z.fits
