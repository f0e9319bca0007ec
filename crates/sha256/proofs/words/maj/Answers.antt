-- `maj` is its definition, with one operation fewer.
use Rattle.sha256.proofs.BitLaws.{maj_short}
use Rattle.sha256.proofs.words.maj.Goals as goal

pub returns : goal.returns
returns c = maj_short c.args.x c.args.y c.args.z c.ranges.x.fits c.ranges.y.fits c.ranges.z.fits
