-- `ch` is its definition, with one operation fewer.
use Rattle.sha256.proofs.BitLaws.{ch_short}
use Rattle.sha256.proofs.words.ch.Goals as goal

pub returns : goal.returns
returns c = ch_short c.args.x c.args.y c.args.z c.ranges.x.fits c.ranges.y.fits c.ranges.z.fits
