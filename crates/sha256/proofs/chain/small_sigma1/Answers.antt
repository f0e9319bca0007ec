-- `small_sigma1` is its definition, with two rotations at once.
use Rattle.sha256.proofs.RotationLaws.{σ1_nested}
use Rattle.sha256.proofs.chain.small_sigma1.Goals as goal

pub returns : goal.returns
returns c = rw (c.rotate_right-2.ensures, c.rotate_right.ensures) (σ1_nested c.args.x c.ranges.x.fits)
