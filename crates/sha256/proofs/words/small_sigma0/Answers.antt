-- `small_sigma0` is its definition.
use Rattle.sha256.specs.Fips.{σ0}
use Rattle.sha256.proofs.words.small_sigma0.Goals as goal

pub returns : goal.returns
unfolding σ0
returns c = simp (c.rotate_right.ensures, c.rotate_right-2.ensures)
