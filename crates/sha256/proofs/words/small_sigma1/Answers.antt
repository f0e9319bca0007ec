-- `small_sigma1` is its definition.
use Rattle.sha256.specs.Fips.{σ1}
use Rattle.sha256.proofs.words.small_sigma1.Goals as goal

pub returns : goal.returns
unfolding σ1
returns c = simp (c.rotate_right.ensures, c.rotate_right-2.ensures)
