-- `big_sigma0` is its definition.
use Rattle.sha256.specs.Fips.{Σ0}
use Rattle.sha256.proofs.words.big_sigma0.Goals as goal

pub returns : goal.returns
unfolding Σ0
returns c = simp (c.rotate_right.ensures, c.rotate_right-2.ensures, c.rotate_right-3.ensures)
