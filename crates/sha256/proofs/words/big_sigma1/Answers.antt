-- `big_sigma1` is its definition.
use Rattle.sha256.specs.Fips.{Σ1}
use Rattle.sha256.proofs.words.big_sigma1.Goals as goal

pub returns : goal.returns
unfolding Σ1
returns c = simp (c.rotate_right.ensures, c.rotate_right-2.ensures, c.rotate_right-3.ensures)
