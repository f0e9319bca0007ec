-- The height falls with each call.
use Rattle.merkle.proofs.filled.+root_of_filled.Given as goal

abbrev pub decreases-root_of_filled : goal.decreases-root_of_filled
decreases-root_of_filled l = l.height
