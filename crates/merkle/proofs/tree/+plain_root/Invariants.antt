-- The height falls with each call.
use Rattle.merkle.proofs.tree.+plain_root.Given as goal

abbrev pub decreases-plain_root : goal.decreases-plain_root
decreases-plain_root l = l.height
