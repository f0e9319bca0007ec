-- The height falls with each call.
use Rattle.merkle.proofs.tree.+lane_roots.Given as goal

abbrev pub decreases-lane_roots : goal.decreases-lane_roots
decreases-lane_roots l = l.height
