-- The height falls with each call.
use Rattle.merkle.proofs.last_path.+lane_roots_with_path.Given as goal

abbrev pub decreases-lane_roots_with_path : goal.decreases-lane_roots_with_path
decreases-lane_roots_with_path l = l.height
