-- `fill_part`: the number of nodes falls.
use lib.ListN.{length}
use Rattle.tree.proofs.above.+fill_part.Given as goal

abbrev pub decreases-fill_part : goal.decreases-fill_part
decreases-fill_part l = length l.above.now
