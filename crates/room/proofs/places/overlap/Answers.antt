use borrow.Author.Tests.{lt-ltb, le-ltb}
use Rattle.room.specs.Room as R
use Rattle.room.proofs.places.overlap.Goals as goal

pub returns-then-r-s : goal.returns-then-r-s
unfolding R.overlap
returns-then-r-s c = simp (lt-ltb _ _ c.if-r-s.true)

pub returns-else-r-s : goal.returns-else-r-s
unfolding R.overlap
returns-else-r-s c = simp (le-ltb _ _ c.if-r-s.false)
