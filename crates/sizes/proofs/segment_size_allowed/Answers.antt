use borrow.Author.Tests.{le-leb, lt-leb}
use Rattle.sizes.specs.Sizes.{segment_size_allowed}
use Rattle.sizes.proofs.segment_size_allowed.Goals as goal

pub returns-then-size-ge-SMALLEST_SEGMENT : goal.returns-then-size-ge-SMALLEST_SEGMENT
unfolding segment_size_allowed
returns-then-size-ge-SMALLEST_SEGMENT c = simp (le-leb _ _ c.if-size-ge-SMALLEST_SEGMENT.true)

pub returns-else-size-ge-SMALLEST_SEGMENT : goal.returns-else-size-ge-SMALLEST_SEGMENT
unfolding segment_size_allowed
returns-else-size-ge-SMALLEST_SEGMENT c = simp (lt-leb _ _ c.if-size-ge-SMALLEST_SEGMENT.false)
