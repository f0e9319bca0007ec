use borrow.Author.Tests.{eq-eqb, ne_eqb, le-leb, lt-leb}
use Rattle.sizes.specs.Sizes.{place_allowed}
use Rattle.sizes.proofs.place_allowed.Goals as goal

pub returns-then-index_start-place : goal.returns-then-index_start-place
unfolding place_allowed
returns-then-index_start-place c =
    simp (eq-eqb _ _ c.if-place-eq0.true, ← c.index_start.ensures, le-leb _ _ c.if-index_start-place.true)

pub returns-else-index_start-place : goal.returns-else-index_start-place
unfolding place_allowed
returns-else-index_start-place c =
    simp (eq-eqb _ _ c.if-place-eq0.true, ← c.index_start.ensures, lt-leb _ _ c.if-index_start-place.false)

pub returns-else-place-eq0 : goal.returns-else-place-eq0
unfolding place_allowed
returns-else-place-eq0 c = simp (ne_eqb _ _ c.if-place-eq0.false)
