use mathlib.Core.Path.{sym, ◌∙◌}
use borrow.Author.Tests.{eq-eqb, ne_eqb}
use Rattle.paths.specs.Path.{pair_of}
use Rattle.paths.proofs.pair.Goals as goal

pub returns-then-position-eq0 : goal.returns-then-position-eq0
unfolding pair_of
returns-then-position-eq0 c = c.join.ensures ∙ sym (simp (eq-eqb _ _ c.if-position-eq0.true))

pub returns-else-position-eq0 : goal.returns-else-position-eq0
unfolding pair_of
returns-else-position-eq0 c = c.join-else-position-eq0.ensures ∙ sym (simp (ne_eqb _ _ c.if-position-eq0.false))
