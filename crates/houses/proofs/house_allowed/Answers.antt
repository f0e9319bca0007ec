use borrow.Author.Tests.{eq-eqb, ne_eqb}
use Rattle.houses.proofs.house_allowed.Goals as goal

pub returns-then-house-eq1 : goal.returns-then-house-eq1
returns-then-house-eq1 c = rw (eq-eqb c.args.house 1 c.if-house-eq1.true)

pub returns-else-house-eq1 : goal.returns-else-house-eq1
returns-else-house-eq1 c = rw (ne_eqb c.args.house 1 c.if-house-eq1.false)
