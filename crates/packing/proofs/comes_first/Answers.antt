use Rattle.packing.proofs.Sums.{larger, equal, smaller}
use Rattle.packing.proofs.comes_first.Goals as goal

pub returns-then-s-r : goal.returns-then-s-r
returns-then-s-r c = let a = c.args in larger a.r.area a.r.offset a.s.area a.s.offset c.if-s-r.true

pub returns-then-r-s : goal.returns-then-r-s
returns-then-r-s c =
    let a = c.args in
    equal a.r.area a.r.offset a.s.area a.s.offset c.if-s-r.false c.if-r-s.true

pub returns-else-r-s : goal.returns-else-r-s
returns-else-r-s c =
    let a = c.args in
    smaller a.r.area a.r.offset a.s.area a.s.offset c.if-s-r.false c.if-r-s.false
