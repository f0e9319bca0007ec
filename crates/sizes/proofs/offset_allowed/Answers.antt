use Prim.Native.Nat.{◌≤◌}
use native.Mathlib.Omega.{arith}
use borrow.Author.Tests.{eq-eqb, ne_eqb}
use Rattle.sizes.specs.Sizes.{offset_allowed}
use Rattle.sizes.specs.SizesLaws.{deal_size_lem, segment_size, index_area}
use Rattle.sizes.proofs.OffsetTest.{ends_by}
use Rattle.sizes.proofs.offset_allowed.Goals as goal

pub nonzero_rem-offset : goal.nonzero_rem-offset
nonzero_rem-offset c =
    let z = segment_size c.args.d c.args.size (deal_size_lem c.args.d c.requires.0) c.requires.1 in
    omega arith

pub overflow_sub-result : goal.overflow_sub-result
overflow_sub-result c =
    let t = deal_size_lem c.args.d c.requires.0 in
    let z = segment_size c.args.d c.args.size t c.requires.1 in
    let i = index_area c.args.d t in
    omega arith

pub returns-then-offset-taken-eq0 : goal.returns-then-offset-taken-eq0
unfolding offset_allowed
returns-then-offset-taken-eq0 c =
    let t = deal_size_lem c.args.d c.requires.0 in
    let z = segment_size c.args.d c.args.size t c.requires.1 in
    let i = index_area c.args.d t in
    let taken = c.area-taken.result in
    let start = c.index_start.result in
    let h : taken ≤ start = omega arith in
    simp (← c.area-taken.ensures, ← c.index_start.ensures, eq-eqb _ _ c.if-offset-taken-eq0.true)
    (ends_by c.args.offset taken start h)

pub returns-else-offset-taken-eq0 : goal.returns-else-offset-taken-eq0
unfolding offset_allowed
returns-else-offset-taken-eq0 c = simp (← c.area-taken.ensures, ne_eqb _ _ c.if-offset-taken-eq0.false)
