use Rattle.std.proofs.Common.{sym, ◌∙◌, length, arith}
use Rattle.rules.specs.SearchLaws.{lowest_start, found_here, found_later, found_nowhere}
use Rattle.room.proofs.places.lowest_overlap.Invariants.{overlaps_at}
use Rattle.room.proofs.places.lowest_overlap.Goals as goal

pub loop-i-init : goal.loop-i-init
loop-i-init c =
    let a = c.args in
    lowest_start (overlaps_at a.ranges.now a.range) (length a.ranges.now)

pub overlap-requires : goal.overlap-requires
overlap-requires c =
    (c.requires.0, c.requires.1 c.loop-i.i (omega arith))

pub returns-then-overlap : goal.returns-then-overlap
returns-then-overlap c =
    let a = c.args in
    found_here (overlaps_at a.ranges.now a.range) (length a.ranges.now) c.loop-i.i c.loop-i.invariant (omega arith)
    (sym c.overlap.ensures ∙ c.if-overlap.true)

pub loop-i-preserved : goal.loop-i-preserved
loop-i-preserved c =
    let a = c.args in
    found_later (overlaps_at a.ranges.now a.range) (length a.ranges.now) c.loop-i.i c.loop-i.invariant (omega arith)
    (sym c.overlap.ensures ∙ c.if-overlap.false)

pub returns : goal.returns
returns c =
    let a = c.args in
    found_nowhere (overlaps_at a.ranges.now a.range) (length a.ranges.now) c.loop-i.i c.loop-i.invariant (omega arith)
