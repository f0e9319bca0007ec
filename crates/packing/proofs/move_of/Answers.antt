use Rattle.std.proofs.Common.{sym, ◌∙◌, ◌+◌, ◌^◌, ◌≡◌, refl, arith}
use Rattle.room.specs.Room.{ranges_in}
use Rattle.packing.specs.Order.{range_count, range_area, new_slot, new_offset}
use Rattle.packing.proofs.Sums.{byte_count, sum_start, sum_first, sum_later, slot_most, offset_most}
use Rattle.packing.proofs.move_of.Goals as goal
use Rattle.packing.proofs.move_of.Goals.{then-comes_first, else-comes_first}

pub loop-range-init : goal.loop-range-init
loop-range-init c =
    let a = c.args in
    (sum_start range_count (ranges_in a.ranges.now) a.j, sum_start range_area (ranges_in a.ranges.now) a.j)

pub overflow_add-slot : goal.overflow_add-slot
overflow_add-slot c =
    let a = c.args in
    let i = c.loop-range.range-index in
    let next = sum_first range_count (ranges_in a.ranges.now) a.j i _ _ c.loop-range.invariant.0
    (sym c.comes_first.ensures ∙ c.if-comes_first.true) (byte_count _) in
    omega (arith, next, slot_most (ranges_in a.ranges.now) (i + 1) a.j)

pub overflow_add-offset : goal.overflow_add-offset
overflow_add-offset c =
    let a = c.args in
    let i = c.loop-range.range-index in
    let next = sum_first range_area (ranges_in a.ranges.now) a.j i _ _ c.loop-range.invariant.1
    (sym c.comes_first.ensures ∙ c.if-comes_first.true) refl in
    omega (arith, next, offset_most (ranges_in a.ranges.now) (i + 1) a.j (2 ^ 36) (λ k h. c.requires.2 k (omega arith)))

pub loop-range-preserved : goal.loop-range-preserved
loop-range-preserved c =
    let a = c.args in
    let i = c.loop-range.range-index in
    elim c.if-comes_first.branch [
      | then-comes_first w ↦ (
        w.slot-is
            ∙ sum_first range_count (ranges_in a.ranges.now) a.j i _ _ c.loop-range.invariant.0
            (sym c.comes_first.ensures ∙ w.if-comes_first.true) (byte_count _),
        w.offset-is
            ∙ sum_first range_area (ranges_in a.ranges.now) a.j i _ _ c.loop-range.invariant.1
            (sym c.comes_first.ensures ∙ w.if-comes_first.true) refl,
      )
      | else-comes_first w ↦ (
        w.slot-is
            ∙ sum_later range_count (ranges_in a.ranges.now) a.j i _ c.loop-range.invariant.0
            (sym c.comes_first.ensures ∙ w.if-comes_first.false),
        w.offset-is
            ∙ sum_later range_area (ranges_in a.ranges.now) a.j i _ c.loop-range.invariant.1
            (sym c.comes_first.ensures ∙ w.if-comes_first.false),
      )
    ]
