use mathlib.Core.Path.{◌≡◌, sym, ap, ◌∙◌}
use Prim.Native.Nat.{ℕ, ◌*◌, ◌/◌, ◌<◌}
use native.Mathlib.Omega.{arith}
use Rattle.std.proofs.Common.{Some}
use Rattle.rules.specs.SearchLaws.{lowest_start, found_here, found_nowhere}
use Rattle.room.specs.Room.{ranges_in, is_missing, lowest_overlap}
use Rattle.room.specs.RoomLaws.{met_below, jump_on, jump}
use Rattle.room.specs.OverlapLaws.{place_ends}
use Rattle.room.specs.Room.{Range}
use Rattle.std.specs.Prelude.{List, length}
use Rattle.std.proofs.Common.{Option}
use Rattle.room.proofs.places.lowest_place.Invariants.{fits_at}
use Rattle.room.proofs.places.lowest_place.Goals as goal

pub nonzero_div-places : goal.nonzero_div-places
nonzero_div-places c = omega arith

pub loop-k-init : goal.loop-k-init
loop-k-init c = let a = c.args in lowest_start (fits_at a.ranges.now a.area) (a.limit / a.area)

pub overflow_mul-range : goal.overflow_mul-range
overflow_mul-range c =
    let a = c.args in
    omega (arith, (place_ends c.loop-k.k a.area a.limit c.requires.area.0).0 c.loop-k-test.true)

pub lowest_overlap-requires : goal.lowest_overlap-requires
lowest_overlap-requires c =
    let a = c.args in
    let ends = (place_ends c.loop-k.k a.area a.limit c.requires.area.0).0 c.loop-k-test.true in
    (omega arith, c.requires.bounded)

pub returns-in_default : goal.returns-in_default
returns-in_default c =
    let a = c.args in
    found_here (fits_at a.ranges.now a.area) (a.limit / a.area) c.loop-k.k c.loop-k.invariant (omega arith)
    (ap is_missing (sym c.lowest_overlap.ensures ∙ c.in_default.is))

-- a turn that meets a slot: it is below the count of slots
below : (r : List Range) (area k i : ℕ) (x : Option ℕ) → 0 < area
    → x ≡ lowest_overlap (ranges_in r) (length r) (k * area) area → x ≡ Some i → i < length r
below r area k i x p e f = met_below (ranges_in r) (length r) area k i p (sym e ∙ f)

pub offset_bounds-ranges-i : goal.offset_bounds-ranges-i
offset_bounds-ranges-i c =
    let a = c.args in
    let h = below a.ranges.now a.area c.loop-k.k c.in-Some.i _ c.requires.area.0 c.lowest_overlap.ensures c.in-Some.is in
    omega arith

pub bounds-ranges-i : goal.bounds-ranges-i
bounds-ranges-i c =
    let a = c.args in
    let h = below a.ranges.now a.area c.loop-k.k c.in-Some.i _ c.requires.area.0 c.lowest_overlap.ensures c.in-Some.is in
    omega arith

pub offset_bounds-ranges-i-in-loop-k : goal.offset_bounds-ranges-i-in-loop-k
offset_bounds-ranges-i-in-loop-k c =
    let a = c.args in
    let h = below a.ranges.now a.area c.loop-k.k c.in-Some.i _ c.requires.area.0 c.lowest_overlap.ensures c.in-Some.is in
    omega arith

pub bounds-ranges-i-in-loop-k : goal.bounds-ranges-i-in-loop-k
bounds-ranges-i-in-loop-k c =
    let a = c.args in
    let h = below a.ranges.now a.area c.loop-k.k c.in-Some.i _ c.requires.area.0 c.lowest_overlap.ensures c.in-Some.is in
    omega arith

pub overflow_add-end : goal.overflow_add-end
overflow_add-end c =
    let a = c.args in
    let h = below a.ranges.now a.area c.loop-k.k c.in-Some.i _ c.requires.area.0 c.lowest_overlap.ensures c.in-Some.is in
    let e = c.requires.bounded c.in-Some.i h in
    omega arith

pub overflow_add-k : goal.overflow_add-k
overflow_add-k c =
    let a = c.args in
    let h = below a.ranges.now a.area c.loop-k.k c.in-Some.i _ c.requires.area.0 c.lowest_overlap.ensures c.in-Some.is in
    let e = c.requires.bounded c.in-Some.i h in
    omega arith

pub overflow_sub-k : goal.overflow_sub-k
overflow_sub-k c = omega arith

pub nonzero_div-k : goal.nonzero_div-k
nonzero_div-k c = omega arith

pub loop-k-smaller : goal.loop-k-smaller
loop-k-smaller c =
    let a = c.args in
    let met = sym c.lowest_overlap.ensures ∙ c.in-Some.is in
    let on = jump_on (ranges_in a.ranges.now) (length a.ranges.now) a.area c.loop-k.k c.in-Some.i c.requires.area.0 met in
    omega arith

pub loop-k-preserved : goal.loop-k-preserved
loop-k-preserved c =
    let a = c.args in
    let met = sym c.lowest_overlap.ensures ∙ c.in-Some.is in
    c.loop-k.invariant
    ∙ jump (ranges_in a.ranges.now) (length a.ranges.now) a.area c.loop-k.k c.in-Some.i c.requires.area.0 met
    (a.limit / a.area)

pub returns : goal.returns
returns c =
    let a = c.args in
    found_nowhere (fits_at a.ranges.now a.area) (a.limit / a.area) c.loop-k.k c.loop-k.invariant (omega arith)
