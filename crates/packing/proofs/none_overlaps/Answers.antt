use Rattle.std.proofs.Common.{sym, ap, ◌≡◌, refl, ◌∙◌, not, length, arith, Option, ℕ}
use Rattle.std.specs.Prelude.{Some, None, is_some}
use Rattle.rules.specs.SearchLaws.{lowest_start, found_here, found_later, found_nowhere}
use Rattle.room.specs.Room.{ranges_in, is_missing}
use Rattle.room.specs.RoomLaws.{first_end, first_overlap}
use Rattle.packing.specs.Order.{overlaps_lower, none_overlaps}
use Rattle.packing.proofs.none_overlaps.Goals as goal

found_some : (found : Option ℕ) → not (is_missing found) ≡ is_some found
found_some None = refl
found_some (Some k) = refl

pub loop-i-init : goal.loop-i-init
loop-i-init c = lowest_start (overlaps_lower (ranges_in c.args.ranges.now)) (length c.args.ranges.now)

pub lowest_overlap-requires : goal.lowest_overlap-requires
lowest_overlap-requires c = (
  c.requires c.loop-i.i (omega arith),
  first_end _ c.args.ranges.now (omega arith) _ (λ k h. c.requires k (omega arith)),
)

pub returns-then-is_some : goal.returns-then-is_some
unfolding none_overlaps
returns-then-is_some c =
    let a = c.args in
    ap is_missing
    (found_here (overlaps_lower (ranges_in a.ranges.now)) (length a.ranges.now) c.loop-i.i c.loop-i.invariant (omega arith)
    (ap (λ (f : Option ℕ). not (is_missing f))
    (sym (c.lowest_overlap.ensures ∙ first_overlap c.loop-i.i a.ranges.now (omega arith) _ _))
    ∙ found_some c.lowest_overlap.result
    ∙ sym c.is_some.ensures
    ∙ c.if-is_some.true))

pub loop-i-preserved : goal.loop-i-preserved
loop-i-preserved c =
    let a = c.args in
    found_later (overlaps_lower (ranges_in a.ranges.now)) (length a.ranges.now) c.loop-i.i c.loop-i.invariant (omega arith)
    (ap (λ (f : Option ℕ). not (is_missing f))
    (sym (c.lowest_overlap.ensures ∙ first_overlap c.loop-i.i a.ranges.now (omega arith) _ _))
    ∙ found_some c.lowest_overlap.result
    ∙ sym c.is_some.ensures
    ∙ c.if-is_some.false)

pub returns : goal.returns
unfolding none_overlaps
returns c =
    let a = c.args in
    ap is_missing
    (found_nowhere (overlaps_lower (ranges_in a.ranges.now)) (length a.ranges.now) c.loop-i.i c.loop-i.invariant (omega arith))
