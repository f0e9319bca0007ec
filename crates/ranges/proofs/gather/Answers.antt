use Rattle.std.proofs.Common.{
  ◌≡◌,
  refl,
  sym,
  ap,
  ◌∙◌,
  subst,
  ℕ,
  ◌≤◌,
  ◌<◌,
  ◌+◌,
  true,
  set,
  length,
  length-set,
  get_or-set_other,
  arith,
}
use Rattle.sizes.specs.Sizes.{area, lent_size_allowed, entry_count}
use Rattle.sizes.specs.SizesLaws.{lent_size}
use Rattle.index.specs.KeptRowsLaws.{slot_within}
use Rattle.room.specs.Room.{Range, SameBelow, range, ranges_in}
use Rattle.room.specs.RoomLaws.{slots_high}
use Rattle.ranges.specs.Ranges.{ranges_of}
use Rattle.ranges.proofs.GatherTurn.{gathered_some, gathered_none, all_none}
use Rattle.ranges.proofs.gather.Goals as goal
use Rattle.ranges.proofs.gather.Goals.{in-Some, in_default}

-- the count of slots that was answered is at most 128
few : (size n : ℕ) → lent_size_allowed size ≡ true → n ≡ entry_count size → n ≤ 128
few size n h e = omega (arith, e, slots_high size h)

pub loop-i-init : goal.loop-i-init
loop-i-init c = (refl, λ i h. absurd (omega arith), λ j h. all_none 128 j)

pub slot_place-place-requires : goal.slot_place-place-requires
slot_place-place-requires c = ((lent_size (length c.args.deal.now) c.requires).allowed, omega (arith, c.entry_count-slots.ensures))

pub standing_at-requires : goal.standing_at-requires
standing_at-requires c =
    let d = length c.args.deal.now in
    let below = slot_within d c.loop-i.i (lent_size d c.requires).deal (omega (arith, c.entry_count-slots.ensures)) in
    (c.requires, omega (arith, below, c.slot_place-place.ensures))

pub offset_bounds-ranges-i : goal.offset_bounds-ranges-i
offset_bounds-ranges-i c = omega (arith, few _ _ c.requires c.entry_count-slots.ensures)

pub bounds-ranges-i : goal.bounds-ranges-i
bounds-ranges-i c = omega (arith, few _ _ c.requires c.entry_count-slots.ensures)

pub loop-i-preserved : goal.loop-i-preserved
loop-i-preserved c =
    let deal = c.args.deal.now in
    let i = c.loop-i.i in
    let ranges = c.loop-i.ranges in
    let inside : i < length ranges = omega (arith, c.loop-i.invariant.0, few _ _ c.requires c.entry_count-slots.ensures) in
    elim c.match-standing_at.branch [
      | in-Some w ↦
          let written = range w.in-Some.entry.offset w.area.result in
          let same = ap (range w.in-Some.entry.offset) w.area.ensures in
          rw w.ranges-is (
            simp length-set c.loop-i.invariant.0,
            subst (λ (r : Range). SameBelow (i + 1) (ranges_in (set ranges i r)) (ranges_of deal)) (sym same)
                (gathered_some deal i c.slot_place-place.result c.standing_at.result c.slot_place-place.ensures
                c.standing_at.ensures ranges inside c.loop-i.invariant.1 w.in-Some.entry w.in-Some.is),
            λ j h. get_or-set_other ranges i j written (range 0 0) (omega arith) ∙ c.loop-i.invariant.2 j (omega arith),
          )
      | in_default w ↦
          rw w.ranges-is (
            c.loop-i.invariant.0,
            gathered_none deal i c.slot_place-place.result c.standing_at.result c.slot_place-place.ensures
                c.standing_at.ensures ranges inside c.loop-i.invariant.1 w.in_default.is (c.loop-i.invariant.2 i (omega arith)),
            λ j h. c.loop-i.invariant.2 j (omega arith),
          )
    ]

pub returns : goal.returns
returns c =
    let deal = c.args.deal.now in
    let all : c.loop-i.i ≡ entry_count (length deal) = omega (arith, c.entry_count-slots.ensures) in
    subst (λ (m : ℕ). SameBelow m (ranges_in c.loop-i.ranges) (ranges_of deal)) all c.loop-i.invariant.1
