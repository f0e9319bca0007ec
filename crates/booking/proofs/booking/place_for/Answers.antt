use Rattle.std.proofs.Common.{◌≡◌, sym, ap, ap₂, ◌∙◌, subst, ℕ, length, arith}
use Rattle.rules.specs.Answers.{number}
use Rattle.sizes.specs.Sizes.{area, entry_count}
use Rattle.lent.specs.Seen.{seen}
use Rattle.room.specs.Room.{ranges_in}
use Rattle.room.specs.Decide.{SlotBelow, decide, answer_to}
use Rattle.booking.specs.Booking.{held_in}
use Rattle.booking.proofs.Deciding.{
  area_fits,
  slots_fit,
  held_within,
  gathered_end,
  counted_length,
  held_by_lem,
  decided_below,
  answer_by,
}
use Rattle.booking.proofs.booking.place_for.Goals as goal

pub slice_bounds-ranges-end : goal.slice_bounds-ranges-end
slice_bounds-ranges-end c =
    let full : length c.gather-ranges.result ≡ 128 = omega arith in
    let fit = slots_fit (seen c.args.deal.now) c.args.table.now c.args.house c.args.segment.now.bytes.now c.requires in
    omega arith

pub slice_bounds-held_count-end : goal.slice_bounds-held_count-end
slice_bounds-held_count-end c =
    sym
    (counted_length (seen c.args.deal.now) c.args.table.now c.args.house c.args.segment.now.bytes.now c.requires
    c.gather-ranges.result c.gather-ranges.ensures (omega arith))

pub held_count-held-requires : goal.held_count-held-requires
held_count-held-requires c =
    let full : length c.gather-ranges.result ≡ 128 = omega arith in
    omega (
      arith,
      counted_length (seen c.args.deal.now) c.args.table.now c.args.house c.args.segment.now.bytes.now
          c.requires c.gather-ranges.result c.gather-ranges.ensures full,
    )

pub decide-decision-requires-clause-area_nonzero : goal.decide-decision-requires-clause-area_nonzero
decide-decision-requires-clause-area_nonzero c =
    let a = c.args in
    let lent = seen a.deal.now in
    let segment = a.segment.now.bytes.now in
    let fits = area_fits lent segment c.requires.bookable in
    let held = c.held_count-held.ensures
    ∙ held_by_lem lent a.table.now a.house segment c.requires c.gather-ranges.result c.gather-ranges.ensures
    (omega arith) in (
      omega (arith, c.area.ensures, fits.0),
      omega (arith, c.area.ensures, fits.1),
      omega (arith, held, held_within lent a.table.now a.house segment c.requires),
    )

pub decide-decision-requires-clause-end_by : goal.decide-decision-requires-clause-end_by
decide-decision-requires-clause-end_by c =
    let a = c.args in
    gathered_end (seen a.deal.now) a.table.now a.house a.segment.now.bytes.now c.requires c.gather-ranges.result
    c.gather-ranges.ensures

-- what is decided
pub answer-requires-clause-slot_below : goal.answer-requires-clause-slot_below
answer-requires-clause-slot_below c =
    let a = c.args in
    let lent = seen a.deal.now in
    let segment = a.segment.now.bytes.now in
    let d = length a.deal.now.bytes.now in
    let among = decide d (ranges_in c.gather-ranges.result) in
    let held = c.held_count-held.ensures
    ∙ held_by_lem lent a.table.now a.house segment c.requires c.gather-ranges.result c.gather-ranges.ensures
    (omega arith) in
    let decided = c.decide-decision.ensures
    ∙ ap₂ (λ (h n : ℕ). among h n c.lowest_keeping-keeping.result) held c.area.ensures
    ∙ ap (among (held_in a.deal.now.bytes.now a.table.now a.house) (area (length segment)))
    c.lowest_keeping-keeping.ensures in (
      number,
      subst (SlotBelow (entry_count d)) (sym decided)
          (decided_below lent a.table.now a.house segment c.requires c.gather-ranges.result c.gather-ranges.ensures),
    )

pub returns : goal.returns
returns c =
    let a = c.args in
    let lent = seen a.deal.now in
    let segment = a.segment.now.bytes.now in
    let d = length a.deal.now.bytes.now in
    let among = decide d (ranges_in c.gather-ranges.result) in
    let held = c.held_count-held.ensures
    ∙ held_by_lem lent a.table.now a.house segment c.requires c.gather-ranges.result c.gather-ranges.ensures
    (omega arith) in
    let decided = c.decide-decision.ensures
    ∙ ap₂ (λ (h n : ℕ). among h n c.lowest_keeping-keeping.result) held c.area.ensures
    ∙ ap (among (held_in a.deal.now.bytes.now a.table.now a.house) (area (length segment)))
    c.lowest_keeping-keeping.ensures in
    c.answer.ensures number
    ∙ ap (answer_to d (ranges_in c.gather-ranges.result)) decided
    ∙ answer_by lent a.table.now a.house segment c.requires c.gather-ranges.result c.gather-ranges.ensures
