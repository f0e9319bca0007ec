-- The answer to what is decided is compared with the line's; with the same one its row, if one was decided on, is added.
use Rattle.std.specs.Prelude.{◌≡◌, refl, ◌<◌}
use Rattle.std.proofs.Common.{rules, sym, ap, ◌∙◌, arith, subst}
use Rattle.rules.specs.Answers.{number}
use Rattle.sizes.specs.Sizes.{entry_count}
use Rattle.sizes.specs.SizesLaws.{lent_size}
use Rattle.room.specs.Room.{ranges_in}
use Rattle.room.specs.RoomLaws.{slots_high}
use Rattle.room.specs.Decide.{decision_of, SlotBelow}
use Rattle.clerk_log.specs.declared.Line.TheVariants.{Booking as booking}
use Rattle.playback.specs.Playback.{ruling, same_answer}
use Rattle.playback.specs.LedgerLaws.{booking_fits}
use Rattle.playback.specs.Steps.{Fits}
use Rattle.playback.proofs.DecidedLine.{same_below}
use Rattle.playback.proofs.PlayedLine.{outcome_other, left_other, outcome_same, left_same, made_below, ruled_booking}
use Rattle.playback.proofs.PlayedLine.{after_booking, stored, confirms_booking, nothing_stored, no_place, is_other, is_same}
use Rattle.playback.proofs.ledger.Ledger.book.Goals as goal

pub answer-requires-clause-slot_below : goal.answer-requires-clause-slot_below
answer-requires-clause-slot_below c =
    let l = c.args.self.now in (
      number,
      made_below l.size l.rows c.args.line.now l.size_allowed c.requires (decision_of c.decide-decision.result)
          c.decide-decision.ensures,
    )

pub returns-then-ne-clause-answer : goal.returns-then-ne-clause-answer
returns-then-ne-clause-answer c =
    let l = c.args.self.now in
    let line = c.args.line.now in
    let f : Fits l.size l.rows = record { size_allowed = l.size_allowed; ends = l.ends } in
    let ruled = c.booked_of-ruling.result in
    let r : ruled ≡ ruling l.size l.rows (booking line) =
    c.booked_of-ruling.ensures ∙ c.answer.ensures number
    ∙ ruled_booking l.size l.rows line l.size_allowed c.requires (decision_of c.decide-decision.result)
    c.decide-decision.ensures (ranges_in c.ranges-ranges.result)
    (same_below l.size l.rows f (search rules) c.ranges-ranges.result c.ranges-ranges.ensures) in
    outcome_other l.size l.rows (booking line) ruled r
    (confirms_booking l.size l.rows line ruled r
    ∙ is_other (same_answer ruled line.answer) c.ne.result c.ne.ensures c.if-ne.true)

pub returns-then-ne-clause-rows : goal.returns-then-ne-clause-rows
returns-then-ne-clause-rows c =
    let l = c.args.self.now in
    let line = c.args.line.now in
    let f : Fits l.size l.rows = record { size_allowed = l.size_allowed; ends = l.ends } in
    let ruled = c.booked_of-ruling.result in
    let r : ruled ≡ ruling l.size l.rows (booking line) =
    c.booked_of-ruling.ensures ∙ c.answer.ensures number
    ∙ ruled_booking l.size l.rows line l.size_allowed c.requires (decision_of c.decide-decision.result)
    c.decide-decision.ensures (ranges_in c.ranges-ranges.result)
    (same_below l.size l.rows f (search rules) c.ranges-ranges.result c.ranges-ranges.ensures) in
    left_other l.size l.rows (booking line)
    (confirms_booking l.size l.rows line ruled r
    ∙ is_other (same_answer ruled line.answer) c.ne.result c.ne.ensures c.if-ne.true)

pub slot_place-requires : goal.slot_place-requires
slot_place-requires c =
    let l = c.args.self.now in (
      (lent_size l.size l.size_allowed).allowed,
      subst (SlotBelow (entry_count l.size)) (ap decision_of c.in-Place.is)
          (made_below l.size l.rows c.args.line.now l.size_allowed c.requires (decision_of c.decide-decision.result)
          c.decide-decision.ensures),
    )

pub offset_bounds-self-slot : goal.offset_bounds-self-slot
offset_bounds-self-slot c =
    let l = c.args.self.now in
    let below : c.in-Place.slot < entry_count l.size =
    subst (SlotBelow (entry_count l.size)) (ap decision_of c.in-Place.is)
    (made_below l.size l.rows c.args.line.now l.size_allowed c.requires (decision_of c.decide-decision.result)
    c.decide-decision.ensures) in
    omega (arith, slots_high l.size l.size_allowed, below)

pub bounds-self-slot : goal.bounds-self-slot
bounds-self-slot c =
    let l = c.args.self.now in
    let below : c.in-Place.slot < entry_count l.size =
    subst (SlotBelow (entry_count l.size)) (ap decision_of c.in-Place.is)
    (made_below l.size l.rows c.args.line.now l.size_allowed c.requires (decision_of c.decide-decision.result)
    c.decide-decision.ensures) in
    omega (arith, slots_high l.size l.size_allowed, below)

pub invariant_of-self : goal.invariant_of-self
invariant_of-self c =
    let l = c.args.self.now in
    let line = c.args.line.now in
    let f : Fits l.size l.rows = record { size_allowed = l.size_allowed; ends = l.ends } in
    let after =
    subst (Fits l.size)
    (sym (stored l.size l.rows line l.size_allowed c.requires (decision_of c.decide-decision.result)
    c.decide-decision.ensures c.in-Place.slot c.in-Place.offset c.slot_place.result c.slot_place.ensures
    (ap decision_of c.in-Place.is)))
    (booking_fits l.size l.rows line l.size_allowed c.requires f) in
    record { size_allowed = l.size_allowed; ends = after.ends }

pub returns-in-Place-clause-answer : goal.returns-in-Place-clause-answer
returns-in-Place-clause-answer c =
    let l = c.args.self.now in
    let line = c.args.line.now in
    let f : Fits l.size l.rows = record { size_allowed = l.size_allowed; ends = l.ends } in
    let ruled = c.booked_of-ruling.result in
    let r : ruled ≡ ruling l.size l.rows (booking line) =
    c.booked_of-ruling.ensures ∙ c.answer.ensures number
    ∙ ruled_booking l.size l.rows line l.size_allowed c.requires (decision_of c.decide-decision.result)
    c.decide-decision.ensures (ranges_in c.ranges-ranges.result)
    (same_below l.size l.rows f (search rules) c.ranges-ranges.result c.ranges-ranges.ensures) in
    outcome_same l.size l.rows (booking line)
    (confirms_booking l.size l.rows line ruled r
    ∙ is_same (same_answer ruled line.answer) c.ne.result c.ne.ensures c.if-ne.false)

pub returns-in-Place-clause-rows : goal.returns-in-Place-clause-rows
returns-in-Place-clause-rows c =
    let l = c.args.self.now in
    let line = c.args.line.now in
    let f : Fits l.size l.rows = record { size_allowed = l.size_allowed; ends = l.ends } in
    let ruled = c.booked_of-ruling.result in
    let r : ruled ≡ ruling l.size l.rows (booking line) =
    c.booked_of-ruling.ensures ∙ c.answer.ensures number
    ∙ ruled_booking l.size l.rows line l.size_allowed c.requires (decision_of c.decide-decision.result)
    c.decide-decision.ensures (ranges_in c.ranges-ranges.result)
    (same_below l.size l.rows f (search rules) c.ranges-ranges.result c.ranges-ranges.ensures) in
    left_same l.size l.rows (booking line) _
    (stored l.size l.rows line l.size_allowed c.requires (decision_of c.decide-decision.result)
    c.decide-decision.ensures c.in-Place.slot c.in-Place.offset c.slot_place.result c.slot_place.ensures
    (ap decision_of c.in-Place.is))
    (confirms_booking l.size l.rows line ruled r
    ∙ is_same (same_answer ruled line.answer) c.ne.result c.ne.ensures c.if-ne.false)

pub returns-in_default : goal.returns-in_default
returns-in_default c =
    let l = c.args.self.now in
    let line = c.args.line.now in
    let f : Fits l.size l.rows = record { size_allowed = l.size_allowed; ends = l.ends } in
    let made = decision_of c.decide-decision.result in
    let ruled = c.booked_of-ruling.result in
    let r : ruled ≡ ruling l.size l.rows (booking line) =
    c.booked_of-ruling.ensures ∙ c.answer.ensures number
    ∙ ruled_booking l.size l.rows line l.size_allowed c.requires made
    c.decide-decision.ensures (ranges_in c.ranges-ranges.result)
    (same_below l.size l.rows f (search rules) c.ranges-ranges.result c.ranges-ranges.ensures) in
    let e =
    confirms_booking l.size l.rows line ruled r
    ∙ is_same (same_answer ruled line.answer) c.ne.result c.ne.ensures c.if-ne.false in
    record {
      sized = refl;
      answer = outcome_same l.size l.rows (booking line) e;
      rows =
          left_same l.size l.rows (booking line) l.rows
          (nothing_stored l.size l.rows line made
          (no_place c.decide-decision.result c.in_default.not-Place)
          ∙ after_booking l.size l.rows line l.size_allowed c.requires made c.decide-decision.ensures)
          e;
    }
