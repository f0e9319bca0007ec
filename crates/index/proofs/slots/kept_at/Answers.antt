use Rattle.std.proofs.Common.{refl, ap, ◌∙◌}
use Rattle.lent.specs.Seen.{seen}
use Rattle.index.specs.Slots.{entry_at, holds, row_as}
use Rattle.index.specs.SlotsLaws.{answer_stands}
use Rattle.index.proofs.SlotAnswers.{kept_free, kept_other, kept_here}
use Rattle.index.proofs.slots.kept_at.Goals as goal

pub returns-in_err-row : goal.returns-in_err-row
returns-in_err-row c =
    ap row_as c.from_residual.ensures ∙ kept_free (seen c.args.deal.now).nodes _ _ c.in_err-row.ensures refl

pub segment_has-requires : goal.segment_has-requires
segment_has-requires c =
    let bytes = c.args.deal.now.bytes.now in
    let row = c.in_ok-row.row in
    let s = answer_stands _ (entry_at bytes c.args.place) (holds row.commitment row.offset row.size)
    c.in_ok-row.ensures refl in
    record { size_allowed = s.size_allowed; offset_allowed = s.offset_allowed_lem }

pub returns-then-not-segment_has : goal.returns-then-not-segment_has
returns-then-not-segment_has c =
    kept_other (seen c.args.deal.now).nodes _ _ c.in_ok-row.ensures refl c.segment_has.ensures
    c.if-not-segment_has.true

pub returns : goal.returns
returns c =
    kept_here (seen c.args.deal.now).nodes _ _ c.in_ok-row.ensures refl c.segment_has.ensures
    c.if-not-segment_has.false
