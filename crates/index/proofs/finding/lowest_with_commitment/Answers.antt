-- No slot below i keeps the commitment, so the lowest that does is the lowest of those from i on; and the areas that
-- were hashed were hashed in vain.
use Rattle.std.specs.Prelude.{◌≡◌, true, false, ℕ, ◌+◌, ◌≤◌, ◌<◌, length}
use Rattle.std.proofs.Common.{refl, sym, ap, ◌∙◌, arith}
use Rattle.std.proofs.lemmas.List.{length-take-le}
use Rattle.rules.specs.Search.{lowest}
use Rattle.rules.specs.SearchLaws.{lowest_start, lowest_here, lowest_next}
use Rattle.sizes.specs.Sizes.{lent_size_allowed, entry_count, slot_place}
use Rattle.sizes.specs.SizesLaws.{lent_size}
use Rattle.lent.specs.Seen.{seen}
use Rattle.index.specs.Slots.{holds}
use Rattle.index.specs.KeptRowsLaws.{slot_within}
use Rattle.index.specs.Tried.{kept_by}
use Rattle.index.specs.Find.{keeps_commitment, found_in}
use Rattle.index.proofs.Naming.{names, row_keeps_lem, row_found, tried_in_vain, missed_start, missed_next}
use Rattle.index.proofs.finding.lowest_with_commitment.Goals.{else-not-tried_before-via-then-not-tried_before+else-segment_has, else-not-tried_before-via-else-not-tried_before}
use Rattle.index.proofs.finding.lowest_with_commitment.Goals as goal

-- the array has room for every slot
few : (d n : ℕ) → lent_size_allowed d ≡ true → n ≡ entry_count d → n ≤ 128
unfolding entry_count
few d n h e = omega (arith, (lent_size d h).lent_high)

-- slot i lies within the deal
within : (d i n place : ℕ) → lent_size_allowed d ≡ true → n ≡ entry_count d → i < n → place ≡ slot_place d i
    → place + 64 ≤ d
within d i n place e c h p = omega (arith, slot_within d i (lent_size d e).deal (omega arith))

pub loop-i-init : goal.loop-i-init
loop-i-init c =
    let p = keeps_commitment (seen c.args.deal.now) c.args.commitment.now in (
      ap (lowest p 0) (sym c.entry_count-i-end.ensures) ∙ lowest_start p c.entry_count-i-end.result,
      missed_start (seen c.args.deal.now).nodes c.args.commitment.now 128,
    )

pub slot_place-place-requires : goal.slot_place-place-requires
slot_place-place-requires c =
    ((lent_size (length c.args.deal.now.bytes.now) c.args.deal.now.usable.size_allowed).allowed, omega arith)

pub naming_at-requires : goal.naming_at-requires
naming_at-requires c =
    let deal = c.args.deal.now in
    let d = length deal.bytes.now in (
      deal.usable.size_allowed,
      within d c.loop-i.i c.entry_count-i-end.result c.slot_place-place.result deal.usable.size_allowed
          c.entry_count-i-end.ensures c.loop-i-test.true c.slot_place-place.ensures,
    )

pub loop-i-preserved-in_default : goal.loop-i-preserved-in_default
loop-i-preserved-in_default c =
    let deal = seen c.args.deal.now in
    let commitment = c.args.commitment.now in
    let i = c.loop-i.i in
    let keeps_not = sym (row_keeps_lem deal commitment i c.slot_place-place.ensures c.in_default.ensures) in
    let next = lowest_next (keeps_commitment deal commitment) c.entry_count-i-end.result i (omega arith) keeps_not in
    (c.loop-i.invariant.0 ∙ next, c.loop-i.invariant.1)

pub slice_bounds-tried-end : goal.slice_bounds-tried-end
slice_bounds-tried-end c =
    let deal = c.args.deal.now in
    let room = few (length deal.bytes.now) c.entry_count-i-end.result deal.usable.size_allowed
    c.entry_count-i-end.ensures in
    omega (arith, c.area.array_long)

pub slice_bounds-tried_before-end : goal.slice_bounds-tried_before-end
slice_bounds-tried_before-end c =
    let deal = c.args.deal.now in
    let room = few (length deal.bytes.now) c.entry_count-i-end.result deal.usable.size_allowed
    c.entry_count-i-end.ensures in
    sym (length-take-le c.loop-i.i c.loop-i.tried (omega (arith, c.area.array_long)))

pub segment_has-requires : goal.segment_has-requires
segment_has-requires c =
    let deal = c.args.deal.now in
    let row = c.in-Some.row in
    let s = (names deal.bytes.now c.args.commitment.now c.slot_place-place.result
    (holds row.commitment row.offset row.size) refl c.in-Some.ensures).stands_as in
    record { size_allowed = s.size_allowed; offset_allowed = s.offset_allowed_lem }

pub returns-then-segment_has : goal.returns-then-segment_has
returns-then-segment_has c =
    let deal = seen c.args.deal.now in
    let commitment = c.args.commitment.now in
    let i = c.loop-i.i in
    let p = c.slot_place-place.ensures in
    let keeps_it = sym (row_keeps_lem deal commitment i p c.in-Some.ensures) ∙ sym c.segment_has.ensures
    ∙ c.if-segment_has.true in
    let here = lowest_here (keeps_commitment deal commitment) c.entry_count-i-end.result i (omega arith) keeps_it in
    row_found deal commitment i p c.in-Some.ensures refl
    ∙ ap (found_in deal.bytes) (sym (c.loop-i.invariant.0 ∙ here))

pub offset_bounds-tried-i : goal.offset_bounds-tried-i
offset_bounds-tried-i c =
    let deal = c.args.deal.now in
    omega (
      arith,
      few (length deal.bytes.now) c.entry_count-i-end.result deal.usable.size_allowed c.entry_count-i-end.ensures,
    )

pub bounds-tried-i : goal.bounds-tried-i
bounds-tried-i c =
    let deal = c.args.deal.now in
    omega (
      arith,
      few (length deal.bytes.now) c.entry_count-i-end.result deal.usable.size_allowed c.entry_count-i-end.ensures,
    )

pub loop-i-preserved : goal.loop-i-preserved
loop-i-preserved c =
    let deal = seen c.args.deal.now in
    let commitment = c.args.commitment.now in
    let i = c.loop-i.i in
    let row = holds c.in-Some.row.commitment c.in-Some.row.offset c.in-Some.row.size in
    let place = c.slot_place-place.result in
    let e = c.in-Some.ensures in
    let missed = c.loop-i.invariant.1 in
    let room = few (length deal.bytes) c.entry_count-i-end.result c.args.deal.now.usable.size_allowed
    c.entry_count-i-end.ensures in
    let lost : kept_by deal.nodes row ≡ false =
    elim c.else-not-tried_before.branch [
      | else-not-tried_before-via-then-not-tried_before+else-segment_has w ↦
          sym w.segment_has.ensures ∙ w.if-segment_has.false
      | else-not-tried_before-via-else-not-tried_before w ↦
          let t = c.tried_before.ensures w.if-not-tried_before.false in
          tried_in_vain deal.nodes deal.bytes commitment c.loop-i.tried place row refl e missed i
          (omega (arith, c.area.array_long)) (t.0, t.1, t.2, t.3 ∙ c.area.ensures)
    ] in
    let keeps_not = sym (row_keeps_lem deal commitment i c.slot_place-place.ensures e) ∙ lost in
    let next = lowest_next (keeps_commitment deal commitment) c.entry_count-i-end.result i (omega arith) keeps_not in (
      c.loop-i.invariant.0 ∙ next,
      rw c.area.ensures
          (missed_next deal.nodes deal.bytes commitment c.loop-i.tried place row refl e missed lost i
          (omega (arith, c.area.array_long))),
    )
