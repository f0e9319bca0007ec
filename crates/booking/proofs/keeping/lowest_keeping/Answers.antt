use Rattle.std.proofs.Common.{◌≡◌, sym, ap, ◌∙◌, Bool, true, false, ◌&&◌, ◌≢◌, ℕ, length, get_or, eqb, arith}
use Rattle.std.proofs.Common.{true≢false, eq-eqb, ne_eqb}
use Rattle.rules.specs.RefusalLaws.{and_right, and_both, not_passed}
use Rattle.rules.specs.Search.{lowest}
use Rattle.rules.specs.SearchLaws.{lowest_start, found_here, found_later, found_nowhere}
use Rattle.lent.specs.Seen.{seen}
use Rattle.room.specs.RoomLaws.{slots_high}
use Rattle.houses.specs.HousesLaws.{sized_length}
use Rattle.booking.specs.Booking.{keeps_own}
use Rattle.booking.proofs.keeping.lowest_keeping.Goals as goal
use Rattle.booking.proofs.keeping.lowest_keeping.Goals.{
  else-owner-house-via-then-owner-house+else-slot_keeps,
  else-owner-house-via-else-owner-house,
}

-- a slot is the house's and keeps the segment, or is another's, or keeps it not
own : (owner house : ℕ) (keeping kept : Bool) → owner ≡ house → keeping ≡ kept → keeping ≡ true
    → (eqb owner house && kept) ≡ true
own owner house keeping kept e k t = and_both (eqb owner house) kept (eq-eqb owner house e) (sym k ∙ t)

not_own : (owner house : ℕ) (kept : Bool) → owner ≢ house → (eqb owner house && kept) ≡ false
not_own owner house kept ne = rw (ne_eqb owner house ne)

not_kept : (owned keeping kept : Bool) → keeping ≡ kept → keeping ≡ false → (owned && kept) ≡ false
not_kept owned keeping kept k f =
    not_passed (owned && kept) (λ t. true≢false (sym (and_right owned kept t) ∙ sym k ∙ f))

pub loop-i-init : goal.loop-i-init
loop-i-init c =
    let a = c.args in
    lowest_start (keeps_own (seen a.deal.now) a.table.now a.house a.segment.now.bytes.now) (length a.table.now)

pub offset_bounds-ranges-i : goal.offset_bounds-ranges-i
offset_bounds-ranges-i c =
    let d = length c.args.deal.now.bytes.now in
    let l = sized_length d c.args.table.now c.requires.table_value in
    omega (arith, slots_high d c.args.deal.now.usable.size_allowed)

pub bounds-ranges-i : goal.bounds-ranges-i
bounds-ranges-i c =
    let d = length c.args.deal.now.bytes.now in
    let l = sized_length d c.args.table.now c.requires.table_value in
    omega (arith, slots_high d c.args.deal.now.usable.size_allowed)

pub returns-then-slot_keeps : goal.returns-then-slot_keeps
returns-then-slot_keeps c =
    let a = c.args in
    let d = length a.deal.now.bytes.now in
    let slots = sized_length d a.table.now c.requires.table_value in
    let keeps = keeps_own (seen a.deal.now) a.table.now a.house a.segment.now.bytes.now in
    found_here keeps (length a.table.now) c.loop-i.i c.loop-i.invariant (omega arith)
    (own (get_or a.table.now c.loop-i.i 0) a.house c.slot_keeps.result _ c.if-owner-house.true c.slot_keeps.ensures
    c.if-slot_keeps.true)
    ∙ ap (lowest keeps 0) slots

pub loop-i-preserved : goal.loop-i-preserved
loop-i-preserved c =
    let a = c.args in
    let i = c.loop-i.i in
    let owner = get_or a.table.now i 0 in
    let keeps = keeps_own (seen a.deal.now) a.table.now a.house a.segment.now.bytes.now in
    let passed_by : keeps i ≡ false = elim c.else-owner-house.branch [
      | else-owner-house-via-then-owner-house+else-slot_keeps w ↦ not_kept (eqb owner a.house) w.slot_keeps.result _
          w.slot_keeps.ensures w.if-slot_keeps.false
      | else-owner-house-via-else-owner-house w ↦ not_own owner a.house _ w.if-owner-house.false
    ] in
    found_later keeps (length a.table.now) i c.loop-i.invariant (omega arith) passed_by

pub returns : goal.returns
returns c =
    let a = c.args in
    let slots = sized_length (length a.deal.now.bytes.now) a.table.now c.requires.table_value in
    let keeps = keeps_own (seen a.deal.now) a.table.now a.house a.segment.now.bytes.now in
    found_nowhere keeps (length a.table.now) c.loop-i.i c.loop-i.invariant (omega arith)
    ∙ ap (lowest keeps 0) slots
