use Rattle.std.proofs.Common.{sym, length, arith}
use Rattle.sizes.specs.SizesLaws.{lent_size}
use Rattle.entries.specs.declared.EntryKind.TheVariants.{Blank, Damaged, Valid}
use Rattle.audit.specs.SlotStateLaws.{state_0, state_1, state_2}
use Rattle.audit.proofs.Judged.{kind_at, few, slot_in, none_stands, one_stands}
use Rattle.audit.proofs.slot_state.Goals as goal

pub slot_place-place-requires : goal.slot_place-place-requires
slot_place-place-requires c =
    ((lent_size (length c.args.deal.now.bytes.now) c.args.deal.now.usable.size_allowed).allowed, c.requires.1)

-- the slot lies within the deal
pub overflow_add-end : goal.overflow_add-end
overflow_add-end c = omega (arith, slot_in c.requires.0 c.args.i c.requires.1, c.slot_place-place.ensures)

pub slice_bounds-kind_of-end : goal.slice_bounds-kind_of-end
slice_bounds-kind_of-end c =
    omega (arith, slot_in c.requires.0 c.args.i c.requires.1, c.slot_place-place.ensures)

pub offset_bounds-ranges-i : goal.offset_bounds-ranges-i
offset_bounds-ranges-i c = omega (arith, few c.requires.0 c.args.i c.requires.1)

pub bounds-ranges-i : goal.bounds-ranges-i
bounds-ranges-i c = few c.requires.0 c.args.i c.requires.1

-- the kind that was read is that of the slot
pub returns-in-Blank : goal.returns-in-Blank
returns-in-Blank c =
    let deal = c.args.deal.now.bytes.now in
    sym ((state_0 deal c.args.i).1
    (kind_at deal c.args.i c.slot_place-place.result c.kind_of.result Blank c.slot_place-place.ensures
    c.kind_of.ensures c.in-Blank.is))

pub returns-in-Damaged : goal.returns-in-Damaged
returns-in-Damaged c =
    let deal = c.args.deal.now.bytes.now in
    sym ((state_1 deal c.args.i).1
    (kind_at deal c.args.i c.slot_place-place.result c.kind_of.result Damaged c.slot_place-place.ensures
    c.kind_of.ensures c.in-Damaged.is))

pub returns-in-Valid : goal.returns-in-Valid
returns-in-Valid c =
    let deal = c.args.deal.now.bytes.now in
    sym ((state_2 deal c.args.i).1 (
      kind_at deal c.args.i c.slot_place-place.result c.kind_of.result Valid c.slot_place-place.ensures
          c.kind_of.ensures c.in-Valid.is,
      none_stands c.requires.0 c.args.i c.requires.1 c.if-ranges-i-eq0.true,
    ))

pub standing_state-requires-clause-place_value : goal.standing_state-requires-clause-place_value
standing_state-requires-clause-place_value c =
    (c.slot_place-place.ensures, one_stands c.requires.0 c.args.i c.requires.1 c.if-ranges-i-eq0.false)
