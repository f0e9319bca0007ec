use Rattle.std.proofs.Common.{◌≡◌, sym, ap, ◌∙◌, ◌+◌, ◌≤◌, length, arith}
use Rattle.std.specs.Prelude.{option_map}
use Rattle.sizes.specs.SizesLaws.{segment_size, index_start_le}
use Rattle.lent.specs.Seen.{seen}
use Rattle.lent.specs.UsableLaws.{usable_size}
use Rattle.index.specs.Slots.{slot_at}
use Rattle.index.specs.KeptRowsLaws.{slot_within, row_ends}
use Rattle.room.specs.Room.{Range}
use Rattle.booking.specs.AreaNode.{area_node}
use Rattle.booking.proofs.KeepingSlot.{
  unequal,
  equal,
  other_area,
  other_size,
  offset_here,
  other_node,
  bytes_left,
  size_there_lem,
  commitment_there,
}
use Rattle.booking.proofs.keeping.slot_keeps.Goals as goal

pub returns-then-range-area : goal.returns-then-range-area
returns-then-range-area c =
    let a = c.args in
    sym
    (other_area (seen a.deal.now) a.segment.now.bytes.now a.i
    (λ e. c.if-range-area.true (ap (λ (r : Range). r.area) c.requires.range_value ∙ e ∙ sym c.area.ensures)))

-- the slot lies in the deal
pub slot_place-place-requires : goal.slot_place-place-requires
slot_place-place-requires c = ((usable_size c.args.deal.now.usable).allowed, c.requires.i_bound)

pub overflow_add-place : goal.overflow_add-place
overflow_add-place c =
    let h = slot_within (length c.args.deal.now.bytes.now) c.args.i (usable_size c.args.deal.now.usable).deal
    c.requires.i_bound in
    omega (arith, c.slot_place-place.ensures)

pub read_u64-requires : goal.read_u64-requires
read_u64-requires c =
    let h = slot_within (length c.args.deal.now.bytes.now) c.args.i (usable_size c.args.deal.now.usable).deal
    c.requires.i_bound in
    omega (arith, c.slot_place-place.ensures)

pub array_at-requires : goal.array_at-requires
array_at-requires c =
    let h = slot_within (length c.args.deal.now.bytes.now) c.args.i (usable_size c.args.deal.now.usable).deal
    c.requires.i_bound in
    (omega arith, omega (arith, c.slot_place-place.ensures))

-- its entry has another size
pub returns-then-read_u64-size : goal.returns-then-read_u64-size
returns-then-read_u64-size c =
    let a = c.args in
    let h = slot_within (length a.deal.now.bytes.now) a.i (usable_size a.deal.now.usable).deal c.requires.i_bound in
    let within : c.slot_place-place.result + 64 ≤ length a.deal.now.bytes.now =
    omega (arith, c.slot_place-place.ensures) in
    let read = c.read_u64.ensures
    ∙ size_there_lem a.deal.now.bytes.now a.i c.slot_place-place.result c.slot_place-place.ensures within in
    sym
    (other_size (seen a.deal.now) a.segment.now.bytes.now a.i
    (λ e. c.if-read_u64-size.true (read ∙ e ∙ sym c.size.ensures)))

-- or the segment's
pub area_node-node-requires-clause-offset_value : goal.area_node-node-requires-clause-offset_value
area_node-node-requires-clause-offset_value c =
    let a = c.args in
    let d = a.deal.now.bytes.now in
    let sized = (usable_size a.deal.now.usable).deal in
    let h = slot_within (length d) a.i sized c.requires.i_bound in
    let within : c.slot_place-place.result + 64 ≤ length d = omega (arith, c.slot_place-place.ensures) in
    let size = sym
    (c.read_u64.ensures ∙ size_there_lem d a.i c.slot_place-place.result c.slot_place-place.ensures within)
    ∙ c.if-read_u64-size.false
    ∙ c.size.ensures in
    offset_here d (option_map (λ t. t.now) a.deal.now.tree) a.segment.now.bytes.now a.i a.range c.requires.range_value
    sized c.requires.segment_value (c.if-range-area.false ∙ c.area.ensures) size

-- its commitment is another
pub returns-then-ne : goal.returns-then-ne
returns-then-ne c =
    let a = c.args in
    let d = a.deal.now.bytes.now in
    let sized = (usable_size a.deal.now.usable).deal in
    let h = slot_within (length d) a.i sized c.requires.i_bound in
    let within : c.slot_place-place.result + 64 ≤ length d = omega (arith, c.slot_place-place.ensures) in
    let size = sym
    (c.read_u64.ensures ∙ size_there_lem d a.i c.slot_place-place.result c.slot_place-place.ensures within)
    ∙ c.if-read_u64-size.false
    ∙ c.size.ensures in
    let read = c.array_at.ensures
    ∙ commitment_there d a.i c.slot_place-place.result c.slot_place-place.ensures within in
    sym
    (other_node d (option_map (λ t. t.now) a.deal.now.tree) a.segment.now.bytes.now a.i a.range
    c.requires.range_value sized c.requires.segment_value (c.if-range-area.false ∙ c.area.ensures) size
    c.area_node-node.result
    (c.area_node-node.ensures
    ∙ ap (area_node d (option_map (λ t. t.now) a.deal.now.tree) a.range.offset (length a.segment.now.bytes.now))
    a.segment.now.committed)
    (λ e. unequal c.array_at.result c.area_node-node.result c.ne.result c.ne.ensures c.if-ne.true (read ∙ e)))

pub same_filled-requires : goal.same_filled-requires
same_filled-requires c =
    let a = c.args in
    let d = length a.deal.now.bytes.now in
    let sized = (usable_size a.deal.now.usable).deal in
    let area = c.if-range-area.false ∙ c.area.ensures in
    let ends = row_ends d (slot_at a.deal.now.bytes.now a.i) sized in
    let at = c.requires.range_value in
    let size_area = (segment_size d (length a.segment.now.bytes.now) sized c.requires.segment_value).size_area in (
      omega arith,
      omega (arith, index_start_le d, ap (λ (r : Range). r.offset) at, ap (λ (r : Range). r.area) at),
    )

pub returns : goal.returns
returns c =
    let a = c.args in
    let d = a.deal.now.bytes.now in
    let sized = (usable_size a.deal.now.usable).deal in
    let h = slot_within (length d) a.i sized c.requires.i_bound in
    let within : c.slot_place-place.result + 64 ≤ length d = omega (arith, c.slot_place-place.ensures) in
    let size = sym
    (c.read_u64.ensures ∙ size_there_lem d a.i c.slot_place-place.result c.slot_place-place.ensures within)
    ∙ c.if-read_u64-size.false
    ∙ c.size.ensures in
    let read = c.array_at.ensures
    ∙ commitment_there d a.i c.slot_place-place.result c.slot_place-place.ensures within in
    c.same_filled.ensures
    ∙ bytes_left d (option_map (λ t. t.now) a.deal.now.tree) a.segment.now.bytes.now a.i a.range
    c.requires.range_value sized c.requires.segment_value (c.if-range-area.false ∙ c.area.ensures) size
    c.area_node-node.result
    (c.area_node-node.ensures
    ∙ ap (area_node d (option_map (λ t. t.now) a.deal.now.tree) a.range.offset (length a.segment.now.bytes.now))
    a.segment.now.committed)
    (sym read ∙ equal c.array_at.result c.area_node-node.result c.ne.result c.ne.ensures c.if-ne.false)
