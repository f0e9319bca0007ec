-- Row by row, each field where the one before it ends.
use mathlib.Core.Path.{◌≡◌, refl, sym, ◌∙◌}
use Rattle.std.specs.Prelude.{Some}
use mathlib.Core.List.{List}
use Prim.Native.Nat.{ℕ}
use native.Mathlib.Omega.{arith}
use lib.ListN.{length}
use Rattle.fields.specs.WrittenLaws.{wrote_field}
use Rattle.sizes.specs.Sizes.{segment_level, segment_position}
use Rattle.record.specs.Form.{table_row}
use Rattle.index.specs.Slots.{Row, row_as}
use Rattle.lent.specs.Seen.{seen}
use Rattle.lent.specs.declared.Lent.{Lent}
use Rattle.lent.specs.UsableLaws.{nodes_sized}
use Rattle.builder.specs.BuildLaws.{InDeal, entry_start_lem}
use Rattle.builder.proofs.RecordWritten.{WorkedOut, segment_inside, fields_room, wrote_number, wrote_paths, record_written}
use Rattle.builder.proofs.writing.write_record.Goals as goal

-- the level and the position
worked_out : (deal : Lent) (entry : Row) (place : ℕ) {level position : ℕ}
    → InDeal (length deal.bytes.now) place entry.offset entry.size
    → level ≡ segment_level entry.size → position ≡ segment_position entry.offset entry.size
    → WorkedOut (seen deal) entry place level position
worked_out deal entry place w l p =
    record { each = nodes_sized _ _ deal.usable; within = w; level_is = l; position_is = p }

pub put_field-at-requires : goal.put_field-at-requires
put_field-at-requires c =
    let a = c.args in
    let w = worked_out a.deal.now (row_as (Some a.entry)) a.place c.requires.in_deal
    c.segment_level-level.ensures c.segment_position-position.ensures in
    let room = fields_room w c.requires.size_in_bounds in (
      omega arith,
      omega (arith, room),
    )

pub put_field-at-requires-2 : goal.put_field-at-requires-2
put_field-at-requires-2 c =
    let a = c.args in
    let w = worked_out a.deal.now (row_as (Some a.entry)) a.place c.requires.in_deal
    c.segment_level-level.ensures c.segment_position-position.ensures in
    let room = fields_room w c.requires.size_in_bounds in (
      omega arith,
      omega (arith, room, c.put_field-at.ensures.1, c.put_field-at.auto.out),
    )

pub put_field-at-requires-3 : goal.put_field-at-requires-3
put_field-at-requires-3 c =
    let a = c.args in
    let w = worked_out a.deal.now (row_as (Some a.entry)) a.place c.requires.in_deal
    c.segment_level-level.ensures c.segment_position-position.ensures in
    let room = fields_room w c.requires.size_in_bounds in (
      omega arith,
      omega (
        arith,
        room,
        c.put_field-at.ensures.1,
        c.put_field-at.auto.out,
        c.put_field-at-2.ensures.1,
        c.put_field-at-2.auto.out,
      ),
    )

pub put_field-at-requires-4 : goal.put_field-at-requires-4
put_field-at-requires-4 c =
    let a = c.args in
    let w = worked_out a.deal.now (row_as (Some a.entry)) a.place c.requires.in_deal
    c.segment_level-level.ensures c.segment_position-position.ensures in
    let room = fields_room w c.requires.size_in_bounds in (
      omega arith,
      omega (
        arith,
        room,
        c.put_field-at.ensures.1,
        c.put_field-at.auto.out,
        c.put_field-at-2.ensures.1,
        c.put_field-at-2.auto.out,
        c.put_field-at-3.ensures.1,
        c.put_field-at-3.auto.out,
      ),
    )

pub put_paths-at-requires : goal.put_paths-at-requires
put_paths-at-requires c =
    let a = c.args in
    let w = worked_out a.deal.now (row_as (Some a.entry)) a.place c.requires.in_deal
    c.segment_level-level.ensures c.segment_position-position.ensures in
    let room = fields_room w c.requires.size_in_bounds in
    record {
      level_nonzero = (omega (arith, w.within.size_is.level_low, w.level_is), segment_inside w);
      node =
          c.requires.commitment_value
          ∙ (λ j. (seen a.deal.now).nodes (sym w.level_is j) (sym w.position_is j));
      in_tree = entry_start_lem w.within;
      deal_in_bounds = omega (
        arith,
        room,
        c.put_field-at.ensures.1,
        c.put_field-at.auto.out,
        c.put_field-at-2.ensures.1,
        c.put_field-at-2.auto.out,
        c.put_field-at-3.ensures.1,
        c.put_field-at-3.auto.out,
        c.put_field-at-4.ensures.1,
        c.put_field-at-4.auto.out,
      );
    }

pub put_field-requires : goal.put_field-requires
put_field-requires c =
    let a = c.args in
    let w = worked_out a.deal.now (row_as (Some a.entry)) a.place c.requires.in_deal
    c.segment_level-level.ensures c.segment_position-position.ensures in
    let room = fields_room w c.requires.size_in_bounds in (
      omega arith,
      omega (
        arith,
        room,
        c.put_field-at.ensures.1,
        c.put_field-at.auto.out,
        c.put_field-at-2.ensures.1,
        c.put_field-at-2.auto.out,
        c.put_field-at-3.ensures.1,
        c.put_field-at-3.auto.out,
        c.put_field-at-4.ensures.1,
        c.put_field-at-4.auto.out,
        c.put_paths-at.ensures.0,
        c.put_paths-at.auto.out,
      ),
    )

pub shape_of-out : goal.shape_of-out
shape_of-out c =
    c.put_field.auto.out
    ∙ c.put_paths-at.auto.out
    ∙ c.put_field-at-4.auto.out
    ∙ c.put_field-at-3.auto.out
    ∙ c.put_field-at-2.auto.out
    ∙ c.put_field-at.auto.out

pub returns : goal.returns
returns c =
    let a = c.args in
    let w = worked_out a.deal.now (row_as (Some a.entry)) a.place c.requires.in_deal
    c.segment_level-level.ensures c.segment_position-position.ensures in
    let sized = c.put_field-at.ensures.2 in
    record_written w a.number a.out.now sized c.requires.size_in_bounds (
      _,
      _,
      wrote_field (table_row 0) a.entry.commitment refl sized c.put_field-at.ensures.0
          (omega (arith, c.put_field-at.ensures.1)),
      (
        _,
        _,
        wrote_number (table_row 1) a.entry.offset c.to_le_bytes.ensures c.put_field-at-2.ensures,
        (
          _,
          _,
          wrote_number (table_row 2) a.entry.size c.to_le_bytes-2.ensures c.put_field-at-3.ensures,
          (
            _,
            _,
            wrote_number (table_row 3) a.place c.to_le_bytes-3.ensures c.put_field-at-4.ensures,
            wrote_paths w a.number c.put_paths-at.ensures
                (wrote_number (table_row 6) a.number c.to_le_bytes-4.ensures c.put_field.ensures),
          ),
        ),
      ),
    )
