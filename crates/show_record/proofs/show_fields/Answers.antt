-- `show_fields`: each field lies within the record.
use Rattle.std.proofs.Common.{sym, arith}
use Rattle.reader.specs.ReaderLaws.{field_within}
use Rattle.show_record.proofs.show_fields.Goals as goal

pub slice_bounds-show_field-count : goal.slice_bounds-show_field-count
slice_bounds-show_field-count g c =
    let w = field_within _ _ _ _ _ _ (sym c.in-Ok.ensures.0) in omega (arith, w.0)

pub slice_bounds-show_field-start : goal.slice_bounds-show_field-start
slice_bounds-show_field-start g c =
    let w = field_within _ _ _ _ _ _ (sym c.in-Ok.ensures.0) in omega (arith, w.0)

pub slice_bounds-show_field-end : goal.slice_bounds-show_field-end
slice_bounds-show_field-end g c =
    let w = field_within _ _ _ _ _ _ (sym c.in-Ok.ensures.0) in w.1
