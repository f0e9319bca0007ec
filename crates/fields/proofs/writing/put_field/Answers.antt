use Rattle.std.proofs.Common.{arith}
use Rattle.fields.specs.WrittenLaws.{field_written}
use Rattle.fields.proofs.writing.put_field.Goals as goal

pub returns : goal.returns
returns g c =
    let a = c.args in
    let size = c.put_array.ensures.1 in
    let middle = c.put_head-start.ensures.1 in (
      field_written a.out.now a.content a.at a.row.tag size (omega arith) c.put_head-start.ensures.0 middle
          c.put_array.ensures.0,
      omega arith,
      size,
    )
