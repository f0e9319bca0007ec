use Rattle.std.specs.Prelude.{◌≡◌, length}
use Rattle.std.proofs.Common.{rules, arith}
use Rattle.playback.proofs.RowsWritten.{row_bytes_length, parts_written}
use Rattle.playback.proofs.rows.put_row.Goals as goal

pub returns-clause-written : goal.returns-clause-written
returns-clause-written c =
    let sized : length c.args.row.now.commitment ≡ 32 = search rules in
    parts_written c.args.out.now c.args.at c.args.row.now c.requires sized c.put.new.d
    c.put_array.new.d c.put_u64.new.d c.put_u64-2.new.d c.put_u64-3.new.d
    c.put.ensures c.put_array.ensures.0 c.put_u64.ensures c.put_u64-2.ensures
    c.put_u64-3.ensures

pub returns-clause-sized : goal.returns-clause-sized
returns-clause-sized c =
    let sized : length c.args.row.now.commitment ≡ 32 = search rules in row_bytes_length c.args.row.now sized
