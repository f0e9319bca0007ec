use native.Mathlib.Omega.{arith}
use Rattle.entries.proofs.Written.{entry_written}
use Rattle.entries.proofs.entry.entry_of.Goals as goal

pub returns : goal.returns
returns c =
    entry_written c.args.commitment c.args.offset c.args.size c.put.new.d c.put_u64.new.d
    c.put_u64-2.new.d c.checksum-sum.result c.put-2.new.d c.well_formed.0.1.0.1 c.put.ensures
    c.put_u64.ensures c.put_u64-2.ensures c.checksum-sum.ensures c.put-2.ensures (omega arith)
