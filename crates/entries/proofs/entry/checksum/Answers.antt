use Rattle.std.proofs.Common.{sym, arith}
use Rattle.entries.proofs.Written.{front_length, digest_is, checksum_written}
use Rattle.entries.proofs.entry.checksum.Goals as goal

pub slice_bounds-put-end-2 : goal.slice_bounds-put-end-2
slice_bounds-put-end-2 c = sym (front_length c.args.entry.now c.requires)

pub returns : goal.returns
returns c =
    checksum_written c.args.entry.now c.put.new.d c.unwrap-digest.result c.array_at-sum.result c.requires c.put.ensures
    (digest_is c.put.new.d (omega arith) c.sha256.ensures c.unwrap-digest.ensures) c.array_at-sum.ensures
