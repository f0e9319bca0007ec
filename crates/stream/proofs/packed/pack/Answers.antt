use Rattle.stream.proofs.PackedLaws.{packed_written}
use Rattle.stream.proofs.packed.pack.Goals as goal

pub returns : goal.returns
returns c =
    packed_written c.args.state c.args.bytes.now c.put_u64.new.d c.put_array.new.d c.put_array-2.new.d
    c.put_array-3.new.d c.requires c.put_array-2.ensures.1 c.put_array-3.ensures.1 c.put_u64.ensures
    c.put_array.ensures.0 c.put_array-2.ensures.0 c.put_array-3.ensures.0
