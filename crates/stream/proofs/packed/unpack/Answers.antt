use Rattle.stream.specs.Packed.{unpacked}
use Rattle.stream.proofs.packed.unpack.Goals as goal

pub returns : goal.returns
unfolding unpacked
returns c = rw (c.read_u64.ensures, c.array_at.ensures, c.array_at-2.ensures)
