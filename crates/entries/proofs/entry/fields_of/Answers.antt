use Rattle.entries.specs.Entry.{commitment_in, offset_in, size_in}
use Rattle.entries.proofs.entry.fields_of.Goals as goal

pub returns : goal.returns
unfolding commitment_in offset_in size_in
returns c = record { commitment = c.array_at.ensures; offset = c.read_u64.ensures; size = c.read_u64-2.ensures }
