use Rattle.std.proofs.Common.{rules}
use Rattle.record.specs.Form.{record_length}
use Rattle.builder.proofs.writing.record_length.Goals as goal

pub returns : goal.returns
unfolding record_length
returns c = search rules
