-- `show_records`: each turn leaves less of the input.
use Rattle.std.proofs.Common.{length}
use Rattle.show_record.proofs.show_records.Given as goal

abbrev pub decreases-loop-length : goal.decreases-loop-length
decreases-loop-length g l = length l.rest
