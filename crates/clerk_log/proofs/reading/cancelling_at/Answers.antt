use Rattle.std.proofs.Common.{sym}
use Rattle.clerk_log.proofs.LinesRead.{cancelling_read}
use Rattle.clerk_log.proofs.reading.cancelling_at.Goals as goal

pub returns : goal.returns
returns c = simp c.read_u64.ensures (sym (cancelling_read c.args.log.now c.args.start c.requires))
