use Rattle.std.proofs.Common.{sym}
use Rattle.clerk_log.proofs.LinesRead.{booking_read}
use Rattle.clerk_log.proofs.reading.booking_at.Goals as goal

pub returns : goal.returns
returns c =
    simp (c.array_at.ensures, c.read_u64.ensures, c.read_u64-2.ensures, c.read_u64-3.ensures)
    (sym (booking_read c.args.log.now c.args.start c.requires))
