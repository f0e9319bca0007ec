use Rattle.std.proofs.Common.{◌≡◌, ◌-◌, length}
use Rattle.rules.specs.Search.{lowest}
use Rattle.lent.specs.Seen.{seen}
use Rattle.booking.specs.Booking.{keeps_own}
use Rattle.booking.proofs.keeping.lowest_keeping.Given as goal

abbrev pub invariant-loop-i : goal.invariant-loop-i
invariant-loop-i l =
    lowest (keeps_own (seen l.deal) l.table l.house l.segment.bytes.now) 0 (length l.table)
    ≡ lowest (keeps_own (seen l.deal) l.table l.house l.segment.bytes.now) l.i (length l.table - l.i)
