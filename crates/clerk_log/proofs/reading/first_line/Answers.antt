-- The line that stands at the log's start, and the rest of the log by the place of the next one.
use Rattle.std.proofs.Common.{sym, arith}
use Rattle.clerk_log.specs.LineAtLaws.{is_line, booking_within, cancelling_within}
use Rattle.clerk_log.proofs.FirstRead.{booking_first, cancelling_first, none_first}
use Rattle.clerk_log.proofs.reading.first_line.Goals as goal

pub booking_at-line-requires : goal.booking_at-line-requires
booking_at-line-requires c =
    let log = c.args.log.now in
    let x = c.in-Ok.field in
    let l = is_line log 0 x.tag x.start x.length x.next (sym c.in-Ok.ensures.0) in
    booking_within log x.tag x.start l.within c.if-field-eq-BOOKING.true

pub slice_bounds-result-count : goal.slice_bounds-result-count
slice_bounds-result-count c =
    let x = c.in-Ok.field in
    let l = is_line c.args.log.now 0 x.tag x.start x.length x.next (sym c.in-Ok.ensures.0) in
    omega (arith, l.within, l.ends)

pub slice_bounds-result-start : goal.slice_bounds-result-start
slice_bounds-result-start c =
    let x = c.in-Ok.field in
    let l = is_line c.args.log.now 0 x.tag x.start x.length x.next (sym c.in-Ok.ensures.0) in
    omega (arith, l.within, l.ends)

pub returns-then-field-eq-BOOKING : goal.returns-then-field-eq-BOOKING
returns-then-field-eq-BOOKING c =
    let x = c.in-Ok.field in
    booking_first c.args.log.now x.tag x.start x.length x.next (sym c.in-Ok.ensures.0) c.if-field-eq-BOOKING.true
    c.booking_at-line.result c.booking_at-line.ensures

pub cancelling_at-line-requires : goal.cancelling_at-line-requires
cancelling_at-line-requires c =
    let log = c.args.log.now in
    let x = c.in-Ok.field in
    let l = is_line log 0 x.tag x.start x.length x.next (sym c.in-Ok.ensures.0) in
    cancelling_within log x.tag x.start l.within c.if-field-eq-BOOKING.false

pub slice_bounds-result-count-2 : goal.slice_bounds-result-count-2
slice_bounds-result-count-2 c =
    let x = c.in-Ok.field in
    let l = is_line c.args.log.now 0 x.tag x.start x.length x.next (sym c.in-Ok.ensures.0) in
    omega (arith, l.within, l.ends)

pub slice_bounds-result-start-2 : goal.slice_bounds-result-start-2
slice_bounds-result-start-2 c =
    let x = c.in-Ok.field in
    let l = is_line c.args.log.now 0 x.tag x.start x.length x.next (sym c.in-Ok.ensures.0) in
    omega (arith, l.within, l.ends)

pub returns-in_default : goal.returns-in_default
returns-in_default c = none_first c.args.log.now (sym c.in_default.ensures.0)

pub returns : goal.returns
returns c =
    let x = c.in-Ok.field in
    cancelling_first c.args.log.now x.tag x.start x.length x.next (sym c.in-Ok.ensures.0) c.if-field-eq-BOOKING.false
    c.cancelling_at-line.result c.cancelling_at-line.ensures
