use Rattle.std.specs.Prelude.{◌≡◌, refl, ◌<◌, length, take}
use Rattle.std.proofs.Common.{sym, ap, ◌∙◌, arith, take_all}
use Rattle.octets.specs.SpliceLaws.{splice_nothing, splice_whole}
use Rattle.playback.specs.declared.LedgerRow.{LedgerRow}
use Rattle.playback.specs.RowBytes.{rows_bytes}
use Rattle.playback.proofs.Read.{row_read, read_is}
use Rattle.playback.proofs.RowsWritten.{row_written}
use Rattle.playback.proofs.rows.put_rows.Goals as goal

pub loop-i-init : goal.loop-i-init
unfolding rows_bytes
loop-i-init c = record { sized = refl; is = sym (splice_nothing c.args.out.now 0) }

pub put_row-requires : goal.put_row-requires
put_row-requires c = omega (arith, c.requires, c.loop-i-test.true, c.loop-i.auto.out)

pub loop-i-preserved : goal.loop-i-preserved
loop-i-preserved c =
    let rows = c.args.rows.now in
    let inside : c.loop-i.i < length rows = omega (arith, c.loop-i-test.true) in
    let here = read_is rows c.loop-i.i inside in
    row_written c.args.out.now rows c.loop-i.i c.loop-i.out c.put_row.new.out (row_read rows c.loop-i.i) inside here
    c.put_row.ensures.sized (omega (arith, c.requires, c.loop-i-test.true)) c.loop-i.invariant c.put_row.ensures.written

pub returns : goal.returns
returns c =
    let rows = c.args.rows.now in
    let all : take c.loop-i.i rows ≡ rows =
    take_all c.loop-i.i rows (omega (arith, c.loop-i-test.false)) in
    let w = c.loop-i.invariant in
    w.is
    ∙ splice_whole c.args.out.now (rows_bytes (take c.loop-i.i rows)) (omega (arith, c.requires, w.sized, c.loop-i-test.false))
    ∙ ap rows_bytes all
