use Rattle.std.specs.Prelude.{◌≡◌, ◌<◌, length, replicate}
use Rattle.std.proofs.Common.{rules, sym, ap, ◌∙◌, arith}
use Rattle.std.proofs.lemmas.List.{length-replicate}
use Rattle.room.specs.Room.{range}
use Rattle.playback.specs.Ledger.{vacant, ledger_range}
use Rattle.playback.proofs.Read.{read_is}
use Rattle.playback.proofs.Mapped.{mapped_start, mapped_next, mapped_all}
use Rattle.playback.proofs.ledger.Ledger.ranges.Goals as goal

pub loop-i-init : goal.loop-i-init
loop-i-init c =
    let rows = c.args.self.now.rows in
    let all : length rows ≡ 128 = search rules in
    mapped_start ledger_range rows vacant (replicate 128 (range 0 0)) (length-replicate 128 (range 0 0) ∙ sym all)

pub loop-i-preserved : goal.loop-i-preserved
loop-i-preserved c =
    let rows = c.args.self.now.rows in
    let l = c.loop-i in
    let all : length rows ≡ 128 = search rules in
    let inside : l.i < length rows = omega (arith, all, c.loop-i-test.true) in
    mapped_next ledger_range rows vacant l.i l.ranges c.range.result inside
    (c.range.ensures ∙ ap ledger_range (read_is rows l.i inside)) l.invariant

pub returns : goal.returns
returns c =
    let rows = c.args.self.now.rows in
    let l = c.loop-i in
    let all : length rows ≡ 128 = search rules in
    mapped_all ledger_range rows vacant l.i l.ranges (omega (arith, all, c.loop-i-test.false)) l.invariant
