use Rattle.std.specs.Prelude.{◌≡◌, ℕ, ◌≤◌, ◌<◌}
use Rattle.std.proofs.Common.{sym, ap, ◌∙◌, arith}
use Rattle.room.specs.RoomLaws.{slots_high}
use Rattle.playback.specs.Ledger.{ledger_row}
use Rattle.playback.specs.Playback.{rows_from, with_rows}
use Rattle.playback.proofs.Read.{row_read, read_is}
use Rattle.playback.proofs.Gathered.{gather_none, gather_one, gathered}
use Rattle.playback.proofs.ledger.Ledger.standing.Goals as goal
use Rattle.playback.proofs.ledger.Ledger.standing.Goals.{then-not-is_vacant, else-not-is_vacant}

pub offset_bounds-self-i : goal.offset_bounds-self-i
offset_bounds-self-i c =
    omega (arith, slots_high c.args.self.now.size c.args.self.now.size_allowed, c.slots-i-end.ensures, c.loop-i-test.true)

pub bounds-self-i : goal.bounds-self-i
bounds-self-i c =
    omega (arith, slots_high c.args.self.now.size c.args.self.now.size_allowed, c.slots-i-end.ensures, c.loop-i-test.true)

pub loop-i-preserved : goal.loop-i-preserved
loop-i-preserved c =
    let ledger = c.args.self.now.rows in
    let slots = c.slots-i-end.result in
    let i = c.loop-i.i in
    let k = c.loop-i.count in
    let high = slots_high c.args.self.now.size c.args.self.now.size_allowed in
    let few : k ≤ i = c.loop-i.invariant.0 in
    let row = row_read ledger i in
    let inside : i < slots = c.loop-i-test.true in
    let below : k < 128 = omega (arith, high, c.slots-i-end.ensures, few, inside) in
    let at : row ≡ ledger_row ledger i =
    read_is ledger i (omega (arith, high, c.slots-i-end.ensures, inside)) in
    elim c.if-not-is_vacant.branch [
      | then-not-is_vacant w ↦ (
        omega (arith, w.count-is, few),
        rw (w.count-is, w.rows-is)
            (gather_one ledger slots i k c.loop-i.rows inside c.loop-i.invariant.1 row at below
            (sym c.is_vacant.ensures ∙ w.if-not-is_vacant.true)),
      )
      | else-not-is_vacant w ↦ (
        omega (arith, w.count-is, few),
        rw (w.count-is, w.rows-is)
            (gather_none ledger slots i k c.loop-i.rows inside c.loop-i.invariant.1 row at
            (sym c.is_vacant.ensures ∙ w.if-not-is_vacant.false)),
      )
    ]

pub returns : goal.returns
returns c =
    gathered c.args.self.now.rows c.slots-i-end.result c.loop-i.i c.loop-i.count c.loop-i.rows
    (omega (arith, c.loop-i-test.false)) c.loop-i.invariant.1
    ∙ ap (λ (slots : ℕ). with_rows (rows_from c.args.self.now.rows 0 slots)) c.slots-i-end.ensures
