use Rattle.std.specs.Prelude.{◌≡◌, true, false, ◌<◌, length}
use Rattle.std.proofs.Common.{sym, ap, ◌∙◌, arith}
use Rattle.rules.specs.Search.{lowest}
use Rattle.rules.specs.SearchLaws.{lowest_start, found_here, found_later, found_nowhere}
use Rattle.room.specs.RoomLaws.{slots_high}
use Rattle.playback.specs.Steps.{keeps_at}
use Rattle.playback.proofs.KeepsRow.{same_house, other_house_lem}
use Rattle.playback.proofs.ledger.Ledger.keeping.Goals as goal
use Rattle.playback.proofs.ledger.Ledger.keeping.Goals.{else-row-line-via-then-row-line+else-is_for, else-row-line-via-else-row-line}

pub offset_bounds-self-i : goal.offset_bounds-self-i
offset_bounds-self-i c =
    omega (arith, slots_high c.args.self.now.size c.args.self.now.size_allowed, c.slots-i-end.ensures, c.loop-i-test.true)

pub bounds-self-i : goal.bounds-self-i
bounds-self-i c =
    omega (arith, slots_high c.args.self.now.size c.args.self.now.size_allowed, c.slots-i-end.ensures, c.loop-i-test.true)

pub returns-then-is_for : goal.returns-then-is_for
returns-then-is_for c =
    let rows = c.args.self.now.rows in
    let line = c.args.line.now in
    let i = c.loop-i.i in
    let slots = c.slots-i-end.result in
    let high = slots_high c.args.self.now.size c.args.self.now.size_allowed in
    let inside : i < length rows = omega (arith, high, c.slots-i-end.ensures, c.loop-i-test.true) in
    found_here (keeps_at rows line) slots i c.loop-i.invariant c.loop-i-test.true
    (same_house rows line i inside true c.if-row-line.true (sym c.is_for.ensures ∙ c.if-is_for.true))
    ∙ ap (lowest (keeps_at rows line) 0) c.slots-i-end.ensures

pub loop-i-preserved : goal.loop-i-preserved
loop-i-preserved c =
    let rows = c.args.self.now.rows in
    let line = c.args.line.now in
    let i = c.loop-i.i in
    let slots = c.slots-i-end.result in
    let high = slots_high c.args.self.now.size c.args.self.now.size_allowed in
    let inside : i < length rows = omega (arith, high, c.slots-i-end.ensures, c.loop-i-test.true) in
    found_later (keeps_at rows line) slots i c.loop-i.invariant c.loop-i-test.true
    (elim c.else-row-line.branch [
      | else-row-line-via-then-row-line+else-is_for w ↦
          same_house rows line i inside false w.if-row-line.true (sym w.is_for.ensures ∙ w.if-is_for.false)
      | else-row-line-via-else-row-line w ↦ other_house_lem rows line i inside w.if-row-line.false
    ])
