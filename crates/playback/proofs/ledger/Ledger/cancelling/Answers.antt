use Rattle.std.specs.Prelude.{◌≡◌, length}
use Rattle.std.proofs.Common.{rules, sym, ◌∙◌, arith, eqb-true, eq-eqb, ne_eqb}
use Rattle.std.proofs.lemmas.Bool.{eqb-false}
use Rattle.sizes.specs.SizesLaws.{lent_size}
use Rattle.playback.proofs.Read.{row_read}
use Rattle.playback.proofs.CancelCode.{off_index, no_row, another_house, own_row}
use Rattle.playback.proofs.SlotRow.{slot_below, slot_row}
use Rattle.playback.proofs.ledger.Ledger.cancelling.Goals as goal
use Rattle.playback.proofs.ledger.Ledger.cancelling.Goals.{then-is_vacant-via-then-is_vacant, then-is_vacant-via-else-is_vacant+then-row-line}

pub place_allowed-requires : goal.place_allowed-requires
place_allowed-requires c = (lent_size c.args.self.now.size c.args.self.now.size_allowed).allowed

pub returns-then-not-place_allowed : goal.returns-then-not-place_allowed
returns-then-not-place_allowed c =
    off_index c.args.self.now.size c.args.self.now.rows c.args.line.now
    (sym c.place_allowed.ensures ∙ c.if-not-place_allowed.true)

pub bounds-self-slot_at : goal.bounds-self-slot_at
bounds-self-slot_at c =
    slot_below c.args.self.now.size c.args.line.now.place c.slot_at.result c.args.self.now.size_allowed
    (sym c.place_allowed.ensures ∙ c.if-not-place_allowed.false) c.slot_at.ensures

pub returns-then-is_vacant : goal.returns-then-is_vacant
returns-then-is_vacant c =
    let ledger = c.args.self.now in
    let line = c.args.line.now in
    let allowed = sym c.place_allowed.ensures ∙ c.if-not-place_allowed.false in
    let l : length ledger.rows ≡ 128 = search rules in
    let row = row_read ledger.rows c.slot_at.result in
    let at =
    slot_row ledger.size line.place c.slot_at.result ledger.size_allowed allowed c.slot_at.ensures ledger.rows l in
    elim c.then-is_vacant.branch [
      | then-is_vacant-via-then-is_vacant w ↦
          no_row ledger.size ledger.rows line allowed row at
          (eqb-true row.size 0 (sym c.is_vacant.ensures ∙ w.if-is_vacant.true))
      | then-is_vacant-via-else-is_vacant+then-row-line w ↦
          another_house ledger.size ledger.rows line allowed row at (ne_eqb row.house line.house w.if-row-line.true)
    ]

pub returns : goal.returns
returns c =
    let ledger = c.args.self.now in
    let line = c.args.line.now in
    let allowed = sym c.place_allowed.ensures ∙ c.if-not-place_allowed.false in
    let l : length ledger.rows ≡ 128 = search rules in
    let row = row_read ledger.rows c.slot_at.result in
    let at =
    slot_row ledger.size line.place c.slot_at.result ledger.size_allowed allowed c.slot_at.ensures ledger.rows l in
    own_row ledger.size ledger.rows line allowed row at
    (eqb-false row.size 0 (sym c.is_vacant.ensures ∙ c.if-is_vacant.false))
    (eq-eqb row.house line.house c.if-row-line.false)
