-- A ledger that mirrors a deal and its table: slot by slot its row is that of the standing entry with its owner, and
-- vacant where none stands (document 02, request (xii): "its rows are the standing entries").
use Rattle.std.specs.Prelude.{◌≡◌, ℕ, ◌<◌, List, length}
use Rattle.rules.specs.Choice.{choose}
use Rattle.sizes.specs.Sizes.{entry_count}
use Rattle.index.specs.Slots.{slot_at, standing}
use Rattle.playback.specs.declared.LedgerRow.{LedgerRow}
use Rattle.playback.specs.Ledger.{vacant, ledger_row}
use Rattle.demands.specs.Calls.{DealAndTable}
use Rattle.demands.specs.Day.{entry_row}

-- the row for slot i
abbrev pub slot_row : DealAndTable → ℕ → LedgerRow
slot_row now i = choose (standing (length now.deal) (slot_at now.deal i)) (entry_row now i) vacant

pub record Mirrors (ledger : List LedgerRow) (now : DealAndTable) : Type 0 where
  pub all_rows : length ledger ≡ 128
  pub row_is : (i : ℕ) → i < entry_count (length now.deal) → ledger_row ledger i ≡ slot_row now i
