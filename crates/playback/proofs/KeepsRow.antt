-- Whether a row keeps the segment of a line, by what is read of it.
use Rattle.std.specs.Prelude.{◌≡◌, Bool, true, false, ◌&&◌, ℕ, ◌<◌, ◌≢◌, List, length, eqb}
use Rattle.std.proofs.Common.{sym, ap, ◌∙◌, eq-eqb, ne_eqb}
use Rattle.clerk_log.specs.declared.BookingLine.{BookingLine}
use Rattle.playback.specs.declared.LedgerRow.{LedgerRow}
use Rattle.playback.specs.Ledger.{ledger_row, same_segment}
use Rattle.playback.specs.LedgerLaws.{owner_at_lem}
use Rattle.playback.specs.Steps.{keeps_at}
use Rattle.playback.proofs.Read.{row_read, read_is}

module _ (ledger : List LedgerRow) (line : BookingLine) (i : ℕ) (h : i < length ledger) where
  keeps_read : keeps_at ledger line i
      ≡ (eqb (row_read ledger i).house line.house && same_segment line (row_read ledger i))
  keeps_read =
      ap (λ (owner : ℕ). eqb owner line.house && same_segment line (ledger_row ledger i)) (owner_at_lem ledger i)
      ∙ ap (λ (row : LedgerRow). eqb row.house line.house && same_segment line row) (sym (read_is ledger i h))

  pub same_house : (b : Bool) → (row_read ledger i).house ≡ line.house → same_segment line (row_read ledger i) ≡ b
      → keeps_at ledger line i ≡ b
  same_house b e f = keeps_read ∙ rw (eq-eqb (row_read ledger i).house line.house e) f

  pub other_house_lem : (row_read ledger i).house ≢ line.house → keeps_at ledger line i ≡ false
  other_house_lem ne = keeps_read ∙ rw (ne_eqb (row_read ledger i).house line.house ne)
