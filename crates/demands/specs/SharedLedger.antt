-- A ledger that is shared by the two houses alone, as a deal is (Shared), and lines that do not say 13.
use Rattle.std.specs.Prelude.{◌≡◌, true, false, ◌≢◌, ℕ, ◌*◌, ◌≤◌, ◌<◌, List, [], ◌∷◌, length}
use Rattle.sizes.specs.Sizes.{entry_count}
use Rattle.houses.specs.Houses.{house_allowed, held_count}
use Rattle.clerk_log.specs.declared.Line.{Line}
use Rattle.clerk_log.specs.declared.Line.TheVariants.{Booking as booking, Cancelling as cancelling}
use Rattle.playback.specs.declared.LedgerRow.{LedgerRow}
use Rattle.playback.specs.Ledger.{is_vacant, ledger_row, ledger_ranges, ledger_owners}

-- how many rows a house holds
abbrev pub held_by : ℕ → List LedgerRow → ℕ → ℕ
held_by d ledger house = held_count (ledger_ranges ledger) (ledger_owners ledger) house (entry_count d)

pub record SharedLedger (d : ℕ) (ledger : List LedgerRow) : Type 0 where
  pub all_rows : length ledger ≡ 128
  -- no row that holds something is nobody's
  pub all_owned : (i : ℕ) → i < entry_count d → is_vacant (ledger_row ledger i) ≡ false
      → house_allowed (ledger_row ledger i).house ≡ true
  -- and no house holds more than half the slots
  pub half_at_most : (house : ℕ) → 2 * held_by d ledger house ≤ entry_count d

-- a line, and every line of a log, says another code than 13
abbrev pub Not13 : Line → Type 0
Not13 (booking line) = line.answer.code ≢ 13
Not13 (cancelling line) = Unit {0}

abbrev pub None13 : List Line → Type 0
None13 [] = Unit {0}
None13 (line ∷ later) = Not13 line × None13 later
