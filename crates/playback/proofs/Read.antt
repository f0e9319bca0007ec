-- A row as the code reads it.
use mathlib.Core.Path.{◌≡◌, refl}
use Prim.Native.Nat.{ℕ, zero, suc, ◌<◌}
use native.Mathlib.Omega.{arith}
use mathlib.Core.List.{List, [], ◌∷◌}
use lib.ListN.{length, get_or}
use Rattle.playback.specs.declared.LedgerRow.{LedgerRow}
use Rattle.playback.specs.Ledger.{ledger_row}

-- what a reading past the end would give
abbrev past : LedgerRow
past = record { house = 0; commitment = []; size = 0; offset = 0; place = 0 }

-- the row at an index
abbrev pub row_read : List LedgerRow → ℕ → LedgerRow
row_read ledger i = get_or ledger i past

-- within the ledger it is the ledger's row
pub read_is : (ledger : List LedgerRow) (i : ℕ) → i < length ledger → row_read ledger i ≡ ledger_row ledger i
read_is [] i h = absurd (omega arith)
read_is (row ∷ later) zero h = refl
read_is (row ∷ later) (suc i) h = read_is later i (omega arith)
