-- What the code keeps of a ledger, and looks for in it.
use Rattle.std.specs.Prelude.{◌≡◌, Bool, true, ◌&&◌, ℕ, List}
use Rattle.sizes.specs.Sizes.{lent_size_allowed, entry_count, index_start}
use Rattle.room.specs.Room.{EndBy}
use Rattle.houses.specs.Houses.{owned}
use Rattle.clerk_log.specs.declared.BookingLine.{BookingLine}
use Rattle.playback.specs.declared.LedgerRow.{LedgerRow}
use Rattle.playback.specs.Ledger.{ledger_row, ledger_ranges, ledger_owners, same_segment}

-- a ledger for a deal of d bytes, whose segments end by the index start
pub record Fits (d : ℕ) (ledger : List LedgerRow) : Type 0 where
  pub size_allowed : lent_size_allowed d ≡ true
  pub ends : EndBy (index_start d) (entry_count d) (ledger_ranges ledger)

-- a row that is of a line's house, and for its segment
abbrev pub keeps_at : List LedgerRow → BookingLine → ℕ → Bool
keeps_at ledger line i = owned (ledger_owners ledger) line.house i && same_segment line (ledger_row ledger i)
