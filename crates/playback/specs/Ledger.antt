-- A ledger of rows, and what the rules give on it (document 02, request (xii)): "In the ledger any commitment is taken
-- as it is; 15 asks for a row of equal house, T and commitment." The decisions are those of booking and cancelling
-- (crates/houses, crates/room), over rows in place of a deal's entries.
use Rattle.std.specs.Prelude.{Bool, ◌&&◌, not, ℕ, List, map, get_or, set, replicate, eqb}
use Rattle.rules.specs.Choice.{choose}
use Rattle.rules.specs.Refusals.{first_refusal, unless_refused}
use Rattle.octets.specs.Equality.{same_bytes}
use Rattle.sizes.specs.Sizes.{area, slot_place}
use Rattle.index.specs.Written.{slot_of}
use Rattle.room.specs.Room.{range}
use Rattle.room.specs.declared.Range.{Range}
use Rattle.room.specs.Decide.{answer_to}
use Rattle.room.specs.declared.Booked.{Booked}
use Rattle.room.specs.Decide.{Decision}
use Rattle.room.specs.Decide.{Refuse, Already, Place}
use Rattle.houses.specs.Deciding.{decide_for, place_rules}
use Rattle.clerk_log.specs.declared.Line.{Line}
use Rattle.clerk_log.specs.declared.Line.TheVariants.{Booking as booking, Cancelling as cancelling}
use Rattle.clerk_log.specs.declared.BookingLine.{BookingLine}
use Rattle.clerk_log.specs.declared.CancellingLine.{CancellingLine}
use Rattle.playback.specs.declared.LedgerRow.{LedgerRow}

-- a row that holds nothing; a row of a segment has a size from 1 on
abbrev pub vacant : LedgerRow
vacant = record { house = 0; commitment = replicate 32 0; size = 0; offset = 0; place = 0 }

abbrev pub is_vacant : LedgerRow → Bool
is_vacant row = eqb row.size 0

-- one row a slot, for the most slots that a lent deal has; at first none holds anything
abbrev pub empty_ledger : List LedgerRow
empty_ledger = replicate 128 vacant

abbrev pub ledger_row : List LedgerRow → ℕ → LedgerRow
ledger_row ledger i = get_or ledger i vacant

-- the bytes that a row's segment takes up, and whose it is
abbrev pub ledger_range : LedgerRow → Range
ledger_range row = range row.offset (choose (is_vacant row) 0 (area row.size))

abbrev pub ledger_ranges : List LedgerRow → ℕ → Range
ledger_ranges ledger i = ledger_range (ledger_row ledger i)

abbrev pub ledger_owners : List LedgerRow → List ℕ
ledger_owners ledger = map (λ (row : LedgerRow). row.house) ledger

-- a row of equal T and commitment
abbrev pub same_segment : BookingLine → LedgerRow → Bool
same_segment line row = eqb row.size line.size && same_bytes row.commitment line.commitment

-- what is decided for a booking in a deal of d bytes, and answered
unfoldable pub ledger_decision : ℕ → List LedgerRow → BookingLine → Decision
ledger_decision d ledger line =
    decide_for d (ledger_ranges ledger) (ledger_owners ledger) line.house (area line.size)
    (λ i. same_segment line (ledger_row ledger i))

abbrev pub ledger_answer : ℕ → List LedgerRow → BookingLine → Booked
ledger_answer d ledger line = answer_to d (ledger_ranges ledger) (ledger_decision d ledger line)

-- the code for a cancellation
unfoldable pub ledger_cancel_code : ℕ → List LedgerRow → CancellingLine → ℕ
ledger_cancel_code d ledger line =
    first_refusal
    (place_rules d (ledger_owners ledger) line.house line.place
    (not (is_vacant (ledger_row ledger (slot_of d line.place)))))

-- the row for a booking with code 0
abbrev pub booked_row : ℕ → BookingLine → ℕ → ℕ → LedgerRow
booked_row d line i offset =
    record {
      house = line.house;
      commitment = line.commitment;
      size = line.size;
      offset = offset;
      place = slot_place d i;
    }

-- the ledger after a line
abbrev pub after_decision : ℕ → List LedgerRow → BookingLine → Decision → List LedgerRow
after_decision d ledger line (Refuse code) = ledger
after_decision d ledger line (Already i) = ledger
after_decision d ledger line (Place i offset) = set ledger i (booked_row d line i offset)

unfoldable pub ledger_after : ℕ → List LedgerRow → Line → List LedgerRow
ledger_after d ledger (booking line) = after_decision d ledger line (ledger_decision d ledger line)
ledger_after d ledger (cancelling line) =
    unless_refused (ledger_cancel_code d ledger line) (λ (code : ℕ). ledger) (set ledger (slot_of d line.place) vacant)
