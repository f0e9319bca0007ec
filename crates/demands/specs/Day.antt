-- A day's calls, and the log of them (document 02, request (xii)): "a log from an all-zero deal of that D, with a line
-- for every call so answered, in order, these calls alone changing the deal and the house table, any tree buffer as
-- (vii) asks, and no two different segments sharing commitment and size". "Collection ends a log."
use Rattle.std.specs.Prelude.{◌≡◌, ℕ, zero, suc, List, [], ◌∷◌, ◌++◌, length}
use Rattle.rules.specs.Choice.{choose}
use Rattle.sizes.specs.Sizes.{entry_count, slot_place}
use Rattle.entries.specs.Entry.{commitment_in, offset_in, size_in}
use Rattle.lent.specs.LentDeal.{LentDeal}
use Rattle.index.specs.Slots.{slot_at, standing}
use Rattle.room.specs.declared.Booked.{Booked}
use Rattle.houses.specs.Houses.{owner_at}
use Rattle.booking.specs.Write.{segment_commitment}
use Rattle.booking.specs.Booking.{book_answer}
use Rattle.cancel.specs.Cancel.{cancel_code}
use Rattle.clerk_log.specs.Log.{booking_logged, cancelling_logged}
use Rattle.clerk_log.specs.declared.Line.{Line}
use Rattle.clerk_log.specs.declared.Line.TheVariants.{Booking as booking, Cancelling as cancelling}
use Rattle.playback.specs.declared.LedgerRow.{LedgerRow}
use Rattle.demands.specs.Calls.{Call, book_segment, cancel_place, DealAndTable}
use Rattle.demands.specs.DealCalls.{lent_beside, TreeAsAsked, DealCall, on_deal, collect_into, BookedIn}
use Rattle.demands.specs.DealCalls.{after_deal_call}

-- the line for a booking of a segment and its answer, and that for a cancellation and its code
abbrev pub booking_line : ℕ → List ℕ → Booked → Line
booking_line house segment answer =
    booking (record {
      house = house;
      commitment = segment_commitment segment;
      size = length segment;
      answer = answer;
    })

abbrev pub cancelling_line : ℕ → ℕ → ℕ → Line
cancelling_line house place code = cancelling (record { house = house; place = place; code = code })

-- the line that a call gets, "for bookings answered 0, 13, 14, 15 or 22" and "for cancellations answered 0 or 16"; none
-- for any other answer
abbrev pub logged_call : Call → LentDeal → List ℕ → List Line
logged_call (book_segment house segment) deal table =
    let answer = book_answer deal table house segment in
    choose (booking_logged answer.code) (booking_line house segment answer ∷ []) []
logged_call (cancel_place house place) deal table =
    let code = cancel_code deal table house place in
    choose (cancelling_logged code) (cancelling_line house place code ∷ []) []

abbrev pub call_lines : DealCall → DealAndTable → List Line
call_lines (on_deal call tree) was = logged_call call (lent_beside tree was.deal) was.table
call_lines (collect_into second tree) was = []

-- a line names a call: its house, and the commitment and size of the segment or the place; what the line says was
-- answered is left open
abbrev pub Names : Call → Line → Type 0
Names (book_segment house segment) (booking line) =
    (line.house ≡ house) × (line.commitment ≡ segment_commitment segment) × (line.size ≡ length segment)
Names (book_segment house segment) (cancelling line) = ⊥
Names (cancel_place house place) (booking line) = ⊥
Names (cancel_place house place) (cancelling line) = (line.house ≡ house) × (line.place ≡ place)

-- the lines of calls in turn
unfoldable pub day_lines : DealAndTable → List DealCall → List Line
day_lines was [] = []
day_lines was (call ∷ later) = call_lines call was ++ day_lines (after_deal_call call was) later

-- a day's calls: bookings and cancellations; a tree that is lent is as (vii) asks
abbrev pub OfADay : DealCall → DealAndTable → Type 0
OfADay (on_deal call tree) was = TreeAsAsked tree was.deal
OfADay (collect_into second tree) was = ⊥

abbrev pub Day : DealAndTable → List DealCall → Type 0
Day was [] = Unit {0}
Day was (call ∷ later) = OfADay call was × Day (after_deal_call call was) later

-- "no two different segments sharing commitment and size"
abbrev pub NoTwoShare : List DealCall → Type 0
NoTwoShare calls =
    (s t : List ℕ) → BookedIn calls s → BookedIn calls t → segment_commitment s ≡ segment_commitment t
    → length s ≡ length t → s ≡ t

-- the standing entries of a deal and their owners, by rising place: those among the n slots from i on
abbrev pub entry_row : DealAndTable → ℕ → LedgerRow
entry_row now i =
    let entry = slot_at now.deal i in
    record {
      house = owner_at now.table i;
      commitment = commitment_in entry;
      size = size_in entry;
      offset = offset_in entry;
      place = slot_place (length now.deal) i;
    }

unfoldable pub standing_from : DealAndTable → ℕ → ℕ → List LedgerRow
standing_from now i zero = []
standing_from now i (suc n) =
    choose (standing (length now.deal) (slot_at now.deal i)) (entry_row now i ∷ standing_from now (suc i) n)
    (standing_from now (suc i) n)

abbrev pub standing_entries : DealAndTable → List LedgerRow
standing_entries now = standing_from now 0 (entry_count (length now.deal))
