-- Runs of calls that change a deal and its table: bookings and cancellations by either house in turn, whatever their
-- codes (document 02, request (x)).
use Rattle.std.specs.Prelude.{◌≡◌, ◌≢◌, ℕ, List, [], ◌∷◌}
use Rattle.lent.specs.LentDeal.{LentDeal, lent_deal}
use Rattle.room.specs.declared.Booked.{Booked}
use Rattle.booking.specs.Booking.{book_answer, booked_deal, booked_table}
use Rattle.cancel.specs.Cancel.{cancelled_deal, cancelled_table}

-- a call: a house books a segment, or cancels the entry at a place
pub data Call : Type 0 where
  book_segment : ℕ → List ℕ → Call
  cancel_place : ℕ → ℕ → Call

-- a deal and the table beside it
pub record DealAndTable : Type 0 where
  pub deal : List ℕ
  pub table : List ℕ

-- the answer of booking a segment there for a house, by the plain form
abbrev pub answer_in : DealAndTable → ℕ → List ℕ → Booked
answer_in now house segment = book_answer (lent_deal now.deal) now.table house segment

-- the deal and the table after a call, with a tree beside the deal or without one
abbrev pub deal_after_call : Call → LentDeal → List ℕ → List ℕ
deal_after_call (book_segment house segment) deal table = booked_deal deal table house segment
deal_after_call (cancel_place house place) deal table = cancelled_deal deal table house place

abbrev pub table_after_call : Call → LentDeal → List ℕ → List ℕ
table_after_call (book_segment house segment) deal table = booked_table deal table house segment
table_after_call (cancel_place house place) deal table = cancelled_table deal table house place

-- both after a call by the plain form ..
abbrev pub after_plain_call : Call → DealAndTable → DealAndTable
after_plain_call call was =
    record {
      deal = deal_after_call call (lent_deal was.deal) was.table;
      table = table_after_call call (lent_deal was.deal) was.table;
    }

-- .. and after such calls in turn
unfoldable pub run_calls : DealAndTable → List Call → DealAndTable
run_calls was [] = was
run_calls was (call ∷ later) = run_calls (after_plain_call call was) later

-- a call does not cancel an entry place for a house. All bookings are let in, and so are the other house's
-- cancellations of that place: where an entry of the house stands they get 16 (Cancelling.others_entries_get_16)
abbrev pub DoesNotCancel : ℕ → ℕ → Call → Type 0
DoesNotCancel house place (book_segment by segment) = Unit {0}
DoesNotCancel house place (cancel_place by other) = by ≡ house → other ≢ place

-- none of the calls of a run does
abbrev pub NoneCancels : ℕ → ℕ → List Call → Type 0
NoneCancels house place [] = Unit {0}
NoneCancels house place (call ∷ later) = DoesNotCancel house place call × NoneCancels house place later
