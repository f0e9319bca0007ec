-- Request (x), what a house notices of the other's segments (document 02): "Codes 13 and 14 and the places given do
-- depend on the other's sizes and places. But where no standing area overlaps another and any tree buffer is as (vii)
-- asks, change only the bytes and commitments of the other's segments, same slots standing with the same sizes and
-- offsets and no stray bits: a house's booking and cancelling give the same code, offset and place." The premises are
-- `NoneOverlap` and `OthersChanged`, with trees `FilledFor` of each deal; the sizes need not be allowed (2 for both).
use Rattle.std.specs.Prelude.{◌≡◌, ◌≢◌, ℕ, List, length}
use Rattle.std.proofs.Common.{sym, ◌∙◌}
use Rattle.tree.specs.TreeNodes.{FilledFor}
use Rattle.lent.specs.LentDeal.{lent_deal, tree_deal}
use Rattle.booking.specs.Booking.{book_answer, booked_deal, booked_table}
use Rattle.cancel.specs.Cancel.{cancel_code, cancelled_table}
use Rattle.demands.proofs.TreeForms as T
use Rattle.demands.specs.NoneOverlap.{NoneOverlap}
use Rattle.demands.specs.OthersChanged.{OthersChanged}
use Rattle.demands.proofs.IsolationLaws as I
use Rattle.demands.proofs.OthersBookedLaws as B

module _ (table : List ℕ) (house : ℕ) (deal other : List ℕ) (apart : NoneOverlap deal)
    (changed : OthersChanged table house deal other) where
  -- Booking, of every segment: the same code, offset and place; and the same table afterwards.
  pub isolated_booking : (segment : List ℕ)
      → book_answer (lent_deal other) table house segment ≡ book_answer (lent_deal deal) table house segment
  isolated_booking = I.same_answer_lem apart changed

  pub isolated_booked_table : (segment : List ℕ)
      → booked_table (lent_deal other) table house segment ≡ booked_table (lent_deal deal) table house segment
  isolated_booked_table = I.same_booked_table apart changed

  -- Cancelling, of every place: the same code, and the same table afterwards.
  pub isolated_cancelling : (place : ℕ)
      → cancel_code (lent_deal other) table house place ≡ cancel_code (lent_deal deal) table house place
  isolated_cancelling = I.same_cancel apart changed

  pub isolated_cancelled_table : (place : ℕ)
      → cancelled_table (lent_deal other) table house place ≡ cancelled_table (lent_deal deal) table house place
  isolated_cancelled_table = I.same_cancelled_table apart changed

  -- The same with a tree beside each deal that holds the nodes of that deal.
  module _ (tree other_tree : List ℕ) (f : FilledFor deal tree) (g : FilledFor other other_tree) where
    pub isolated_booking_with_tree : (segment : List ℕ)
        → book_answer (tree_deal other other_tree) table house segment
        ≡ book_answer (tree_deal deal tree) table house segment
    isolated_booking_with_tree segment =
        T.same_booking other other_tree g table house segment
        ∙ isolated_booking segment
        ∙ sym (T.same_booking deal tree f table house segment)

    pub isolated_booked_table_with_tree : (segment : List ℕ)
        → booked_table (tree_deal other other_tree) table house segment
        ≡ booked_table (tree_deal deal tree) table house segment
    isolated_booked_table_with_tree segment =
        T.same_booked_table other other_tree g table house segment
        ∙ isolated_booked_table segment
        ∙ sym (T.same_booked_table deal tree f table house segment)

    pub isolated_cancelling_with_tree : (place : ℕ)
        → cancel_code (tree_deal other other_tree) table house place
        ≡ cancel_code (tree_deal deal tree) table house place
    isolated_cancelling_with_tree place =
        T.same_cancelling other other_tree g table house place
        ∙ isolated_cancelling place
        ∙ sym (T.same_cancelling deal tree f table house place)

    pub isolated_cancelled_table_with_tree : (place : ℕ)
        → cancelled_table (tree_deal other other_tree) table house place
        ≡ cancelled_table (tree_deal deal tree) table house place
    isolated_cancelled_table_with_tree place =
        T.same_cancelled_table other other_tree g table house place
        ∙ isolated_cancelled_table place
        ∙ sym (T.same_cancelled_table deal tree f table house place)

-- Deals are so related where another house booked the one or the other of two segments of one size, with 0 both, in one
-- deal: it gets the same slot, offset and table; and where no areas overlapped before, none overlap then. So which of
-- the two it was, a house cannot tell by booking and cancelling.
module _ (deal table : List ℕ) (house other : ℕ) (ne : other ≢ house) (one two : List ℕ)
    (sizes : length two ≡ length one) (a : (book_answer (lent_deal deal) table other one).code ≡ 0)
    (b : (book_answer (lent_deal deal) table other two).code ≡ 0) where
  pub others_bookings :
      (booked_table (lent_deal deal) table other two ≡ booked_table (lent_deal deal) table other one)
      × OthersChanged (booked_table (lent_deal deal) table other one) house
      (booked_deal (lent_deal deal) table other one)
      (booked_deal (lent_deal deal) table other two)
  others_bookings = (
    B.booked_tables deal table house other ne one two sizes a b,
    B.booked_changed deal table house other ne one two sizes a b,
  )

  module _ (apart : NoneOverlap deal) where
    abbrev owners : List ℕ
    owners = booked_table (lent_deal deal) table other one

    still_apart : NoneOverlap (booked_deal (lent_deal deal) table other one)
    still_apart = B.booked_apart deal table house other ne one two sizes a b apart

    pub not_told_by_booking : (segment : List ℕ)
        → book_answer (lent_deal (booked_deal (lent_deal deal) table other two)) owners house segment
        ≡ book_answer (lent_deal (booked_deal (lent_deal deal) table other one)) owners house segment
    not_told_by_booking = isolated_booking owners house _ _ still_apart others_bookings.1

    pub not_told_by_cancelling : (place : ℕ)
        → cancel_code (lent_deal (booked_deal (lent_deal deal) table other two)) owners house place
        ≡ cancel_code (lent_deal (booked_deal (lent_deal deal) table other one)) owners house place
    not_told_by_cancelling = isolated_cancelling owners house _ _ still_apart others_bookings.1
