-- A call of a day that is lent a tree: it gets the line of the plain form, and leaves the same deal and table (document
-- 02, request (xii): "any tree buffer as (vii) asks").
use Rattle.std.specs.Prelude.{◌≡◌, refl, ℕ, List, [], ◌∷◌}
use Rattle.std.proofs.Common.{ap, ap₂}
use Rattle.rules.specs.Choice.{choose}
use Rattle.lent.specs.LentDeal.{lent_deal}
use Rattle.room.specs.declared.Booked.{Booked}
use Rattle.clerk_log.specs.Log.{booking_logged, cancelling_logged}
use Rattle.demands.specs.Calls.{Call, book_segment, cancel_place, DealAndTable, after_plain_call}
use Rattle.demands.specs.DealCalls.{TreeLent, no_tree, tree_in, on_deal, after_deal_call}
use Rattle.demands.specs.Day.{booking_line, cancelling_line, logged_call, call_lines, OfADay}
use Rattle.demands.proofs.TreeForms.{same_booking, same_booked_deal, same_booked_table}
use Rattle.demands.proofs.TreeForms.{same_cancelling, same_cancelled_deal, same_cancelled_table}

-- the line that it gets, ..
pub plain_lines : (call : Call) (tree : TreeLent) (was : DealAndTable) → OfADay (on_deal call tree) was
    → call_lines (on_deal call tree) was ≡ logged_call call (lent_deal was.deal) was.table
plain_lines call no_tree was f = refl
plain_lines (book_segment house segment) (tree_in buffer) was f =
    ap
    (λ (answer : Booked).
    choose (booking_logged answer.code) (booking_line house segment answer ∷ []) [])
    (same_booking was.deal buffer f was.table house segment)
plain_lines (cancel_place house place) (tree_in buffer) was f =
    ap (λ (code : ℕ). choose (cancelling_logged code) (cancelling_line house place code ∷ []) [])
    (same_cancelling was.deal buffer f was.table house place)

-- .. and the deal and the table that it leaves
pub plain_after : (call : Call) (tree : TreeLent) (was : DealAndTable) → OfADay (on_deal call tree) was
    → after_deal_call (on_deal call tree) was ≡ after_plain_call call was
plain_after call no_tree was f = refl
plain_after (book_segment house segment) (tree_in buffer) was f =
    ap₂ (λ (x y : List ℕ). record { deal = x; table = y })
    (same_booked_deal was.deal buffer f was.table house segment)
    (same_booked_table was.deal buffer f was.table house segment)
plain_after (cancel_place house place) (tree_in buffer) was f =
    ap₂ (λ (x y : List ℕ). record { deal = x; table = y })
    (same_cancelled_deal was.deal buffer f was.table house place)
    (same_cancelled_table was.deal buffer f was.table house place)
