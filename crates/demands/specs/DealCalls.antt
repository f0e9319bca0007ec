-- Runs of all calls that change a deal and its table: "any run of bookings, cancellations and collections .., the deal
-- and the house table changed by these calls alone (after a collection answered 0 the second ones take their place)"
-- (document 02, request (xiii)), whatever their codes, by the plain forms and with a tree in hand, whatever that holds.
-- Runs of bookings and cancellations by the plain forms alone: Calls.
use Rattle.std.specs.Prelude.{◌≡◌, ◌⊎◌, ℕ, List, [], ◌∷◌, replicate}
use Rattle.rules.specs.Refusals.{unless_refused}
use Rattle.tree.specs.TreeNodes.{FilledFor}
use Rattle.lent.specs.LentDeal.{LentDeal, lent_deal, tree_deal}
use Rattle.collect.specs.Collect.{collect_code, second_deal, second_owners}
use Rattle.demands.specs.Calls.{Call, book_segment, cancel_place, DealAndTable, deal_after_call, table_after_call}

-- what is lent beside a deal: no tree, or a buffer for one, with whatever it holds
pub data TreeLent : Type 0 where
  no_tree : TreeLent
  tree_in : List ℕ → TreeLent

-- a deal with that beside it
abbrev pub lent_beside : TreeLent → List ℕ → LentDeal
lent_beside no_tree deal = lent_deal deal
lent_beside (tree_in buffer) deal = tree_deal deal buffer

-- "any tree buffer as (vii) asks": it holds the nodes of the deal as it then is (TreeHistoryLaws.history_filled and
-- collection_starts_a_history)
abbrev pub TreeAsAsked : TreeLent → List ℕ → Type 0
TreeAsAsked no_tree deal = Unit {0}
TreeAsAsked (tree_in buffer) deal = FilledFor deal buffer

-- a call: a booking or a cancellation, lent a tree beside the deal or none; or a collection into a second deal and a
-- second table, lent a tree beside that deal or none
pub data DealCall : Type 0 where
  on_deal : Call → TreeLent → DealCall
  collect_into : DealAndTable → TreeLent → DealCall

-- a segment is one of a booking among the calls, whatever that was answered
abbrev pub BooksIt : DealCall → List ℕ → Type 0
BooksIt (on_deal (book_segment house other) tree) segment = segment ≡ other
BooksIt (on_deal (cancel_place house place) tree) segment = ⊥
BooksIt (collect_into second tree) segment = ⊥

abbrev pub BookedIn : List DealCall → List ℕ → Type 0
BookedIn [] segment = ⊥
BookedIn (call ∷ later) segment = BooksIt call segment ⊎ BookedIn later segment

-- the code of a collection, and what the second deal and the second table are after it
abbrev pub collecting_code : DealAndTable → TreeLent → DealAndTable → ℕ
collecting_code second tree was =
    collect_code was.deal was.table (lent_beside tree second.deal) second.table

abbrev pub second_ones : DealAndTable → TreeLent → DealAndTable → DealAndTable
second_ones second tree was =
    record {
      deal = second_deal was.deal was.table (lent_beside tree second.deal) second.table;
      table = second_owners was.deal was.table (lent_beside tree second.deal) second.table;
    }

-- the deal and the table after a call: those that a booking or a cancellation leaves; "after a collection answered 0
-- the second ones take their place", and after one answered otherwise they are as they were
abbrev pub after_deal_call : DealCall → DealAndTable → DealAndTable
after_deal_call (on_deal call tree) was =
    record {
      deal = deal_after_call call (lent_beside tree was.deal) was.table;
      table = table_after_call call (lent_beside tree was.deal) was.table;
    }
after_deal_call (collect_into second tree) was =
    unless_refused (collecting_code second tree was) (λ (code : ℕ). was) (second_ones second tree was)

-- and after such calls in turn
unfoldable pub run_deal_calls : DealAndTable → List DealCall → DealAndTable
run_deal_calls was [] = was
run_deal_calls was (call ∷ later) = run_deal_calls (after_deal_call call was) later

-- an all-zero deal of d bytes, with whatever table
abbrev pub all_zero_deal : ℕ → List ℕ → DealAndTable
all_zero_deal d table = record { deal = replicate d 0; table = table }
