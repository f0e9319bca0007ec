-- The premise of request (vii) as document 02 tells it, a history: "the buffer was filled for this deal, and since then
-- only these routines, each with it in hand, changed either". TreeHistoryLaws.history_filled: then the buffer holds the
-- inner nodes of the deal as it is now (`FilledFor`, the premise as a state, which the theorems on the tree forms
-- take). It speaks of deal and buffer alone: what table a call was lent, and who changed that in between, is left open.
use Rattle.std.specs.Prelude.{◌≡◌, ℕ, List, [], ◌∷◌}
use Rattle.lent.specs.LentDeal.{tree_deal, deal_refusal}
use Rattle.lent.specs.FilledTree.{filled_tree}
use Rattle.room.specs.declared.Booked.{Booked}
use Rattle.booking.specs.Booking.{book_answer}
use Rattle.booking.specs.BookedTree.{booked_tree}
use Rattle.cancel.specs.Cancel.{cancelled_tree}
use Rattle.demands.specs.Calls.{Call, book_segment, cancel_place, DealAndTable, deal_after_call, table_after_call}

-- a deal, the tree and the table beside it
pub record DealTreeTable : Type 0 where
  pub deal : List ℕ
  pub tree : List ℕ
  pub table : List ℕ

-- the deal and the table of it
abbrev pub plain_of : DealTreeTable → DealAndTable
plain_of now = record { deal = now.deal; table = now.table }

-- the answer of booking a segment there for a house, with the tree in hand
abbrev pub answer_with : DealTreeTable → ℕ → List ℕ → Booked
answer_with now house segment = book_answer (tree_deal now.deal now.tree) now.table house segment

-- a call of a routine that changes deal or tree, with the tree in hand: filling, booking a segment, or cancelling a
-- place. Building and settling change neither. Collection writes a second deal: with a tree beside that one and with
-- code 0 it starts a history of both (TreeHistoryLaws.collection_starts_a_history)
pub data TreeCall : Type 0 where
  fill_tree : TreeCall
  with_tree : Call → TreeCall

-- the tree after a call that changes the deal, with the tree in hand
abbrev pub tree_after_call : Call → List ℕ → List ℕ → List ℕ → List ℕ
tree_after_call (book_segment house segment) deal tree table = booked_tree deal tree table house segment
tree_after_call (cancel_place house place) deal tree table = cancelled_tree deal tree table house place

-- deal, tree and table after a call, whatever its code
abbrev pub after_call : TreeCall → DealTreeTable → DealTreeTable
after_call fill_tree was =
    record { deal = was.deal; tree = filled_tree was.deal was.tree; table = was.table }
after_call (with_tree call) was =
    record {
      deal = deal_after_call call (tree_deal was.deal was.tree) was.table;
      tree = tree_after_call call was.deal was.tree was.table;
      table = table_after_call call (tree_deal was.deal was.tree) was.table;
    }

-- and after calls in turn, the table handed on from each to the next
unfoldable pub after_calls : List TreeCall → DealTreeTable → DealTreeTable
after_calls [] was = was
after_calls (call ∷ later) was = after_calls later (after_call call was)

-- the same calls by the plain forms, in turn: filling changes neither deal nor table
abbrev pub plain_calls : List TreeCall → List Call
plain_calls [] = []
plain_calls (fill_tree ∷ later) = plain_calls later
plain_calls (with_tree call ∷ later) = call ∷ plain_calls later

-- one step of a history: a call, and the table that it was lent
pub record Step : Type 0 where
  pub table : List ℕ
  pub call : TreeCall

-- a deal and the tree beside it
pub record DealAndTree : Type 0 where
  pub deal : List ℕ
  pub tree : List ℕ

abbrev pub lent_table : DealAndTree → List ℕ → DealTreeTable
lent_table was table = record { deal = was.deal; tree = was.tree; table = table }

abbrev pub without_table : DealTreeTable → DealAndTree
without_table now = record { deal = now.deal; tree = now.tree }

abbrev pub after_step : Step → DealAndTree → DealAndTree
after_step step was = without_table (after_call step.call (lent_table was step.table))

unfoldable pub after_steps : List Step → DealAndTree → DealAndTree
after_steps [] was = was
after_steps (step ∷ later) was = after_steps later (after_step step was)

-- a buffer, whatever it held, was filled for the deal as it then was, with code 0; calls with it in hand, refused ones
-- too, led to the deal and the tree of now
pub record TreeHistory (deal tree : List ℕ) : Type 0 where
  pub start : List ℕ
  pub buffer : List ℕ
  pub filling_answers_0 : deal_refusal (tree_deal start buffer) ≡ 0
  pub steps : List Step
  pub leads_here :
      after_steps steps (record { deal = start; tree = filled_tree start buffer }) ≡ record { deal = deal; tree = tree }
