-- What a house keeps stays kept over a run of calls in which the house does not cancel it (demand 2).
use Rattle.std.specs.Prelude.{◌≡◌, ℕ, ◌<◌, true, length}
use Rattle.std.proofs.Math.Path.{refl}
use Rattle.std.proofs.Common.{sym, ap, ◌∙◌, subst, arith}
use mathlib.Core.List.{List, [], ◌∷◌}
use Rattle.sizes.specs.Sizes.{entry_count, slot_place}
use Rattle.lent.specs.LentDeal.{LentDeal, lent_deal, deal_size}
use Rattle.room.specs.declared.Booked.{Booked}
use Rattle.booking.specs.Booking.{keeps_own}
use Rattle.booking.specs.BookableLaws.{BookableFor}
use Rattle.booking.proofs.BookedLaws.{booked_length}
use Rattle.booking.proofs.NeverAgain.{kept_after_booking, own_after_booking, bookable_after_booking}
use Rattle.cancel.proofs.CancelLaws.{cancelled_length}
use Rattle.demands.specs.Calls.{Call, book_segment, cancel_place, DealAndTable, answer_in, after_plain_call, run_calls}
use Rattle.demands.specs.Calls.{deal_after_call, DoesNotCancel, NoneCancels}
use Rattle.demands.proofs.CancelKeepLaws.{
  bookable_after_cancelling,
  keeps_after_cancelling,
  kept_after_cancelling,
}

-- the length of the deal stays, with a tree beside it or without one
pub after_length : (call : Call) (deal : LentDeal) (table : List ℕ)
    → length (deal_after_call call deal table) ≡ deal_size deal
after_length (book_segment by other) deal table = booked_length deal table by other
after_length (cancel_place by place) deal table = cancelled_length deal table by place

pub call_length : (was : DealAndTable) (call : Call) → length (after_plain_call call was).deal ≡ length was.deal
call_length was call = after_length call (lent_deal was.deal) was.table

pub run_length : (was : DealAndTable) (calls : List Call) → length (run_calls was calls).deal ≡ length was.deal
unfolding run_calls
run_length was [] = refl
run_length was (call ∷ later) = run_length (after_plain_call call was) later ∙ call_length was call

module _ (house : ℕ) (segment : List ℕ) where
  -- code 15 stays for a house, with the same numbers, after a call that does not cancel the place for it ..
  kept_after_call : (was : DealAndTable) (call : Call) → (answer_in was house segment).code ≡ 15
      → DoesNotCancel house (answer_in was house segment).place call
      → answer_in (after_plain_call call was) house segment ≡ answer_in was house segment
  kept_after_call was (book_segment by other) h n =
      kept_after_booking was.deal was.table house segment by other h
  kept_after_call was (cancel_place by place) h n =
      kept_after_cancelling was.deal was.table by place house segment h n

  -- .. and after any run of such calls
  pub kept_after_calls : (was : DealAndTable) (later : List Call) → (answer_in was house segment).code ≡ 15
      → NoneCancels house (answer_in was house segment).place later
      → answer_in (run_calls was later) house segment ≡ answer_in was house segment
  unfolding run_calls
  kept_after_calls was [] h n = refl
  kept_after_calls was (call ∷ later) h n =
      let once : answer_in (after_plain_call call was) house segment ≡ answer_in was house segment =
      kept_after_call was call h n.0 in
      kept_after_calls (after_plain_call call was) later (ap (λ (a : Booked). a.code) once ∙ h)
      (subst (λ (a : Booked). NoneCancels house a.place later) (sym once) n.1)
      ∙ once

  -- slot i of a deal is the house's and keeps the segment, and no rule refuses to book that before the slots are looked
  -- at
  pub record Keeping (now : DealAndTable) (i : ℕ) : Type 0 where
    pub bookable : BookableFor (lent_deal now.deal) now.table house segment
    pub slot_in : i < entry_count (length now.deal)
    pub keeps : keeps_own (lent_deal now.deal) now.table house segment i ≡ true

  -- it does so after a call that does not cancel the slot's place for the house ..
  keeping_after_call : (was : DealAndTable) (i : ℕ) (call : Call) → Keeping was i
      → DoesNotCancel house (slot_place (length was.deal) i) call → Keeping (after_plain_call call was) i
  keeping_after_call was i (book_segment by other) k n =
      record {
        bookable = bookable_after_booking was.deal was.table house segment by other k.bookable;
        slot_in = omega (arith, k.slot_in, ap entry_count (call_length was (book_segment by other)));
        keeps = own_after_booking was.deal was.table house segment by other i k.slot_in k.keeps;
      }
  keeping_after_call was i (cancel_place by place) k n =
      record {
        bookable = bookable_after_cancelling (lent_deal was.deal) was.table by place house segment k.bookable;
        slot_in = omega (arith, k.slot_in, ap entry_count (call_length was (cancel_place by place)));
        keeps = keeps_after_cancelling was.deal was.table by place house segment i k.slot_in n k.keeps;
      }

  -- .. and after any run of such calls: the place stays that of the slot
  pub keeping_after_calls : (was : DealAndTable) (i : ℕ) (later : List Call) → Keeping was i
      → NoneCancels house (slot_place (length was.deal) i) later → Keeping (run_calls was later) i
  unfolding run_calls
  keeping_after_calls was i [] k n = k
  keeping_after_calls was i (call ∷ later) k n =
      keeping_after_calls (after_plain_call call was) i later (keeping_after_call was i call k n.0)
      (subst (λ (d : ℕ). NoneCancels house (slot_place d i) later) (sym (call_length was call)) n.1)
