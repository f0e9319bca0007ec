-- Every call of a year leaves the invariant of request (xiii) true, and so does every run from an all-zero deal.
use Rattle.std.specs.Prelude.{◌≡◌, refl, true, not, ◌≢◌, ℕ, List, [], ◌∷◌, length}
use Rattle.std.proofs.Common.{sym, ap, ap₂, ◌∙◌, subst, subst₂, inl, inr}
use Rattle.std.proofs.Math.Decide.{ℕ_discrete}
use Rattle.std.proofs.lemmas.List.{length-replicate}
use Rattle.octets.specs.Bytes.{Bytes}
use Rattle.sizes.specs.Sizes.{lent_size_allowed}
use Rattle.lent.specs.LentDealLaws.{answer_refused}
use Rattle.booking.specs.Booking.{book_answer}
use Rattle.booking.proofs.BookingLaws as B
use Rattle.booking.proofs.BookedLaws.{booked_bytes}
use Rattle.cancel.specs.Cancel.{cancel_code}
use Rattle.cancel.proofs.CancelLaws as C
use Rattle.cancel.proofs.OwnerCancelLaws as O
use Rattle.collect.specs.ZerosLaws.{zeros_bytes}
use Rattle.collect.proofs.CollectClear.{collected_bytes}
use Rattle.demands.specs.Calls.{Call, book_segment, cancel_place, DealAndTable, after_plain_call}
use Rattle.demands.specs.DealCalls.{TreeLent, no_tree, tree_in, lent_beside, TreeAsAsked, DealCall, on_deal}
use Rattle.demands.specs.DealCalls.{collect_into, BooksIt, after_deal_call, run_deal_calls, all_zero_deal}
use Rattle.demands.proofs.DealCallsLaws.{same_bytes_lem, by_collecting, deal_call_length}
use Rattle.demands.proofs.DayTreeLaws.{plain_after}
use Rattle.demands.proofs.TreeForms.{same_booking, same_cancelling}
use Rattle.demands.specs.History.{Answered, booking, cancelling, answered_code, BookedSegment, booked_with}
use Rattle.demands.specs.History.{is_at, filter, after_answer, booked_from, uncancelled}
use Rattle.demands.specs.Year.{answered_call, history_of, OfAYear, Year, SegmentsAreBytes}
use Rattle.demands.specs.Assured.{Assured}
use Rattle.demands.proofs.AssuredZerosLaws.{zeros_assured}
use Rattle.demands.proofs.AssuredBookingLaws.{booking_assured}
use Rattle.demands.proofs.AssuredCancelLaws.{cancelling_assured}
use Rattle.demands.proofs.AssuredCollectLaws.{collecting_assured}

-- a call that is lent a tree as (vii) asks is answered as the plain form is
plain_answered : (call : Call) (tree : TreeLent) (was : DealAndTable) → TreeAsAsked tree was.deal
    → answered_call (on_deal call tree) was ≡ answered_call (on_deal call no_tree) was
plain_answered call no_tree was f = refl
plain_answered (book_segment house segment) (tree_in buffer) was f =
    ap (booking house segment) (same_booking was.deal buffer f was.table house segment)
plain_answered (cancel_place house place) (tree_in buffer) was f =
    ap (cancelling house place) (same_cancelling was.deal buffer f was.table house place)

-- a booking or a cancellation by the plain form
plain_assured : (call : Call) (bookings : List BookedSegment) (was : DealAndTable) → Assured bookings was
    → Assured (after_answer (length was.deal) (answered_call (on_deal call no_tree) was) bookings)
    (after_plain_call call was)
plain_assured (book_segment house segment) bookings was a = booking_assured house segment bookings was a
plain_assured (cancel_place house place) bookings was a = cancelling_assured house place bookings was a

-- a booking or a cancellation that is refused leaves all as it was, whatever is lent beside the deal
refused_assured : (call : Call) (tree : TreeLent) (bookings : List BookedSegment) (was : DealAndTable)
    → answered_code (answered_call (on_deal call tree) was) ≢ 0 → Assured bookings was
    → Assured (after_answer (length was.deal) (answered_call (on_deal call tree) was) bookings)
    (after_deal_call (on_deal call tree) was)
refused_assured (book_segment house segment) tree bookings was r a =
    let deal = lent_beside tree was.deal in
    let answer = book_answer deal was.table house segment in
    subst₂ Assured
    (sym (answer_refused (λ (c : ℕ). bookings) (booked_with house segment answer ∷ bookings) answer.code r))
    (ap₂ (λ (x y : List ℕ). record { deal = x; table = y })
    (sym (B.refused_same deal was.table house segment r ∙ same_bytes_lem tree was.deal))
    (sym (B.refused_table deal was.table house segment r)))
    a
refused_assured (cancel_place house place) tree bookings was r a =
    let deal = lent_beside tree was.deal in
    let others = filter (λ b. not (is_at house place b)) bookings in
    subst₂ Assured
    (sym (answer_refused (λ (c : ℕ). bookings) others (cancel_code deal was.table house place) r))
    (ap₂ (λ (x y : List ℕ). record { deal = x; table = y })
    (sym (C.refused_same deal was.table house place r ∙ same_bytes_lem tree was.deal))
    (sym (O.refused_table deal was.table house place r)))
    a

-- a call
pub call_assured : (call : DealCall) (bookings : List BookedSegment) (was : DealAndTable) → OfAYear call was
    → Assured bookings was
    → Assured (after_answer (length was.deal) (answered_call call was) bookings) (after_deal_call call was)
call_assured (on_deal call tree) bookings was y a =
    elim (ℕ_discrete (answered_code (answered_call (on_deal call tree) was)) 0) [
      | yes z ↦
          subst₂
          (λ (answered : Answered) (now : DealAndTable).
          Assured (after_answer (length was.deal) answered bookings) now)
          (sym (plain_answered call tree was (y z))) (sym (plain_after call tree was (y z)))
          (plain_assured call bookings was a)
      | no r ↦ refused_assured call tree bookings was r a
    ]
call_assured (collect_into second tree) bookings was y a = collecting_assured second tree bookings was a

-- calls in turn
pub run_assured : (calls : List DealCall) (bookings : List BookedSegment) (was : DealAndTable) (d : ℕ)
    → length was.deal ≡ d → Year was calls → Assured bookings was
    → Assured (booked_from d bookings (history_of was calls)) (run_deal_calls was calls)
unfolding booked_from history_of run_deal_calls
run_assured [] bookings was d size year a = a
run_assured (call ∷ later) bookings was d size year a =
    let one : Assured (after_answer d (answered_call call was) bookings) (after_deal_call call was) =
    subst (λ (n : ℕ). Assured (after_answer n (answered_call call was) bookings) (after_deal_call call was)) size
    (call_assured call bookings was year.0 a) in
    run_assured later (after_answer d (answered_call call was) bookings) (after_deal_call call was) d
    (deal_call_length call was ∙ size) year.1 one

pub year_assured : (d : ℕ) (table : List ℕ) (calls : List DealCall) → lent_size_allowed d ≡ true
    → Year (all_zero_deal d table) calls
    → Assured (uncancelled d (history_of (all_zero_deal d table) calls)) (run_deal_calls (all_zero_deal d table) calls)
year_assured d table calls l year =
    run_assured calls [] (all_zero_deal d table) d (length-replicate d 0) year (zeros_assured d table l)

-- the deal is bytes, where the segments are: after a call, ..
call_bytes : (call : DealCall) (was : DealAndTable) → ((segment : List ℕ) → BooksIt call segment → Bytes segment)
    → Bytes was.deal → Bytes (after_deal_call call was).deal
call_bytes (on_deal (book_segment house segment) tree) was books b =
    booked_bytes (lent_beside tree was.deal) was.table house segment
    (subst Bytes (sym (same_bytes_lem tree was.deal)) b) (books segment refl)
call_bytes (on_deal (cancel_place house place) tree) was books b =
    C.cancelled_bytes (lent_beside tree was.deal) was.table house place
    (subst Bytes (sym (same_bytes_lem tree was.deal)) b)
call_bytes (collect_into second tree) was books b =
    by_collecting second tree was (λ now. Bytes now.deal) b (λ c. collected_bytes c.collectable b)

-- .. after calls in turn, ..
run_bytes : (calls : List DealCall) (was : DealAndTable) → SegmentsAreBytes calls → Bytes was.deal
    → Bytes (run_deal_calls was calls).deal
unfolding run_deal_calls
run_bytes [] was books b = b
run_bytes (call ∷ later) was books b =
    run_bytes later (after_deal_call call was) (λ segment l. books segment (inr l))
    (call_bytes call was (λ segment l. books segment (inl l)) b)

-- .. and after a year's
pub year_bytes : (d : ℕ) (table : List ℕ) (calls : List DealCall) → SegmentsAreBytes calls
    → Bytes (run_deal_calls (all_zero_deal d table) calls).deal
year_bytes d table calls books = run_bytes calls (all_zero_deal d table) books (zeros_bytes d)
