-- Every line of a day may stand in the log of its deal, and fits the bytes of a log (document 02, request (xii)): a
-- house other than 1 or 2 and a T that is not allowed get codes that get no line, and the numbers are below the deal's
-- size.
use Rattle.std.specs.Prelude.{◌≡◌, refl, Bool, true, false, ◌&&◌, ℕ, ◌≤◌, ◌<◌, List, [], ◌∷◌, ◌++◌, length}
use Rattle.std.proofs.Common.{sym, ◌∙◌, subst}
use native.Mathlib.Omega.{arith}
use Rattle.rules.specs.Choice.{choose}
use Rattle.rules.specs.RefusalLaws.{and_both}
use Rattle.merkle.specs.TreeLaws.{commitment_length}
use Rattle.sizes.specs.Sizes.{segment_size_allowed, segment_level, entry_count}
use Rattle.sizes.specs.SizesLaws.{LentSize, lent_size, index_start_le, entry_place}
use Rattle.lent.specs.LentDeal.{LentDeal, deal_size}
use Rattle.index.specs.KeptRowsLaws.{slot_within}
use Rattle.room.specs.Decide.{answer_to}
use Rattle.room.specs.declared.Booked.{Booked}
use Rattle.room.specs.Decide.{Decision}
use Rattle.room.specs.Decide.{Refuse, Already, Place}
use Rattle.ranges.specs.Ranges.{ranges_of}
use Rattle.ranges.specs.RangesLaws.{ranges_end}
use Rattle.houses.specs.Houses.{house_allowed}
use Rattle.booking.specs.Write.{area_bytes, segment_commitment}
use Rattle.booking.specs.Booking.{decision, book_answer}
use Rattle.booking.specs.BookableLaws.{BookableFor, bookable_deal, bookable_segment, area_length}
use Rattle.booking.proofs.BookingLaws.{kept_already, answer_is}
use Rattle.booking.proofs.BookedLaws.{booked_fits}
use Rattle.cancel.specs.Cancel.{cancel_code}
use Rattle.clerk_log.specs.Log.{booking_logged, cancelling_logged}
use Rattle.clerk_log.specs.declared.Line.{Line}
use Rattle.clerk_log.specs.LineFits.{AllFit}
use Rattle.demands.specs.Calls.{Call, book_segment, cancel_place, DealAndTable}
use Rattle.demands.specs.DealCalls.{lent_beside, DealCall, on_deal, collect_into, after_deal_call}
use Rattle.demands.proofs.DealCallsLaws.{same_bytes_lem, deal_call_length}
use Rattle.demands.specs.Day.{booking_line, cancelling_line, logged_call, call_lines, day_lines}
use Rattle.demands.proofs.LoggedLaws.{logged_booking, logged_cancelling}

-- a booking that gets a line
module _ (deal : LentDeal) (table : List ℕ) (house : ℕ) (segment : List ℕ)
    (logged : booking_logged (book_answer deal table house segment).code ≡ true) where
  ready : BookableFor deal table house segment
  ready = logged_booking deal table house segment logged

  size : LentSize (deal_size deal)
  size = bookable_deal ready.bookable

  commitment_32 : length (segment_commitment segment) ≡ 32
  commitment_32 =
      commitment_length (segment_level (length segment)) (area_bytes segment)
      (omega (arith, area_length ready.bookable, (bookable_segment ready.bookable).area_is))

  -- its numbers lie in the deal
  InDeal : Booked → Type 0
  InDeal answer = (answer.offset ≤ deal_size deal) × (answer.place ≤ deal_size deal)

  answer_in_lem : (x : Decision) → decision deal table house segment ≡ x
      → InDeal (answer_to (deal_size deal) (ranges_of deal.bytes) x)
  unfolding InDeal
  answer_in_lem (Refuse c) e = (omega arith, omega arith)
  answer_in_lem (Already i) e =
      let h : i < entry_count (deal_size deal) =
      omega (arith, ((kept_already deal table house segment i).0 e).lowest_keeping_lem.below) in (
        omega (arith, ranges_end deal.bytes size.deal i h, index_start_le (deal_size deal)),
        omega (arith, slot_within (deal_size deal) i size.deal h),
      )
  answer_in_lem (Place i o) e =
      let facts = booked_fits deal table house segment i o e in (
        omega (arith, facts.ends, index_start_le (deal_size deal)),
        omega (arith, slot_within (deal_size deal) i size.deal facts.slot_in),
      )

  in_deal : InDeal (book_answer deal table house segment)
  in_deal =
      subst InDeal (sym (answer_is deal table house segment (decision deal table house segment) refl))
      (answer_in_lem (decision deal table house segment) refl)

  booking_fits : AllFit (deal_size deal) (booking_line house segment (book_answer deal table house segment) ∷ [])
  unfolding InDeal
  booking_fits =
      let sized = segment_size_allowed (deal_size deal) (length segment) in
      let listed = booking_logged (book_answer deal table house segment).code in
      let small = bookable_segment ready.bookable in (
        and_both (house_allowed house) (sized && listed) ready.house_allowed_lem
            (and_both sized listed ready.bookable.segment_allowed logged),
        record {
          commitment_fits = commitment_32;
          size_fits = omega (arith, small.size_area, small.area_half, size.lent_high);
          offset_fits = omega (arith, in_deal.0, size.lent_high);
          place_fits = omega (arith, in_deal.1, size.lent_high);
        },
        tt,
      )

-- a cancellation that gets one
cancelling_fits : (deal : LentDeal) (table : List ℕ) (house place : ℕ)
    → cancelling_logged (cancel_code deal table house place) ≡ true
    → AllFit (deal_size deal) (cancelling_line house place (cancel_code deal table house place) ∷ [])
cancelling_fits deal table house place logged =
    let c = logged_cancelling deal table house place logged in
    let size = lent_size (deal_size deal) c.size_allowed in
    let at = entry_place (deal_size deal) place size.deal c.place_allowed_lem in (
      and_both (house_allowed house)
          (cancelling_logged (cancel_code deal table house place)) c.house_allowed_lem logged,
      omega (arith, at.in_deal, size.lent_high),
      tt,
    )

-- so the lines of a call, ..
call_fits : (call : Call) (deal : LentDeal) (table : List ℕ) → AllFit (deal_size deal) (logged_call call deal table)
call_fits (book_segment house segment) deal table =
    by_test (booking_logged (book_answer deal table house segment).code) refl
  where
    by_test : (b : Bool) → booking_logged (book_answer deal table house segment).code ≡ b
        → AllFit (deal_size deal) (choose b (booking_line house segment (book_answer deal table house segment) ∷ []) [])
    by_test true l = booking_fits deal table house segment l
    by_test false l = tt
call_fits (cancel_place house place) deal table = by_test (cancelling_logged (cancel_code deal table house place)) refl
  where
    by_test : (b : Bool) → cancelling_logged (cancel_code deal table house place) ≡ b
        → AllFit (deal_size deal) (choose b (cancelling_line house place (cancel_code deal table house place) ∷ []) [])
    by_test true l = cancelling_fits deal table house place l
    by_test false l = tt

deal_call_fits : (call : DealCall) (was : DealAndTable) → AllFit (length was.deal) (call_lines call was)
deal_call_fits (on_deal call tree) was =
    subst (λ (x : List ℕ). AllFit (length x) (call_lines (on_deal call tree) was)) (same_bytes_lem tree was.deal)
    (call_fits call (lent_beside tree was.deal) was.table)
deal_call_fits (collect_into second tree) was = tt

all_fit_append : (d : ℕ) (xs ys : List Line) → AllFit d xs → AllFit d ys → AllFit d (xs ++ ys)
all_fit_append d [] ys f g = g
all_fit_append d (line ∷ later) ys f g = (f.0, f.1, all_fit_append d later ys f.2 g)

-- .. and of calls in turn
pub day_fits : (d : ℕ) (calls : List DealCall) (was : DealAndTable) → length was.deal ≡ d
    → AllFit d (day_lines was calls)
unfolding day_lines
day_fits d [] was e = tt
day_fits d (call ∷ later) was e =
    let now : DealAndTable = after_deal_call call was in
    all_fit_append d (call_lines call was) (day_lines now later)
    (subst (λ (n : ℕ). AllFit n (call_lines call was)) e (deal_call_fits call was))
    (day_fits d later now (deal_call_length call was ∙ e))
