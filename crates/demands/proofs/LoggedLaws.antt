-- A call that gets a line passed the rules whose codes get none: a booking those before the slots (23, 2, 4, 11, 12), a
-- cancellation all but the last (23, 2, 11, 12, 6). A call that gets none changes nothing.
use Rattle.std.specs.Prelude.{◌≡◌, refl, Bool, true, false, ◌≢◌, ℕ, List}
use Rattle.std.proofs.Common.{sym, ap, ap₂, ◌∙◌, true≢false, ne_eqb}
use Rattle.rules.specs.Refusals.{first_of, first_refusal}
use Rattle.stray.specs.StrayBits.{no_stray_bits}
use Rattle.sizes.specs.Sizes.{lent_size_allowed, place_allowed}
use Rattle.lent.specs.LentDeal.{LentDeal, lent_deal, deal_size}
use Rattle.index.specs.Slots.{entry_at, standing}
use Rattle.room.specs.Decide.{answer_to}
use Rattle.room.specs.declared.Booked.{Booked}
use Rattle.ranges.specs.Ranges.{ranges_of}
use Rattle.houses.specs.Houses.{house_allowed, table_sized}
use Rattle.houses.specs.Deciding.{place_rules}
use Rattle.booking.specs.Booking.{decision, book_answer}
use Rattle.booking.specs.BookableLaws.{BookableFor, RuleCode}
use Rattle.booking.proofs.BookingLaws.{by_decision, answer_is}
use Rattle.booking.proofs.BookingLaws as B
use Rattle.cancel.specs.Cancel.{stands_own, cancel_code}
use Rattle.cancel.proofs.CancelLaws as C
use Rattle.cancel.proofs.OwnerCancelLaws as O
use Rattle.clerk_log.specs.Log.{booking_logged, cancelling_logged}
use Rattle.demands.specs.Calls.{book_segment, cancel_place, DealAndTable, answer_in, after_plain_call}

-- a code that is not listed is not 0
unlisted : (logged : ℕ → Bool) → logged 0 ≡ true → (code : ℕ) → logged code ≡ false → code ≢ 0
unlisted logged z code e same = true≢false (sym z ∙ sym (ap logged same) ∙ e)

-- the rules before the slots give none of the listed codes
rule_unlisted : (c : ℕ) → RuleCode c → booking_logged c ≡ false
rule_unlisted c r =
    rw (ne_eqb c 0 r.0, ne_eqb c 13 r.3, ne_eqb c 14 r.4, ne_eqb c 15 r.1, ne_eqb c 22 r.2)

module _ (deal : LentDeal) (table : List ℕ) (house : ℕ) (segment : List ℕ) where
  pub logged_booking : booking_logged (book_answer deal table house segment).code ≡ true
      → BookableFor deal table house segment
  logged_booking e =
      let answer = answer_to (deal_size deal) (ranges_of deal.bytes) in
      by_decision deal table house segment
      (λ x. booking_logged (answer x).code ≡ true → BookableFor deal table house segment)
      (λ c r l. absurd (true≢false (sym l ∙ rule_unlisted c r))) (λ b l. b)
      (ap (λ (a : Booked). booking_logged a.code)
      (sym (answer_is deal table house segment (decision deal table house segment) refl))
      ∙ e)

-- a cancellation that gets a line: what it passed, and that its code is that of the place
pub record LoggedCancel (deal : LentDeal) (table : List ℕ) (house place : ℕ) : Type 0 where
  pub house_allowed_lem : house_allowed house ≡ true
  pub size_allowed : lent_size_allowed (deal_size deal) ≡ true
  pub place_allowed_lem : place_allowed (deal_size deal) place ≡ true
  pub code_is : cancel_code deal table house place
      ≡ first_refusal
      (place_rules (deal_size deal) table house place (standing (deal_size deal) (entry_at deal.bytes place)))

-- 23, 2, 23, 11, 12 and 6 are not listed
passed_rules : (a b c e f g : Bool) (r : ℕ)
    → cancelling_logged
    (first_of a 23 (first_of b 2 (first_of c 23 (first_of e 11 (first_of f 12 (first_of g 6 r)))))) ≡ true
    → (a ≡ true)
    × (b ≡ true)
    × (g ≡ true)
    × (first_of a 23 (first_of b 2 (first_of c 23 (first_of e 11 (first_of f 12 (first_of g 6 r))))) ≡ first_of g 6 r)
passed_rules true true true true true true r h = (refl, refl, refl, refl)
passed_rules true true true true true false r h = absurd (true≢false (sym h))
passed_rules true true true true false g r h = absurd (true≢false (sym h))
passed_rules true true true false f g r h = absurd (true≢false (sym h))
passed_rules true true false e f g r h = absurd (true≢false (sym h))
passed_rules true false c e f g r h = absurd (true≢false (sym h))
passed_rules false b c e f g r h = absurd (true≢false (sym h))

pub logged_cancelling : (deal : LentDeal) (table : List ℕ) (house place : ℕ)
    → cancelling_logged (cancel_code deal table house place) ≡ true → LoggedCancel deal table house place
unfolding cancel_code
logged_cancelling deal table house place l =
    let d = deal_size deal in
    let p = passed_rules (house_allowed house) (lent_size_allowed d) (table_sized d table) (no_stray_bits deal.bytes)
    deal.tree_sized (place_allowed d place) (first_of (stands_own deal table house place) 16 0) l in
    record { house_allowed_lem = p.0; size_allowed = p.1; place_allowed_lem = p.2; code_is = p.3 }

-- a call that is refused leaves deal and table as they were, and so does one that gets no line
module _ (was : DealAndTable) (house : ℕ) where
  abbrev deal : LentDeal
  deal = lent_deal was.deal

  pub refused_booking : (segment : List ℕ) → (answer_in was house segment).code ≢ 0
      → after_plain_call (book_segment house segment) was ≡ was
  refused_booking segment r =
      ap₂ (λ (x y : List ℕ). record { deal = x; table = y })
      (B.refused_same deal was.table house segment r) (B.refused_table deal was.table house segment r)

  pub unlogged_booking : (segment : List ℕ) → booking_logged (answer_in was house segment).code ≡ false
      → after_plain_call (book_segment house segment) was ≡ was
  unlogged_booking segment l =
      refused_booking segment (unlisted booking_logged refl (answer_in was house segment).code l)

  pub refused_cancelling : (place : ℕ) → cancel_code (lent_deal was.deal) was.table house place ≢ 0
      → after_plain_call (cancel_place house place) was ≡ was
  refused_cancelling place r =
      ap₂ (λ (x y : List ℕ). record { deal = x; table = y })
      (C.refused_same deal was.table house place r) (O.refused_table deal was.table house place r)

  pub unlogged_cancelling : (place : ℕ)
      → cancelling_logged (cancel_code (lent_deal was.deal) was.table house place) ≡ false
      → after_plain_call (cancel_place house place) was ≡ was
  unlogged_cancelling place l =
      refused_cancelling place (unlisted cancelling_logged refl (cancel_code deal was.table house place) l)
