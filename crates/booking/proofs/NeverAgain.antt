-- A segment that a house keeps already is not booked again by that house (demand 2; document 02, request (x): it "now
-- holds for each house"), one booking at a time: booking it answers 15, with the numbers of the house's lowest slot
-- that keeps it, and goes on doing so after one more booking by either house. Whatever calls come in between:
-- crates/demands/specs/Demand2.antt.
use Rattle.std.specs.Prelude.{◌≡◌, refl, true, ℕ, ◌<◌, List, length}
use Rattle.std.proofs.Common.{sym, ap, ap₂, ◌∙◌, true≢false, arith}
use Rattle.std.proofs.Common.{Option}
use Rattle.std.proofs.Common.{Some, None}
use Rattle.rules.specs.SearchLaws.{IsLowest, lowest_found, lowest_missing}
use Rattle.sizes.specs.Sizes.{entry_count, slot_place}
use Rattle.lent.specs.LentDeal.{lent_deal}
use Rattle.index.specs.Slots.{slot_at, standing}
use Rattle.room.specs.declared.Booked.{Booked}
use Rattle.room.specs.Decide.{Place}
use Rattle.houses.specs.Houses.{owner_at}
use Rattle.houses.specs.HousesLaws.{owner_other}
use Rattle.booking.specs.Booking.{keeps_segment, keeps_own, lowest_keeping, book_answer, booked_deal, booked_table}
use Rattle.booking.specs.BookableLaws.{BookableFor}
use Rattle.booking.proofs.BookingLaws.{answer_is, code_0}
use Rattle.booking.specs.WriteLaws.{stands_elsewhere}
use Rattle.booking.specs.KeepLaws.{keeps_stands, keeps_same}
use Rattle.booking.specs.OwnLaws.{own_stands, own_same, bookable_for_stays}
use Rattle.booking.proofs.BookedLaws.{booked_fits, booked_slot_in, by_booking, booked_length}
use Rattle.booking.specs.Outcomes.{answer15}
use Rattle.booking.proofs.AlreadyLaws.{kept_answer, answer_kept, booked_kept, booked_offset, answer_same}

-- A segment that a slot of the house keeps in a bookable deal answers 15, with offset and entry place of the house's
-- lowest slot that keeps it.
pub kept_is_15 : (deal table : List ℕ) (house : ℕ) (segment : List ℕ) (i : ℕ)
    → BookableFor (lent_deal deal) table house segment → i < entry_count (length deal)
    → keeps_own (lent_deal deal) table house segment i ≡ true
    → (j : ℕ)
    × IsLowest (keeps_own (lent_deal deal) table house segment) 0 (entry_count (length deal)) j
    × (book_answer (lent_deal deal) table house segment ≡ answer15 deal j)
kept_is_15 deal table house segment i b h k = by_search (lowest_keeping (lent_deal deal) table house segment) refl
  where
    by_search : (f : Option ℕ) → lowest_keeping (lent_deal deal) table house segment ≡ f
        → (j : ℕ)
        × IsLowest (keeps_own (lent_deal deal) table house segment) 0 (entry_count (length deal)) j
        × (book_answer (lent_deal deal) table house segment ≡ answer15 deal j)
    by_search (Some j) e =
        let l = lowest_found (keeps_own (lent_deal deal) table house segment) 0 (entry_count (length deal)) j e in
        (j, l, kept_answer (lent_deal deal) table house segment j (record { bookable = b; lowest_keeping_lem = l }))
    by_search None e =
        let slots = entry_count (length deal) in
        absurd
        (true≢false
        (sym k
        ∙ lowest_missing (keeps_own (lent_deal deal) table house segment) 0 slots e i (omega arith) (omega arith)))

-- A segment that a house booked with code 0 answers 15 to it right after, with the same offset and entry place.
pub booked_is_15 : (deal table : List ℕ) (house : ℕ) (segment : List ℕ)
    → (book_answer (lent_deal deal) table house segment).code ≡ 0
    → book_answer (lent_deal (booked_deal (lent_deal deal) table house segment))
    (booked_table (lent_deal deal) table house segment) house segment
    ≡ record {
      code = 15;
      offset = (book_answer (lent_deal deal) table house segment).offset;
      place = (book_answer (lent_deal deal) table house segment).place;
    }
booked_is_15 deal table house segment z =
    let lent = lent_deal deal in
    let p = (code_0 lent table house segment).0 z in
    let i : ℕ = p.0 in
    let o : ℕ = p.1 in
    kept_answer (lent_deal (booked_deal lent table house segment)) (booked_table lent table house segment) house
    segment i
    (booked_kept deal table house segment i o p.2)
    ∙ ap₂ (λ (x n : ℕ). record { code = 15; offset = x; place = slot_place n i })
    (booked_offset deal table house segment i o p.2) (booked_length lent table house segment)
    ∙ ap (λ (x : Booked). record { code = 15; offset = x.offset; place = x.place })
    (sym (answer_is lent table house segment (Place i o) p.2))

-- One more booking, by either house, whatever its code.
module _ (deal table : List ℕ) where
  -- Code 15 to a house stays, with the same numbers.
  pub kept_after_booking : (house : ℕ) (segment : List ℕ) (other_house : ℕ) (other : List ℕ)
      → (book_answer (lent_deal deal) table house segment).code ≡ 15
      → book_answer (lent_deal (booked_deal (lent_deal deal) table other_house other))
      (booked_table (lent_deal deal) table other_house other) house segment
      ≡ book_answer (lent_deal deal) table house segment
  kept_after_booking house segment other_house other h =
      let a = answer_kept (lent_deal deal) table house segment h in
      by_booking (lent_deal deal) table other_house other
      (λ x y. book_answer (lent_deal x) y house segment ≡ book_answer (lent_deal deal) table house segment) refl
      (λ k o e. answer_same deal table house segment other_house other a.0 k o a.1 e)

  -- A slot that keeps a segment does so afterwards, ..
  pub keeps_after_booking : (segment : List ℕ) (other_house : ℕ) (other : List ℕ) (i : ℕ)
      → i < entry_count (length deal)
      → keeps_segment (lent_deal deal) segment i ≡ true
      → keeps_segment (lent_deal (booked_deal (lent_deal deal) table other_house other)) segment i ≡ true
  keeps_after_booking segment other_house other i h k =
      by_booking (lent_deal deal) table other_house other (λ x y. keeps_segment (lent_deal x) segment i ≡ true) k
      (λ j o e.
      let room = booked_fits (lent_deal deal) table other_house other j o e in
      keeps_same room segment i h (stands_elsewhere room i (keeps_stands (lent_deal deal) segment i k)) ∙ k)

  -- .. a standing entry has the same owner, ..
  pub owner_after_booking : (other_house : ℕ) (other : List ℕ) (i : ℕ) → standing (length deal) (slot_at deal i) ≡ true
      → owner_at (booked_table (lent_deal deal) table other_house other) i ≡ owner_at table i
  owner_after_booking other_house other i s =
      by_booking (lent_deal deal) table other_house other (λ x y. owner_at y i ≡ owner_at table i) refl
      (λ j o e.
      owner_other table j other_house (booked_slot_in (lent_deal deal) table other_house other j o e) i
      (stands_elsewhere (booked_fits (lent_deal deal) table other_house other j o e) i s))

  module _ (house : ℕ) (segment : List ℕ) (other_house : ℕ) (other : List ℕ) where
    -- .. so a slot of a house that keeps a segment does so for that house, ..
    pub own_after_booking : (i : ℕ) → i < entry_count (length deal)
        → keeps_own (lent_deal deal) table house segment i ≡ true
        → keeps_own (lent_deal (booked_deal (lent_deal deal) table other_house other))
        (booked_table (lent_deal deal) table other_house other) house segment i
        ≡ true
    own_after_booking i h k =
        by_booking (lent_deal deal) table other_house other (λ x y. keeps_own (lent_deal x) y house segment i ≡ true) k
        (λ j o e.
        let room = booked_fits (lent_deal deal) table other_house other j o e in
        own_same room table other_house (booked_slot_in (lent_deal deal) table other_house other j o e) house segment
        i h
        (stands_elsewhere room i (own_stands (lent_deal deal) table house segment i k))
        ∙ k)

    -- .. and what a house could book it can book afterwards, as far as the rules go that come before the slots.
    pub bookable_after_booking : BookableFor (lent_deal deal) table house segment
        → BookableFor (lent_deal (booked_deal (lent_deal deal) table other_house other))
        (booked_table (lent_deal deal) table other_house other) house segment
    bookable_after_booking b =
        by_booking (lent_deal deal) table other_house other (λ x y. BookableFor (lent_deal x) y house segment) b
        (λ j o e.
        bookable_for_stays (booked_fits (lent_deal deal) table other_house other j o e) table other_house
        (booked_slot_in (lent_deal deal) table other_house other j o e) house segment b)
