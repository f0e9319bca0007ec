-- What a cancellation does to what is kept: the slot at the place keeps nothing afterwards, and every other slot keeps
-- the segments that it kept, for the house for which it kept them. So code 15 stays for a house, with the same numbers,
-- where another place is cancelled, and where the other house tries to cancel that place.
use Rattle.std.specs.Prelude.{◌≡◌, refl, true, false, ◌&&◌, ◌≢◌, ℕ, ◌<◌, List, length, eqb}
use Rattle.std.proofs.Common.{sym, ap, ap₂, ◌∙◌, subst, true≢false, arith, eqb-true}
use Rattle.std.proofs.Math.Decide.{ℕ_discrete}
use Rattle.rules.specs.RefusalLaws.{and_right, not_passed}
use Rattle.sizes.specs.Sizes.{lent_size_allowed, segment_size_allowed, entry_count, slot_place}
use Rattle.sizes.specs.SizesLaws.{DealSize}
use Rattle.lent.specs.LentDeal.{LentDeal, lent_deal, deal_size}
use Rattle.index.specs.Slots.{slot_at, row_at, free, Row}
use Rattle.index.specs.KeptRows.{area_of}
use Rattle.index.specs.KeptRowsLaws.{row_ends}
use Rattle.index.specs.Written.{slot_of}
use Rattle.index.specs.SlotWrittenLaws.{place_slot}
use Rattle.room.specs.Room.{Range}
use Rattle.room.specs.declared.Booked.{Booked}
use Rattle.room.specs.Decide.{Already}
use Rattle.ranges.specs.Ranges.{row_range}
use Rattle.houses.specs.Houses.{table_sized, owner_at, owned}
use Rattle.booking.specs.Booking.{keeps_segment, keeps_own, book_answer}
use Rattle.booking.specs.BookableLaws.{Bookable, BookableFor}
use Rattle.booking.proofs.BookingLaws.{kept_already, answer_is}
use Rattle.booking.specs.Outcomes.{KeptAt}
use Rattle.booking.specs.OwnLaws.{own_owned}
use Rattle.booking.proofs.AlreadyLaws.{answer_kept}
use Rattle.booking.specs.KeepRows.{row_keeps}
use Rattle.booking.specs.KeepRowsLaws.{keeps_row, free_keeps_none}
use Rattle.cancel.specs.Cancel.{cancel_code, cancelled_deal, cancelled_table}
use Rattle.cancel.proofs.CancelLaws.{cancels, refused_same, cancelled_sized, cancelled_length, cancelled_below, cancelled_free, cancelled_row_other, cancelled_clear}
use Rattle.cancel.proofs.OwnerCancelLaws.{
  owner_cancels,
  refused_table,
  cancelled_owner_other,
  cancelled_table_sized,
}

-- the house `by` cancels a place of a deal: what can be booked can be so afterwards, as far as the rules go that come
-- before the slots, whatever the code
module _ (deal : LentDeal) (table : List ℕ) (by place : ℕ) where
  abbrev after : List ℕ
  after = cancelled_deal deal table by place

  abbrev owners : List ℕ
  owners = cancelled_table deal table by place

  same_length : length after ≡ deal_size deal
  same_length = cancelled_length deal table by place

  still_bookable : (segment : List ℕ) → Bookable (lent_deal deal.bytes) segment → Bookable (lent_deal after) segment
  still_bookable segment b =
      record {
        deal_allowed = ap lent_size_allowed same_length ∙ b.deal_allowed;
        segment_allowed = ap (λ (d : ℕ). segment_size_allowed d (length segment)) same_length ∙ b.segment_allowed;
        deal_clear = cancelled_clear deal table by place b.deal_clear;
        segment_clear = b.segment_clear;
        tree_sized_lem = refl;
      }

  pub bookable_after_cancelling : (house : ℕ) (segment : List ℕ)
      → BookableFor (lent_deal deal.bytes) table house segment
      → BookableFor (lent_deal (cancelled_deal deal table by place)) (cancelled_table deal table by place) house segment
  bookable_after_cancelling house segment b =
      record {
        house_allowed_lem = b.house_allowed_lem;
        table_sized_lem =
            ap (λ (d : ℕ). table_sized d owners) same_length
            ∙ cancelled_table_sized deal table by place (deal_size deal)
            ∙ b.table_sized_lem;
        bookable = still_bookable segment b.bookable;
      }

  -- with code 0
  module _ (e : cancel_code deal table by place ≡ 0) where
    abbrev slot : ℕ
    slot = slot_of (deal_size deal) place

    sized : DealSize (deal_size deal)
    sized = cancelled_sized deal table by place e

    -- by its row and the bytes of its area
    after_row : (segment : List ℕ) (j : ℕ)
        → keeps_segment (lent_deal after) segment j
        ≡ row_keeps segment (row_at after j) (area_of after (row_at after j))
    after_row segment j = keeps_row after segment j (subst DealSize (sym same_length) sized)

    keeps_none : (segment : List ℕ) → keeps_segment (lent_deal after) segment slot ≡ false
    keeps_none segment =
        after_row segment slot
        ∙ ap (λ (r : Row). row_keeps segment r (area_of after r)) (cancelled_free deal table by place e)
        ∙ free_keeps_none segment (area_of after free)

    -- the slot keeps nothing, for no house
    pub cancelled_keeps_none : (house : ℕ) (segment : List ℕ)
        → keeps_own (lent_deal (cancelled_deal deal table by place)) (cancelled_table deal table by place) house segment
        (slot_of (deal_size deal) place) ≡ false
    cancelled_keeps_none house segment =
        not_passed (keeps_own (lent_deal after) owners house segment slot)
        (λ t.
        true≢false
        (sym (and_right (owned owners house slot) (keeps_segment (lent_deal after) segment slot) t)
        ∙ keeps_none segment))

    pub cancelled_keeps_other : (segment : List ℕ) (j : ℕ) → j < entry_count (deal_size deal)
        → j ≢ slot_of (deal_size deal) place
        → keeps_segment (lent_deal (cancelled_deal deal table by place)) segment j
        ≡ keeps_segment (lent_deal deal.bytes) segment j
    cancelled_keeps_other segment j h ne =
        after_row segment j
        ∙ ap (λ (r : Row). row_keeps segment r (area_of after r)) (cancelled_row_other deal table by place j h ne)
        ∙ ap (row_keeps segment (row_at deal.bytes j))
        (cancelled_below deal table by place _ _ (row_ends (deal_size deal) (slot_at deal.bytes j) sized))
        ∙ sym (keeps_row deal.bytes segment j sized)

    pub cancelled_own_other : (house : ℕ) (segment : List ℕ) (j : ℕ) → j < entry_count (deal_size deal)
        → j ≢ slot_of (deal_size deal) place
        → keeps_own (lent_deal (cancelled_deal deal table by place))
        (cancelled_table deal table by place) house segment j
        ≡ keeps_own (lent_deal deal.bytes) table house segment j
    cancelled_own_other house segment j h ne =
        ap₂ ◌&&◌ (ap (λ (owner : ℕ). eqb owner house) (cancelled_owner_other deal table by place j ne))
        (cancelled_keeps_other segment j h ne)

    -- no slot comes to keep a segment for a house
    pub cancelled_keeps_no_more : (house : ℕ) (segment : List ℕ) (j : ℕ) → j < entry_count (deal_size deal)
        → keeps_own (lent_deal deal.bytes) table house segment j ≡ false
        → keeps_own (lent_deal (cancelled_deal deal table by place))
        (cancelled_table deal table by place) house segment j
        ≡ false
    cancelled_keeps_no_more house segment j h n =
        elim (ℕ_discrete j slot) [
          | yes here ↦ ap (keeps_own (lent_deal after) owners house segment) here ∙ cancelled_keeps_none house segment
          | no other ↦ cancelled_own_other house segment j h other ∙ n
        ]

    -- so a slot at another place that is the house's lowest to keep a segment goes on being so
    module _ (house : ℕ) (segment : List ℕ) (i : ℕ) (a : KeptAt (lent_deal deal.bytes) table house segment i)
        (ne : i ≢ slot) where
      slot_in : i < entry_count (deal_size deal)
      slot_in = omega (arith, a.lowest_keeping_lem.below)

      after_kept : KeptAt (lent_deal after) owners house segment i
      after_kept =
          record {
            bookable = bookable_after_cancelling house segment a.bookable;
            lowest_keeping_lem = record {
              from = omega arith;
              below = omega (arith, slot_in, ap entry_count same_length);
              passes = cancelled_own_other house segment i slot_in ne ∙ a.lowest_keeping_lem.passes;
              first = λ j f g.
                  let h = slot_in in
                  cancelled_keeps_no_more house segment j (omega arith) (a.lowest_keeping_lem.first j f g);
            };
          }

      answer_same :
          book_answer (lent_deal after) owners house segment ≡ book_answer (lent_deal deal.bytes) table house segment
      answer_same =
          answer_is (lent_deal after) owners house segment (Already i)
          ((kept_already (lent_deal after) owners house segment i).1 after_kept)
          ∙ ap₂ (λ (r : Range) (d : ℕ). record { code = 15; offset = r.offset; place = slot_place d i })
          (ap row_range (cancelled_row_other deal table by place i slot_in ne)) same_length
          ∙ sym
          (answer_is (lent_deal deal.bytes) table house segment (Already i)
          ((kept_already (lent_deal deal.bytes) table house segment i).1 a))

  -- a slot of a house, where the house does not cancel its place: not the one that is cancelled, be it by the house
  -- itself or by another
  other_slot : (house i : ℕ) → cancel_code deal table by place ≡ 0 → owned table house i ≡ true
      → (by ≡ house → place ≢ slot_place (deal_size deal) i) → i ≢ slot_of (deal_size deal) place
  other_slot house i z own ne same =
      let allowed = ((cancels deal table by place).0 z).place_allowed_lem in
      ne
      (sym (owner_cancels deal table by place z)
      ∙ ap (owner_at table) (sym same)
      ∙ eqb-true (owner_at table i) house own)
      ((place_slot (deal_size deal) place (cancelled_sized deal table by place z) allowed).1
      ∙ ap (slot_place (deal_size deal)) (sym same))

module _ (deal table : List ℕ) (by place house : ℕ) (segment : List ℕ) where
  abbrev deal_now : List ℕ
  deal_now = cancelled_deal (lent_deal deal) table by place

  abbrev table_now : List ℕ
  table_now = cancelled_table (lent_deal deal) table by place

  -- A slot of a house that keeps a segment does so after a cancellation, whatever its code, but of its place by the
  -- house.
  pub keeps_after_cancelling : (i : ℕ) → i < entry_count (length deal)
      → (by ≡ house → place ≢ slot_place (length deal) i) → keeps_own (lent_deal deal) table house segment i ≡ true
      → keeps_own (lent_deal (cancelled_deal (lent_deal deal) table by place))
      (cancelled_table (lent_deal deal) table by place) house segment i ≡ true
  keeps_after_cancelling i h ne k =
      elim (ℕ_discrete (cancel_code (lent_deal deal) table by place) 0) [
        | yes z ↦
            cancelled_own_other (lent_deal deal) table by place z house segment i h
            (other_slot (lent_deal deal) table by place house i z
            (own_owned (lent_deal deal) table house segment i k) ne)
            ∙ k
        | no r ↦
            ap₂ (λ (x y : List ℕ). keeps_own (lent_deal x) y house segment i)
            (refused_same (lent_deal deal) table by place r) (refused_table (lent_deal deal) table by place r)
            ∙ k
      ]

  -- the place of an answer 15 is that of its slot
  answer_place : (i : ℕ) → KeptAt (lent_deal deal) table house segment i
      → (book_answer (lent_deal deal) table house segment).place ≡ slot_place (length deal) i
  answer_place i a =
      ap (λ (b : Booked). b.place)
      (answer_is (lent_deal deal) table house segment (Already i)
      ((kept_already (lent_deal deal) table house segment i).1 a))

  -- Code 15 stays for a house, with the same numbers, after a cancellation but of its place by the house.
  pub kept_after_cancelling : (book_answer (lent_deal deal) table house segment).code ≡ 15
      → (by ≡ house → place ≢ (book_answer (lent_deal deal) table house segment).place)
      → book_answer (lent_deal (cancelled_deal (lent_deal deal) table by place))
      (cancelled_table (lent_deal deal) table by place) house segment
      ≡ book_answer (lent_deal deal) table house segment
  kept_after_cancelling h ne =
      let k = answer_kept (lent_deal deal) table house segment h in
      elim (ℕ_discrete (cancel_code (lent_deal deal) table by place) 0) [
        | yes z ↦
            answer_same (lent_deal deal) table by place z house segment k.0 k.1
            (other_slot (lent_deal deal) table by place house k.0 z
            (own_owned (lent_deal deal) table house segment k.0 k.1.lowest_keeping_lem.passes)
            (λ own same. ne own (same ∙ sym (answer_place k.0 k.1))))
        | no r ↦
            ap₂ (λ (x y : List ℕ). book_answer (lent_deal x) y house segment)
            (refused_same (lent_deal deal) table by place r) (refused_table (lent_deal deal) table by place r)
      ]
