-- Booking a segment again after its entry was cancelled, by the same house.
use Rattle.std.specs.Prelude.{◌≡◌, true, false, ◌≢◌, length}
use Rattle.std.proofs.Math.Path.{refl, ap}
use Rattle.std.proofs.Common.{sym, ap₂, ◌∙◌, subst, true≢false, ⊎_elim, arith, eq-eqb, leb-true}
use Prim.Native.Nat.{ℕ, ◌+◌, ◌*◌, ◌≤◌, ◌<◌}
use Rattle.std.proofs.Math.Decide.{ℕ_discrete}
use mathlib.Core.List.{List, [], ◌∷◌}
use Rattle.std.proofs.Math.ListN.{replicate}
use Rattle.rules.specs.Search.{lowest}
use Rattle.rules.specs.SearchLaws.{lowest_cong}
use Rattle.octets.specs.Splice.{part}
use Rattle.octets.specs.SpliceLaws.{splice_over}
use Rattle.sizes.specs.Sizes.{lent_size_allowed, area, entry_count, index_start, slot_place}
use Rattle.sizes.specs.SizesLaws.{DealSize, SegmentPlace, slot_allowed}
use Rattle.entries.specs.Entry.{offset_in}
use Rattle.lent.specs.LentDeal.{lent_deal}
use Rattle.lent.specs.LentDealLaws.{none_refusal}
use Rattle.index.specs.Slots.{slot_at, row_at, Row}
use Rattle.index.specs.KeptLaws.{row_free, kept_stands}
use Rattle.index.specs.KeptRowsLaws.{standing_place}
use Rattle.index.specs.Written.{slot_of, with_slot}
use Rattle.index.specs.SlotWrittenLaws.{slot_back, with_slot_own, with_slot_over}
use Rattle.index.specs.AreaWrittenLaws.{with_area_own}
use Rattle.room.specs.Room.{SameBelow, is_empty, fits}
use Rattle.room.specs.Decide.{decide}
use Rattle.room.specs.DecideLaws.{decide_cong, decides_refused}
use Rattle.room.specs.declared.Booked.{Booked}
use Rattle.room.specs.Decide.{Decision}
use Rattle.room.specs.Decide.{Refuse, Already, Place}
use Rattle.ranges.specs.Ranges.{row_range, ranges_of}
use Rattle.houses.specs.Houses.{table_sized, owner_at, owned, with_owner}
use Rattle.houses.specs.HousesLaws.{owner_here, with_owner_length, with_owner_sized}
use Rattle.booking.specs.Write.{area_bytes, new_entry, written_deal}
use Rattle.booking.specs.WriteLaws.{Fits, entry_64, written_length, written_clear, segment_written, slot_written, row_same, kept_written}
use Rattle.booking.specs.Booking.{keeps_segment, keeps_own, lowest_keeping, held_in, decision, book_answer, booked_deal, booked_table}
use Rattle.booking.specs.BookableLaws.{BookableFor, bookable_deal, area_length}
use Rattle.booking.proofs.BookingLaws.{decision_is, kept_already, half_held, no_slot, no_place, answer_is}
use Rattle.booking.specs.Outcomes.{Unkept}
use Rattle.booking.specs.KeepLaws.{keeps_parts, keeps_stands, keeps_bookable}
use Rattle.booking.specs.OwnLaws.{own_keeps, own_same, bookable_for_stays}
use Rattle.booking.proofs.BookedLaws.{booked_unkept, booked_fits, booked_is, booked_table_is, booked_slot_in}
use Rattle.cancel.specs.Cancel.{cancel_code, cancelled_deal, cancelled_table}
use Rattle.cancel.proofs.CancelLaws.{cancels, cancelled_sized, cancelled_length, cancelled_is, cancelled_below, cancelled_free, cancelled_row_other}
use Rattle.cancel.proofs.OwnerCancelLaws.{table_is}
use Rattle.demands.specs.Covers.{covers}
use Rattle.demands.proofs.CancelKeepLaws.{bookable_after_cancelling, cancelled_keeps_none, cancelled_own_other}
use Rattle.demands.proofs.CancelRoomLaws.{cancelled_room}
use Rattle.demands.proofs.HeldLaws.{written_held, cancelled_held}

-- an owner written over another
owner_over : (table : List ℕ) (i x y : ℕ) → i < length table
    → with_owner (with_owner table i x) i y ≡ with_owner table i y
unfolding with_owner
owner_over table i x y h = splice_over table i (x ∷ []) (y ∷ []) (omega arith) refl

-- a house wrote a segment in slot i at the offset o, and cancels its entry
module _ {deal segment : List ℕ} {i o : ℕ} (facts : Fits deal segment i o) (table : List ℕ) (house : ℕ)
    (ready : BookableFor (lent_deal deal) table house segment) (in_table : i < length table) where
  abbrev booked : List ℕ
  booked = written_deal deal segment i o

  abbrev owners : List ℕ
  owners = with_owner table i house

  abbrev place : ℕ
  place = slot_place (length booked) i

  abbrev without : List ℕ
  without = cancelled_deal (lent_deal booked) owners house place

  abbrev cleared : List ℕ
  cleared = cancelled_table (lent_deal booked) owners house place

  sized : DealSize (length booked)
  sized = subst DealSize (sym (written_length facts)) (bookable_deal facts.bookable).deal

  slot_in : i < entry_count (length booked)
  slot_in = omega (arith, facts.slot_in, ap entry_count (written_length facts))

  here : slot_of (length booked) place ≡ i
  here = slot_back (length booked) i

  -- that answers 0
  written_cancels : cancel_code (lent_deal booked) owners house place ≡ 0
  written_cancels =
      (cancels (lent_deal booked) owners house place).1
      (record {
        house_allowed_lem = ready.house_allowed_lem;
        not_refused =
            none_refusal (lent_deal booked)
            (ap lent_size_allowed (written_length facts) ∙ facts.bookable.deal_allowed) (written_clear facts) refl;
        table_sized_lem =
            ap (λ (d : ℕ). table_sized d owners) (written_length facts)
            ∙ with_owner_sized (length deal) table i house in_table
            ∙ ready.table_sized_lem;
        place_allowed_lem = slot_allowed (length booked) i sized slot_in;
        stands_there = kept_stands _ (length booked) (slot_at booked i) (kept_written facts);
        owned_there =
            ap (owned owners house) here ∙ eq-eqb (owner_at owners i) house (owner_here table i house in_table);
      })

  same_length : length without ≡ length deal
  same_length = cancelled_length (lent_deal booked) owners house place ∙ written_length facts

  elsewhere : (j : ℕ) → j ≢ i → j ≢ slot_of (length booked) place
  elsewhere j ne same = ne (same ∙ here)

  in_booked : (j : ℕ) → j < entry_count (length deal) → j < entry_count (length booked)
  in_booked j h = omega (arith, ap entry_count (written_length facts))

  -- every row is as it was before the booking: slot i is free as it was
  same_row : (j : ℕ) → j < entry_count (length deal) → row_at without j ≡ row_at deal j
  same_row j h =
      elim (ℕ_discrete j i) [
        | yes new ↦
            ap (row_at without) (new ∙ sym here)
            ∙ cancelled_free (lent_deal booked) owners house place written_cancels
            ∙ sym (row_free (length deal) (slot_at deal i) facts.slot_free)
            ∙ ap (row_at deal) (sym new)
        | no ne ↦
            cancelled_row_other (lent_deal booked) owners house place j (in_booked j h) (elsewhere j ne)
            ∙ row_same facts j h ne
      ]

  same_ranges : SameBelow (entry_count (length deal)) (ranges_of without) (ranges_of deal)
  same_ranges j h = ap row_range (same_row j h)

  -- the house holds as many slots
  same_held : held_in without cleared house ≡ held_in deal table house
  same_held =
      let taken = written_held facts table house in_table in
      let back = cancelled_held (lent_deal booked) owners house place written_cancels in
      omega (arith, taken, back)

  -- and so is what its slots keep
  same_keeps : (j : ℕ) → j < entry_count (length deal) → keeps_own (lent_deal deal) table house segment j ≡ false
      → keeps_own (lent_deal without) cleared house segment j ≡ false
  same_keeps j h n =
      elim (ℕ_discrete j i) [
        | yes new ↦
            ap (keeps_own (lent_deal without) cleared house segment) (new ∙ sym here)
            ∙ cancelled_keeps_none (lent_deal booked) owners house place written_cancels house segment
        | no ne ↦
            cancelled_own_other (lent_deal booked) owners house place written_cancels house segment j (in_booked j h)
            (elsewhere j ne)
            ∙ own_same facts table house in_table house segment j h ne
            ∙ n
      ]

  -- the segment and its entry written once more: the deal that the booking left, ..
  written_again : written_deal without segment i o ≡ booked
  unfolding written_deal
  written_again =
      let entry = new_entry segment o in
      let zeros : List ℕ = replicate 64 0 in
      let stored : part without o (length (area_bytes segment)) ≡ area_bytes segment =
      ap (part without o) (area_length facts.bookable)
      ∙ cancelled_below (lent_deal booked) owners house place o (area (length segment))
      (omega (arith, facts.ends, ap index_start (written_length facts)))
      ∙ segment_written facts in
      ap (λ (x : List ℕ). with_slot x i entry)
      (with_area_own without o (area_bytes segment) stored
      ∙ cancelled_is (lent_deal booked) owners house place written_cancels
      ∙ ap (λ (k : ℕ). with_slot booked k zeros) here)
      ∙ with_slot_over booked i zeros sized slot_in refl entry (entry_64 facts)
      ∙ with_slot_own booked i entry (entry_64 facts) (slot_written facts)

  -- .. and its owner: the table that it left
  owned_again : with_owner cleared i house ≡ owners
  owned_again =
      let in_owners : i < length owners = omega (arith, in_table, with_owner_length table i house in_table) in
      ap (λ (t : List ℕ). with_owner t i house)
      (table_is (lent_deal booked) owners house place written_cancels ∙ ap (λ (k : ℕ). with_owner owners k 0) here)
      ∙ owner_over owners i 0 house in_owners
      ∙ owner_over table i house house in_table

-- a house booked a segment with code 0, and cancels its entry
module _ (deal table : List ℕ) (house : ℕ) (segment : List ℕ) (i o : ℕ)
    (e : decision (lent_deal deal) table house segment ≡ Place i o) where
  facts : Fits deal segment i o
  facts = booked_fits (lent_deal deal) table house segment i o e

  ready : BookableFor (lent_deal deal) table house segment
  ready = (booked_unkept (lent_deal deal) table house segment i o e).bookable

  in_table : i < length table
  in_table = booked_slot_in (lent_deal deal) table house segment i o e

  abbrev after : List ℕ
  after = without facts table house ready in_table

  abbrev table_after : List ℕ
  table_after = cleared facts table house ready in_table

  bookable : BookableFor (lent_deal after) table_after house segment
  bookable =
      bookable_after_cancelling (lent_deal (booked facts table house ready in_table))
      (owners facts table house ready in_table) house (place facts table house ready in_table) house segment
      (bookable_for_stays facts table house in_table house segment ready)

  length_back : length after ≡ length deal
  length_back = same_length facts table house ready in_table

  same_lowest : lowest_keeping (lent_deal after) table_after house segment
      ≡ lowest_keeping (lent_deal deal) table house segment
  same_lowest =
      let none = (booked_unkept (lent_deal deal) table house segment i o e).none_keeps in
      ap (λ (d : ℕ). lowest (keeps_own (lent_deal after) table_after house segment) 0 (entry_count d)) length_back
      ∙ lowest_cong (keeps_own (lent_deal after) table_after house segment)
      (keeps_own (lent_deal deal) table house segment)
      0 (entry_count (length deal))
      (λ j a h.
      same_keeps facts table house ready in_table j (omega arith) (none j (omega arith))
      ∙ sym (none j (omega arith)))

  -- the same is decided as before the booking
  same_decision : decision (lent_deal after) table_after house segment ≡ decision (lent_deal deal) table house segment
  same_decision =
      let n = area (length segment) in
      let held = held_in deal table house in
      let lowest_after = lowest_keeping (lent_deal after) table_after house segment in
      decision_is (lent_deal after) table_after house segment bookable
      ∙ ap₂ (λ (d h : ℕ). decide d (ranges_of after) h n lowest_after) length_back
      (same_held facts table house ready in_table)
      ∙ decide_cong (length deal) (ranges_of after) (ranges_of deal) (same_ranges facts table house ready in_table) held
      n lowest_after
      ∙ ap (decide (length deal) (ranges_of deal) held n) same_lowest
      ∙ sym (decision_is (lent_deal deal) table house segment ready)

  same_answer_lem : book_answer (lent_deal after) table_after house segment
      ≡ book_answer (lent_deal deal) table house segment
  same_answer_lem =
      answer_is (lent_deal after) table_after house segment (Place i o) (same_decision ∙ e)
      ∙ ap (λ (d : ℕ). record { code = 0; offset = o; place = slot_place d i }) length_back
      ∙ sym (answer_is (lent_deal deal) table house segment (Place i o) e)

  same_deal : booked_deal (lent_deal after) table_after house segment ≡ booked_deal (lent_deal deal) table house segment
  same_deal =
      booked_is (lent_deal after) table_after house segment i o (same_decision ∙ e)
      ∙ written_again facts table house ready in_table
      ∙ sym (booked_is (lent_deal deal) table house segment i o e)

  same_table : booked_table (lent_deal after) table_after house segment
      ≡ booked_table (lent_deal deal) table house segment
  same_table =
      booked_table_is (lent_deal after) table_after house segment i o (same_decision ∙ e)
      ∙ owned_again facts table house ready in_table
      ∙ sym (booked_table_is (lent_deal deal) table house segment i o e)

  -- what the booking wrote, and the place that it answered
  abbrev booked_now : List ℕ
  booked_now = booked_deal (lent_deal deal) table house segment

  abbrev owners_now : List ℕ
  owners_now = booked_table (lent_deal deal) table house segment

  abbrev place_now : ℕ
  place_now = (book_answer (lent_deal deal) table house segment).place

  place_is : place_now ≡ place facts table house ready in_table
  place_is =
      ap (λ (a : Booked). a.place) (answer_is (lent_deal deal) table house segment (Place i o) e)
      ∙ ap (λ (d : ℕ). slot_place d i) (sym (written_length facts))

  -- what holds of a deal, a table and a place holds of these
  here_too : {A : Type 0} (f : List ℕ → List ℕ → ℕ → A)
      → f booked_now owners_now place_now
      ≡ f (booked facts table house ready in_table) (owners facts table house ready in_table)
      (place facts table house ready in_table)
  here_too f =
      ap₂ (λ (x y : List ℕ). f x y place_now) (booked_is (lent_deal deal) table house segment i o e)
      (booked_table_is (lent_deal deal) table house segment i o e)
      ∙ ap (f (booked facts table house ready in_table) (owners facts table house ready in_table)) place_is

  pub cancels_booked : cancel_code (lent_deal booked_now) owners_now house place_now ≡ 0
  cancels_booked =
      here_too (λ (x y : List ℕ) (p : ℕ). cancel_code (lent_deal x) y house p)
      ∙ written_cancels facts table house ready in_table

  -- the deal and the table that the cancellation leaves
  abbrev left_now : List ℕ
  left_now = cancelled_deal (lent_deal booked_now) owners_now house place_now

  abbrev cleared_now : List ℕ
  cleared_now = cancelled_table (lent_deal booked_now) owners_now house place_now

  left_is : left_now ≡ after
  left_is = here_too (λ (x y : List ℕ) (p : ℕ). cancelled_deal (lent_deal x) y house p)

  cleared_is : cleared_now ≡ table_after
  cleared_is = here_too (λ (x y : List ℕ) (p : ℕ). cancelled_table (lent_deal x) y house p)

  pub again_answer : book_answer (lent_deal left_now) cleared_now house segment
      ≡ book_answer (lent_deal deal) table house segment
  again_answer = ap₂ (λ (x y : List ℕ). book_answer (lent_deal x) y house segment) left_is cleared_is ∙ same_answer_lem

  pub again_deal : booked_deal (lent_deal left_now) cleared_now house segment ≡ booked_now
  again_deal = ap₂ (λ (x y : List ℕ). booked_deal (lent_deal x) y house segment) left_is cleared_is ∙ same_deal

  pub again_table : booked_table (lent_deal left_now) cleared_now house segment ≡ owners_now
  again_table = ap₂ (λ (x y : List ℕ). booked_table (lent_deal x) y house segment) left_is cleared_is ∙ same_table

-- Slot i of a deal is the house's and keeps a segment, no other slot of the house does, and no other standing entry
-- covers a byte of its area; the house holds no more than half the slots, and cancels the entry in slot i.
module _ (deal table : List ℕ) (house : ℕ) (segment : List ℕ) (i : ℕ) (h : i < entry_count (length deal))
    (k : keeps_own (lent_deal deal) table house segment i ≡ true)
    (alone : (j : ℕ) → j < entry_count (length deal) → j ≢ i
    → keeps_own (lent_deal deal) table house segment j ≡ false)
    (uncovered : (j : ℕ) → j < entry_count (length deal) → j ≢ i
    → covers deal (area (length segment)) (offset_in (slot_at deal i)) j ≡ false)
    (quota : 2 * held_in deal table house ≤ entry_count (length deal))
    (e : cancel_code (lent_deal deal) table house (slot_place (length deal) i) ≡ 0) where
  abbrev at : ℕ
  at = slot_place (length deal) i

  abbrev left : List ℕ
  left = cancelled_deal (lent_deal deal) table house at

  abbrev left_table : List ℕ
  left_table = cancelled_table (lent_deal deal) table house at

  abbrev n : ℕ
  n = area (length segment)

  abbrev o : ℕ
  o = offset_in (slot_at deal i)

  left_length : length left ≡ length deal
  left_length = cancelled_length (lent_deal deal) table house at

  in_slot : slot_of (length deal) at ≡ i
  in_slot = slot_back (length deal) i

  other : (j : ℕ) → j ≢ i → j ≢ slot_of (length deal) at
  other j ne same = ne (same ∙ in_slot)

  kept_there : keeps_segment (lent_deal deal) segment i ≡ true
  kept_there = own_keeps (lent_deal deal) table house segment i k

  -- nothing refuses before the slots are looked at, and none of the house's keeps the segment
  unkept : Unkept (lent_deal left) left_table house segment
  unkept =
      let c = (cancels (lent_deal deal) table house at).0 e in
      record {
        bookable =
            bookable_after_cancelling (lent_deal deal) table house at house segment
            (record {
              house_allowed_lem = c.house_allowed_lem;
              table_sized_lem = c.table_sized_lem;
              bookable = keeps_bookable (lent_deal deal) segment i c.not_refused kept_there;
            });
        none_keeps = λ j l.
            elim (ℕ_discrete j i) [
              | yes here ↦
                  ap (keeps_own (lent_deal left) left_table house segment) (here ∙ sym in_slot)
                  ∙ cancelled_keeps_none (lent_deal deal) table house at e house segment
              | no ne ↦
                  let l' : j < entry_count (length deal) = omega (arith, ap entry_count left_length) in
                  cancelled_own_other (lent_deal deal) table house at e house segment j l' (other j ne) ∙ alone j l' ne
            ];
      }

  -- the house holds fewer than half the slots, ..
  below_half : 2 * held_in left left_table house < entry_count (length left)
  below_half =
      let q = quota in
      let less = cancelled_held (lent_deal deal) table house at e in
      omega (arith, less, ap entry_count left_length)

  -- .. slot i is free, and the segment fits where it was
  slot_free : is_empty (ranges_of left i) ≡ true
  slot_free =
      ap (λ (j : ℕ). is_empty (ranges_of left j)) (sym in_slot)
      ∙ ap (λ (r : Row). is_empty (row_range r)) (cancelled_free (lent_deal deal) table house at e)

  fits_there : fits (ranges_of left) (entry_count (length left)) n o ≡ true
  fits_there =
      ap (λ (d : ℕ). fits (ranges_of left) (entry_count d) n o) left_length
      ∙ (cancelled_room (lent_deal deal) table house at e n o).1
      (λ j l ne. uncovered j l (λ same. ne (same ∙ sym in_slot)))

  was : SegmentPlace (length deal) o (length segment)
  was =
      subst (SegmentPlace (length deal) o) (keeps_parts (lent_deal deal) segment i kept_there).1
      (standing_place (length deal) (slot_at deal i) (cancelled_sized (lent_deal deal) table house at e)
      (keeps_stands (lent_deal deal) segment i kept_there))

  pub cancelled_books : (book_answer (lent_deal left) left_table house segment).code ≡ 0
  cancelled_books = by_decision (decision (lent_deal left) left_table house segment) refl
    where
      in_left : i < entry_count (length left)
      in_left = omega (arith, h, ap entry_count left_length)

      ends_left : o + n ≤ index_start (length left)
      ends_left = omega (arith, was.ends, ap index_start left_length)

      none_refuses : (code : ℕ) → decision (lent_deal left) left_table house segment ≡ Refuse code → ⊥
      none_refuses code q =
          let refused = sym (decision_is (lent_deal left) left_table house segment unkept.bookable) ∙ q in
          let keeping = lowest_keeping (lent_deal left) left_table house segment in
          let held = held_in left left_table house in
          ⊎_elim
          (λ c.
          let half = ((half_held (lent_deal left) left_table house segment).0 (q ∙ ap Refuse c)).1 in
          omega (arith, below_half, leb-true (entry_count (length left)) (2 * held) half))
          (λ later.
          ⊎_elim
          (λ c.
          let none = ((no_slot (lent_deal left) left_table house segment).0 (q ∙ ap Refuse c)).2.none_free in
          true≢false (sym slot_free ∙ none i in_left))
          (λ c.
          let none = ((no_place (lent_deal left) left_table house segment).0 (q ∙ ap Refuse c)).2.none_fits in
          true≢false (sym fits_there ∙ none o was.aligned ends_left))
          later)
          (decides_refused (length left) (ranges_of left) held n keeping code refused)

      by_decision : (x : Decision) → decision (lent_deal left) left_table house segment ≡ x
          → (book_answer (lent_deal left) left_table house segment).code ≡ 0
      by_decision (Refuse code) q = absurd (none_refuses code q)
      by_decision (Already j) q =
          let a = ((kept_already (lent_deal left) left_table house segment j).0 q).lowest_keeping_lem in
          absurd (true≢false (sym a.passes ∙ unkept.none_keeps j (omega (arith, a.below))))
      by_decision (Place j p) q =
          ap (λ (b : Booked). b.code) (answer_is (lent_deal left) left_table house segment (Place j p) q)
