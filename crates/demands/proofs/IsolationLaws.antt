-- Where only the other's segments are changed: the house's own slots keep what they kept, all slots take up the bytes
-- that they took up, and so the same is decided.
use Rattle.std.specs.Prelude.{◌≡◌, refl, Bool, true, false, ◌&&◌, ◌≢◌, ℕ, ◌+◌, ◌≤◌, ◌<◌, List, [], ◌∷◌, ◌++◌, length}
use Rattle.std.proofs.Common.{sym, ap, ap₂, ◌∙◌, subst, true≢false, inl, inr, ⊎_elim, arith}
use Rattle.std.proofs.Math.Decide.{ℕ_discrete}
use Rattle.rules.specs.Choice.{choose}
use Rattle.rules.specs.Refusals.{rule, first_of, first_refusal}
use Rattle.rules.specs.RefusalLaws.{and_same}
use Rattle.rules.specs.Search.{lowest}
use Rattle.rules.specs.SearchLaws.{lowest_cong}
use Rattle.octets.specs.SpliceLaws.{same_part}
use Rattle.stray.specs.StrayBits.{no_stray_bits}
use Rattle.sizes.specs.Sizes.{lent_size_allowed, segment_size_allowed, area, entry_count, index_start, slot_place, place_allowed}
use Rattle.sizes.specs.SizesLaws.{DealSize, index_start_le, lent_size}
use Rattle.lent.specs.LentDeal.{lent_deal}
use Rattle.lent.specs.LentDealLaws.{answer_refused}
use Rattle.index.specs.Slots.{slot_at, entry_at, standing, row_of, row_at, row_offset, row_area, Row}
use Rattle.index.specs.KeptLaws.{row_stands, row_free}
use Rattle.index.specs.KeptRows.{area_of}
use Rattle.index.specs.KeptRowsLaws.{row_ends}
use Rattle.index.specs.Written.{slot_of}
use Rattle.index.specs.SlotWrittenLaws.{place_slot}
use Rattle.room.specs.Room.{range, SameBelow}
use Rattle.room.specs.Decide.{decide, answer_to, SlotBelow}
use Rattle.room.specs.DecideLaws.{decide_cong, answer_cong}
use Rattle.room.specs.OverlapLaws.{overlap_false}
use Rattle.room.specs.Decide.{Decision}
use Rattle.room.specs.Decide.{Refuse, Already, Place}
use Rattle.ranges.specs.Ranges.{ranges_of}
use Rattle.packing.specs.NoOverlapLaws.{none_overlaps_lem}
use Rattle.houses.specs.Houses.{house_allowed, house_rules, owned, held_count, with_owner}
use Rattle.houses.specs.HousesLaws.{held_cong}
use Rattle.booking.specs.Write.{area_bytes}
use Rattle.booking.specs.Booking.{book_rules, keeps_segment, keeps_own, lowest_keeping, held_in, decision, book_answer, booked_table}
use Rattle.booking.specs.BookableLaws.{not_refused, bookable_deal}
use Rattle.booking.proofs.BookingLaws.{decision_is, kept_already, answer_is}
use Rattle.booking.proofs.BookingLaws as B
use Rattle.booking.proofs.BookedLaws.{booked_fits}
use Rattle.booking.specs.KeepRows.{row_keeps}
use Rattle.booking.specs.KeepRowsLaws.{keeps_row}
use Rattle.cancel.specs.Cancel.{cancel_code, cancelled_table}
use Rattle.cancel.proofs.CancelLaws.{code_cong}
use Rattle.cancel.proofs.OwnerCancelLaws.{refused_table}
use Rattle.cancel.proofs.OwnerCancelLaws as C
use Rattle.demands.proofs.CancelRoomLaws.{covers_range}
use Rattle.demands.specs.NoneOverlap.{NoneOverlap}
use Rattle.demands.specs.OthersChanged.{NotOthers, OthersChanged}

-- a row says whether its entry stands
stands_is : (d : ℕ) (entry : List ℕ) → (row_of d entry).stands ≡ standing d entry
stands_is d entry = by_test (standing d entry) refl
  where
    by_test : (b : Bool) → standing d entry ≡ b → (row_of d entry).stands ≡ b
    by_test true e = ap (λ (r : Row). r.stands) (row_stands d entry e)
    by_test false e = ap (λ (r : Row). r.stands) (row_free d entry e)

module _ {table : List ℕ} {house : ℕ} {deal other : List ℕ} (apart : NoneOverlap deal)
    (c : OthersChanged table house deal other) where
  abbrev d : ℕ
  d = length deal

  -- the slots take up the same bytes
  pub same_ranges : SameBelow (entry_count (length deal)) (ranges_of other) (ranges_of deal)
  same_ranges i h =
      ap₂ (λ (s : Bool) (o : ℕ). range (choose s o 0) (choose s (area (row_at other i).size) 0))
      (c.same_standing i h) (c.same_offsets i h)
      ∙ ap (λ (n : ℕ). range (row_offset (row_at deal i)) (choose (row_at deal i).stands (area n) 0)) (c.same_sizes i h)

  -- the same entries stand
  pub same_stands : (i : ℕ) → i < entry_count (length deal)
      → standing (length other) (slot_at other i) ≡ standing (length deal) (slot_at deal i)
  same_stands i h =
      sym (stands_is (length other) (slot_at other i)) ∙ c.same_standing i h ∙ stands_is d (slot_at deal i)

  -- a slot of the house
  module _ (i : ℕ) (h : i < entry_count (length deal)) (own : owned table house i ≡ true) where
    own_row : row_at other i ≡ row_at deal i
    own_row = by_test (standing d (slot_at deal i)) refl
      where
        by_test : (b : Bool) → standing d (slot_at deal i) ≡ b → row_at other i ≡ row_at deal i
        by_test true e = ap₂ row_of c.same_length (c.own_entries i h own e)
        by_test false e =
            row_free (length other) (slot_at other i) (same_stands i h ∙ e) ∙ sym (row_free d (slot_at deal i) e)

    -- no byte of its area is somebody else's
    own_byte : (p : ℕ) → row_offset (row_at deal i) ≤ p → p < row_offset (row_at deal i) + row_area (row_at deal i)
        → NotOthers deal table house p
    own_byte p low high j g foreign =
        let r = ranges_of deal j in
        let ne : i ≢ j = λ same. true≢false (sym own ∙ ap (owned table house) same ∙ foreign) in
        sym (covers_range deal 1 p j)
        ∙ (overlap_false p 1 r.offset r.area).1
        (⊎_elim (λ before. inl (omega arith)) (λ after. inr (omega arith))
        ((none_overlaps_lem (ranges_of deal) (entry_count d)).0 apart i j h g ne))

    own_area : DealSize (length deal) → area_of other (row_at deal i) ≡ area_of deal (row_at deal i)
    own_area t =
        let o = row_offset (row_at deal i) in
        let n = row_area (row_at deal i) in
        let ends : o + n ≤ index_start d = row_ends d (slot_at deal i) t in
        let low = index_start_le d in
        same_part other deal o o n (omega (arith, c.same_length)) (omega arith)
        (λ k l. c.other_bytes (o + k) (omega arith) (own_byte (o + k) (omega arith) (omega arith)))

    own_keeps : DealSize (length deal) → (segment : List ℕ)
        → keeps_segment (lent_deal other) segment i ≡ keeps_segment (lent_deal deal) segment i
    own_keeps t segment =
        keeps_row other segment i (subst DealSize (sym c.same_length) t)
        ∙ ap (λ (r : Row). row_keeps segment r (area_of other r)) own_row
        ∙ ap (row_keeps segment (row_at deal i)) (own_area t)
        ∙ sym (keeps_row deal segment i t)

  -- the test for 15 passes the same slots
  pub same_own : DealSize (length deal) → (segment : List ℕ) (i : ℕ) → i < entry_count (length deal)
      → keeps_own (lent_deal other) table house segment i ≡ keeps_own (lent_deal deal) table house segment i
  same_own t segment i h =
      and_same (owned table house i) (keeps_segment (lent_deal other) segment i)
      (keeps_segment (lent_deal deal) segment i)
      (λ own. own_keeps i h own t segment)

  -- an entry stands at a place exactly if it did
  pub same_there : DealSize (length deal) → (place : ℕ) → place_allowed (length deal) place ≡ true
      → standing (length other) (entry_at other place) ≡ standing (length deal) (entry_at deal place)
  same_there t place a =
      let at = place_slot d place t a in
      let there : place ≡ slot_place (length other) (slot_of d place) =
      at.1 ∙ ap (λ (n : ℕ). slot_place n (slot_of d place)) (sym c.same_length) in
      ap (λ (p : ℕ). standing (length other) (entry_at other p)) there
      ∙ same_stands (slot_of d place) at.0
      ∙ ap (λ (p : ℕ). standing d (entry_at deal p)) (sym at.1)

  -- booking: the same rules refuse, ..
  module _ (segment : List ℕ) where
    abbrev code_in : List ℕ → ℕ
    code_in x = first_refusal (book_rules (lent_deal x) table house segment)

    same_code : code_in other ≡ code_in deal
    same_code =
        ap₂
        (λ (n : ℕ) (bits : Bool).
        first_refusal
        (house_rules n table house
        ++ (rule (segment_size_allowed n (length segment)) 4
        ∷ rule (bits && no_stray_bits (area_bytes segment)) 11
        ∷ rule true 12
        ∷ [])))
        c.same_length (c.other_clear ∙ sym c.clear)

    refuses : (x : List ℕ) → code_in x ≢ 0 → decision (lent_deal x) table house segment ≡ Refuse (code_in x)
    unfolding decision
    refuses x h =
        answer_refused Refuse
        (decide (length x) (ranges_of x) (held_in x table house) (area (length segment))
        (lowest_keeping (lent_deal x) table house segment))
        (code_in x) h

    -- .. the house holds as many slots, and the same slot of the house is the lowest to keep the segment, ..
    same_held : held_in other table house ≡ held_in deal table house
    same_held =
        ap (λ (n : ℕ). held_count (ranges_of other) table house (entry_count n)) c.same_length
        ∙ held_cong (entry_count d) (ranges_of other) (ranges_of deal) table table house same_ranges (λ i h. refl)

    same_lowest : DealSize (length deal)
        → lowest_keeping (lent_deal other) table house segment ≡ lowest_keeping (lent_deal deal) table house segment
    same_lowest t =
        ap (λ (n : ℕ). lowest (keeps_own (lent_deal other) table house segment) 0 (entry_count n)) c.same_length
        ∙ lowest_cong (keeps_own (lent_deal other) table house segment)
        (keeps_own (lent_deal deal) table house segment) 0
        (entry_count d) (λ i a b. same_own t segment i (omega arith))

    -- .. so the same is decided in the deal's room
    same_room : code_in deal ≡ 0
        → decision (lent_deal other) table house segment ≡ decision (lent_deal deal) table house segment
    same_room z =
        let b = (not_refused (lent_deal deal) table house segment).0 z in
        let n = area (length segment) in
        let keeping = lowest_keeping (lent_deal other) table house segment in
        decision_is (lent_deal other) table house segment
        ((not_refused (lent_deal other) table house segment).0 (same_code ∙ z))
        ∙ ap₂ (λ (m held : ℕ). decide m (ranges_of other) held n keeping) c.same_length same_held
        ∙ decide_cong d (ranges_of other) (ranges_of deal) same_ranges (held_in deal table house) n keeping
        ∙ ap (decide d (ranges_of deal) (held_in deal table house) n) (same_lowest (bookable_deal b.bookable).deal)
        ∙ sym (decision_is (lent_deal deal) table house segment b)

    same_decision : decision (lent_deal other) table house segment ≡ decision (lent_deal deal) table house segment
    same_decision =
        elim (ℕ_discrete (code_in deal) 0) [
          | yes z ↦ same_room z
          | no r ↦ refuses other (λ z. r (sym same_code ∙ z)) ∙ ap Refuse same_code ∙ sym (refuses deal r)
        ]

    -- the slot that is decided on is one of the index
    below : (x : Decision) → decision (lent_deal deal) table house segment ≡ x → SlotBelow (entry_count (length deal)) x
    below (Refuse code) e = tt
    below (Already i) e =
        omega (arith, ((kept_already (lent_deal deal) table house segment i).0 e).lowest_keeping_lem.below)
    below (Place i o) e = (booked_fits (lent_deal deal) table house segment i o e).slot_in

    pub same_answer_lem : book_answer (lent_deal other) table house segment
        ≡ book_answer (lent_deal deal) table house segment
    same_answer_lem =
        let decided = decision (lent_deal deal) table house segment in
        answer_is (lent_deal other) table house segment decided same_decision
        ∙ ap (λ (n : ℕ). answer_to n (ranges_of other) decided) c.same_length
        ∙ answer_cong d (ranges_of other) (ranges_of deal) same_ranges decided (below decided refl)
        ∙ sym (answer_is (lent_deal deal) table house segment decided refl)

    pub same_booked_table :
        booked_table (lent_deal other) table house segment ≡ booked_table (lent_deal deal) table house segment
    same_booked_table =
        let decided = decision (lent_deal deal) table house segment in
        B.table_is (lent_deal other) table house segment decided same_decision
        ∙ sym (B.table_is (lent_deal deal) table house segment decided refl)

  -- cancelling: the same code, by the same tests where the size is allowed, and by the refusals 23 and 2 where not
  module _ (place : ℕ) where
    not_allowed : (x : List ℕ) → lent_size_allowed (length x) ≡ false
        → cancel_code (lent_deal x) table house place ≡ first_of (house_allowed house) 23 2
    unfolding cancel_code
    not_allowed x e = rw e

    pub same_cancel : cancel_code (lent_deal other) table house place ≡ cancel_code (lent_deal deal) table house place
    same_cancel = by_size (lent_size_allowed d) refl
      where
        by_size : (b : Bool) → lent_size_allowed d ≡ b
            → cancel_code (lent_deal other) table house place ≡ cancel_code (lent_deal deal) table house place
        by_size true e =
            code_cong (lent_deal other) (lent_deal deal) table house place c.same_length
            (c.other_clear ∙ sym c.clear) refl
            (λ a.
            same_there (lent_size d e).deal place
            (ap (λ (n : ℕ). place_allowed n place) (sym c.same_length) ∙ a))
        by_size false e =
            not_allowed other (ap lent_size_allowed c.same_length ∙ e) ∙ sym (not_allowed deal e)

    pub same_cancelled_table :
        cancelled_table (lent_deal other) table house place ≡ cancelled_table (lent_deal deal) table house place
    same_cancelled_table =
        elim (ℕ_discrete (cancel_code (lent_deal deal) table house place) 0) [
          | yes z ↦
              C.table_is (lent_deal other) table house place (same_cancel ∙ z)
              ∙ ap (λ (n : ℕ). with_owner table (slot_of n place) 0) c.same_length
              ∙ sym (C.table_is (lent_deal deal) table house place z)
          | no r ↦
              refused_table (lent_deal other) table house place (λ z. r (sym same_cancel ∙ z))
              ∙ sym (refused_table (lent_deal deal) table house place r)
        ]
