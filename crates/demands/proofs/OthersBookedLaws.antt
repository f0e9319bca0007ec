-- Deals that differ in another's segment alone: those in which another house booked the one or the other of two
-- segments of one size. In both the areas stay apart where they were.
use Rattle.std.specs.Prelude.{◌≡◌, refl, false, ◌≢◌, ℕ, ◌+◌, ◌<◌, List, length, get_or, eqb}
use Rattle.std.proofs.Common.{sym, ap, ◌∙◌, subst, true≢false, arith, ne_eqb}
use Rattle.std.proofs.Math.Decide.{ℕ_discrete}
use Rattle.octets.specs.SpliceLaws.{get_d_part}
use Rattle.sizes.specs.Sizes.{area, entry_count, index_start}
use Rattle.lent.specs.LentDeal.{lent_deal}
use Rattle.index.specs.Slots.{holds, row_at, Row}
use Rattle.room.specs.Room.{overlap, overlaps}
use Rattle.room.specs.OverlapLaws.{overlap_sym}
use Rattle.room.specs.DecideLaws.{Places}
use Rattle.room.specs.Decide.{Place}
use Rattle.ranges.specs.Ranges.{ranges_of}
use Rattle.houses.specs.Houses.{owned, with_owner}
use Rattle.houses.specs.HousesLaws.{owner_here}
use Rattle.booking.specs.Write.{segment_commitment, written_deal}
use Rattle.booking.specs.WriteLaws.{Fits, written_length, written_clear, part_same, slot_same, row_written, row_same}
use Rattle.booking.specs.Booking.{decision, book_answer, booked_deal, booked_table}
use Rattle.booking.proofs.BookingLaws.{books, code_0}
use Rattle.booking.proofs.BookedLaws.{booked_fits, booked_is, booked_table_is, booked_slot_in}
use Rattle.demands.proofs.CancelRoomLaws.{covers_range}
use Rattle.demands.specs.NoneOverlap.{NoneOverlap}
use Rattle.demands.proofs.NoneOverlapLaws.{range_new, written_apart}
use Rattle.demands.specs.OthersChanged.{OthersChanged}

-- a segment was written in slot k at the offset o
module _ {deal segment : List ℕ} {k o : ℕ} (facts : Fits deal segment k o) where
  abbrev after : List ℕ
  after = written_deal deal segment k o

  abbrev n : ℕ
  n = area (length segment)

  -- a byte below the index outside the area is as it was
  byte_same : (p : ℕ) → p < index_start (length deal) → overlap p 1 o n ≡ false → get_or after p 0 ≡ get_or deal p 0
  byte_same p h e =
      let at : p ≡ p + 0 = omega arith in
      ap (λ (q : ℕ). get_or after q 0) at
      ∙ sym (get_d_part after p 1 0 (omega arith))
      ∙ ap (λ (x : List ℕ). get_or x 0 0) (part_same facts p 1 (omega arith) (overlap_sym o n p 1 ∙ e))
      ∙ get_d_part deal p 1 0 (omega arith)
      ∙ ap (λ (q : ℕ). get_or deal q 0) (sym at)

-- two segments of one size were written in slot k at the offset o, which is another's than the house's
module _ {deal one two : List ℕ} {k o : ℕ} (first : Fits deal one k o) (second : Fits deal two k o)
    (sizes : length two ≡ length one) (table : List ℕ) (house : ℕ) (foreign : owned table house k ≡ false) where
  abbrev here : List ℕ
  here = written_deal deal one k o

  abbrev there : List ℕ
  there = written_deal deal two k o

  slots_are : entry_count (length here) ≡ entry_count (length deal)
  slots_are = ap entry_count (written_length first)

  -- what is the same of the new rows is the same of all
  same_row : {A : Type 0} (f : Row → A)
      → f (holds (segment_commitment two) o (length two)) ≡ f (holds (segment_commitment one) o (length one))
      → (i : ℕ) → i < entry_count (length here) → f (row_at there i) ≡ f (row_at here i)
  same_row f e i h =
      let h' : i < entry_count (length deal) = omega (arith, slots_are) in
      elim (ℕ_discrete i k) [
        | yes new ↦
            ap (λ (j : ℕ). f (row_at there j)) new
            ∙ ap f (row_written second)
            ∙ e
            ∙ sym (ap f (row_written first))
            ∙ ap (λ (j : ℕ). f (row_at here j)) (sym new)
        | no old ↦ ap f (row_same second i h' old ∙ sym (row_same first i h' old))
      ]

  pub written_changed : OthersChanged table house (written_deal deal one k o) (written_deal deal two k o)
  written_changed =
      record {
        same_length = written_length second ∙ sym (written_length first);
        clear = written_clear first;
        other_clear = written_clear second;
        same_standing = same_row (λ r. r.stands) refl;
        same_sizes = same_row (λ r. r.size) sizes;
        same_offsets = same_row (λ r. r.offset) refl;
        own_entries = λ i h own s.
            let h' : i < entry_count (length deal) = omega (arith, slots_are) in
            let old : i ≢ k = λ new. true≢false (sym own ∙ ap (owned table house) new ∙ foreign) in
            slot_same second i h' old ∙ sym (slot_same first i h' old);
        other_bytes = λ p h none.
            let h' : p < index_start (length deal) = omega (arith, ap index_start (written_length first)) in
            let k' : k < entry_count (length here) = omega (arith, first.slot_in, slots_are) in
            let outside : overlap p 1 o (area (length one)) ≡ false =
            ap (overlaps p 1) (sym (range_new first)) ∙ covers_range here 1 p k ∙ none k k' foreign in
            byte_same second p h' (ap (λ (m : ℕ). overlap p 1 o (area m)) sizes ∙ outside)
            ∙ sym (byte_same first p h' outside);
      }

-- another house than the house books the one or the other, with 0 both
module _ (deal table : List ℕ) (house other : ℕ) (ne : other ≢ house) (one two : List ℕ)
    (sizes : length two ≡ length one) (a : (book_answer (lent_deal deal) table other one).code ≡ 0)
    (b : (book_answer (lent_deal deal) table other two).code ≡ 0) where
  -- the slot and the offset that the one is given
  chosen : (i : ℕ) × (o : ℕ) × (decision (lent_deal deal) table other one ≡ Place i o)
  chosen = (code_0 (lent_deal deal) table other one).0 a

  abbrev k : ℕ
  k = chosen.0

  abbrev o : ℕ
  o = chosen.1

  -- the other is given the same
  given : decision (lent_deal deal) table other two ≡ Place k o
  given =
      let p = (code_0 (lent_deal deal) table other two).0 b in
      let x = (books (lent_deal deal) table other one k o).0 chosen.2 in
      let y = (books (lent_deal deal) table other two p.0 p.1).0 p.2 in
      (books (lent_deal deal) table other two k o).1
      (y.0, y.1, subst (λ (m : ℕ). Places (length deal) (ranges_of deal) (area m) k o) (sym sizes) x.2)

  first : Fits deal one k o
  first = booked_fits (lent_deal deal) table other one k o chosen.2

  second : Fits deal two k o
  second = booked_fits (lent_deal deal) table other two k o given

  pub booked_tables : booked_table (lent_deal deal) table other two ≡ booked_table (lent_deal deal) table other one
  booked_tables =
      booked_table_is (lent_deal deal) table other two k o given
      ∙ sym (booked_table_is (lent_deal deal) table other one k o chosen.2)

  pub booked_changed :
      OthersChanged (booked_table (lent_deal deal) table other one) house (booked_deal (lent_deal deal) table other one)
      (booked_deal (lent_deal deal) table other two)
  booked_changed =
      let in_table = booked_slot_in (lent_deal deal) table other one k o chosen.2 in
      let owners = with_owner table k other in
      let foreign : owned owners house k ≡ false =
      ap (λ (x : ℕ). eqb x house) (owner_here table k other in_table) ∙ ne_eqb other house ne in
      rw (
        booked_is (lent_deal deal) table other one k o chosen.2,
        booked_is (lent_deal deal) table other two k o given,
        booked_table_is (lent_deal deal) table other one k o chosen.2,
      )
      (written_changed first second sizes owners house foreign)

  pub booked_apart : NoneOverlap deal → NoneOverlap (booked_deal (lent_deal deal) table other one)
  booked_apart e =
      subst NoneOverlap (sym (booked_is (lent_deal deal) table other one k o chosen.2)) (written_apart first e)
