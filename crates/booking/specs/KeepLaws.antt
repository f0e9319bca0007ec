-- What a slot that keeps a segment holds; and which slots keep a segment after one is written: the new slot keeps it
-- and no other, and every other slot keeps what it kept.
use Rattle.std.specs.Prelude.{◌≡◌, refl, ◌&&◌, ◌≢◌, length}
use Rattle.std.proofs.Common.{sym, ap, ap₂, ◌∙◌, subst, arith}
use Rattle.std.proofs.Math.Bool.{true}
use Prim.Native.Nat.{ℕ, ◌/◌, ◌%◌, ◌<◌}
use mathlib.Core.List.{List}
use Rattle.std.proofs.Math.Dec.{eqb}
use borrow.Author.Tests.{eqb-true, eq-eqb}
use Rattle.rules.specs.RefusalLaws.{and_left, and_right}
use Rattle.octets.specs.Equality.{same_bytes}
use Rattle.octets.specs.EqualityLaws.{same_true, same_of}
use Rattle.octets.specs.FillLaws.{filled_only}
use Rattle.octets.specs.Splice.{part}
use Rattle.stray.specs.StrayBits.{no_stray_bits}
use Rattle.stray.specs.StrayBitsLaws.{part_clear}
use Rattle.sizes.specs.Sizes.{lent_size_allowed, segment_size_allowed, area, entry_count}
use Rattle.sizes.specs.SizesLaws.{DealSize, lent_size, index_start_le}
use Rattle.entries.specs.Entry.{offset_in, size_in}
use Rattle.lent.specs.LentDeal.{LentDeal, lent_deal, deal_size, deal_refusal}
use Rattle.lent.specs.LentDealLaws.{refusal_none}
use Rattle.index.specs.Slots.{slot_at, standing, kept_at, row_at, row_offset, row_area, Row}
use Rattle.index.specs.SlotsLaws.{stands}
use Rattle.index.specs.KeptLaws.{row_stands, kept_stands}
use Rattle.index.specs.KeptRows.{area_of}
use Rattle.index.specs.KeptRowsLaws.{standing_place}
use Rattle.room.specs.OverlapLaws.{multiple}
use Rattle.ranges.specs.RangesLaws.{range_nodes}
use Rattle.booking.specs.Write.{area_bytes, written_deal}
use Rattle.booking.specs.Booking.{keeps_segment}
use Rattle.booking.specs.KeepRows.{row_keeps}
use Rattle.booking.specs.KeepRowsLaws.{keeps_row}
use Rattle.booking.specs.BookableLaws.{Bookable, bookable_deal}
use Rattle.booking.specs.WriteLaws.{
  Fits,
  written_length,
  written_clear,
  segment_written,
  row_same,
  offset_written,
  size_written,
  area_same,
  kept_written,
}

-- what a slot that keeps a segment holds: a kept entry of its size, with its area at the offset
module _ (deal : LentDeal) (segment : List ℕ) (i : ℕ) (e : keeps_segment deal segment i ≡ true) where
  abbrev entry : List ℕ
  entry = slot_at deal.bytes i

  pub keeps_parts :
      (kept_at deal i ≡ true)
      × (size_in (slot_at deal.bytes i) ≡ length segment)
      × (part deal.bytes (offset_in (slot_at deal.bytes i)) (area (length segment)) ≡ area_bytes segment)
  unfolding keeps_segment
  keeps_parts =
      let size = eqb (size_in entry) (length segment) in
      let stored = part deal.bytes (offset_in entry) (area (length segment)) in
      let bytes = same_bytes stored (area_bytes segment) in
      let both = and_right (kept_at deal i) (size && bytes) e in (
        and_left (kept_at deal i) (size && bytes) e,
        eqb-true (size_in entry) (length segment) (and_left size bytes both),
        same_true stored (area_bytes segment) (and_right size bytes both),
      )

  pub keeps_stands : standing (deal_size deal) (slot_at deal.bytes i) ≡ true
  keeps_stands = kept_stands deal.nodes (deal_size deal) entry keeps_parts.0

-- a segment that a slot keeps can be booked in any deal that is not refused itself, as far as the rules go that come
-- before the slots
pub keeps_bookable : (deal : LentDeal) (segment : List ℕ) (i : ℕ) → deal_refusal deal ≡ 0
    → keeps_segment deal segment i ≡ true → Bookable deal segment
keeps_bookable deal segment i z e =
    let d = deal_size deal in
    let entry = slot_at deal.bytes i in
    let rules = refusal_none deal z in
    let sized = (lent_size d rules.0).deal in
    let p = keeps_parts deal segment i e in
    let t = keeps_stands deal segment i e in
    let nodes : (offset_in entry % 32 ≡ 0) × (area (size_in entry) % 32 ≡ 0) =
    subst (λ (r : Row). (row_offset r % 32 ≡ 0) × (row_area r % 32 ≡ 0)) (row_stands d entry t)
    (range_nodes d entry sized) in
    let at = multiple (offset_in entry) 32 nodes.0 in
    let size = multiple (area (size_in entry)) 32 nodes.1 in
    record {
      deal_allowed = rules.0;
      segment_allowed = ap (segment_size_allowed d) (sym p.1) ∙ (stands d entry t).size_allowed;
      deal_clear = rules.1;
      segment_clear =
          ap no_stray_bits (sym p.2 ∙ ap₂ (part deal.bytes) at (ap area (sym p.1) ∙ size))
          ∙ part_clear deal.bytes (offset_in entry / 32) (area (size_in entry) / 32)
          (omega (arith, (standing_place d entry sized t).ends, index_start_le d)) rules.1;
      tree_sized_lem = rules.2;
    }

module _ {deal segment : List ℕ} {i o : ℕ} (facts : Fits deal segment i o) where
  abbrev after : List ℕ
  after = written_deal deal segment i o

  -- the new slot keeps the segment; of every other slot it is the same whether it keeps a segment
  pub keeps_written : keeps_segment (lent_deal after) segment i ≡ true
  unfolding keeps_segment
  keeps_written =
      let new : List ℕ = slot_at after i in
      let size : eqb (size_in new) (length segment) ≡ true =
      eq-eqb (size_in new) (length segment) (size_written facts) in
      let bytes : same_bytes (part after (offset_in new) (area (length segment))) (area_bytes segment) ≡ true =
      same_of (part after (offset_in new) (area (length segment))) (area_bytes segment)
      (ap (λ (at : ℕ). part after at (area (length segment))) (offset_written facts) ∙ segment_written facts) in
      rw (kept_written facts, size, bytes)

  pub keeps_same : (other : List ℕ) (j : ℕ) → j < entry_count (length deal) → j ≢ i
      → keeps_segment (lent_deal after) other j ≡ keeps_segment (lent_deal deal) other j
  keeps_same other j h ne =
      let sized : DealSize (length deal) = (bookable_deal facts.bookable).deal in
      keeps_row after other j (subst DealSize (sym (written_length facts)) sized)
      ∙ ap (λ (r : Row). row_keeps other r (area_of after r)) (row_same facts j h ne)
      ∙ ap (row_keeps other (row_at deal j)) (area_same facts j h)
      ∙ sym (keeps_row deal other j sized)

  -- and keeps no other
  pub keeps_only : (other : List ℕ) → keeps_segment (lent_deal after) other i ≡ true → segment ≡ other
  keeps_only other t =
      let p = keeps_parts (lent_deal after) other i t in
      let n : length segment ≡ length other = sym (size_written facts) ∙ p.1 in
      filled_only (area (length segment)) (area (length other)) segment other n
      (sym (segment_written facts) ∙ ap₂ (λ (at m : ℕ). part after at (area m)) (sym (offset_written facts)) n ∙ p.2)

  -- what else could be booked can be so afterwards, as far as sizes and stray bits go
  pub bookable_stays : (other : List ℕ) → Bookable (lent_deal deal) other → Bookable (lent_deal after) other
  bookable_stays other b =
      record {
        deal_allowed = ap lent_size_allowed (written_length facts) ∙ b.deal_allowed;
        segment_allowed =
            ap (λ (d : ℕ). segment_size_allowed d (length other)) (written_length facts) ∙ b.segment_allowed;
        deal_clear = written_clear facts;
        segment_clear = b.segment_clear;
        tree_sized_lem = refl;
      }
