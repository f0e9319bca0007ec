-- The rows of the collected deal: that of a standing entry in its new slot, with its commitment and its size as they
-- were, at its new offset; it is kept exactly if it was. The slots past them are free.
use Rattle.std.specs.Prelude.{◌≡◌, refl, true, ℕ, ◌+◌, ◌%◌, ◌^◌, ◌≤◌, ◌<◌, List, length, replicate}
use Rattle.std.proofs.Common.{sym, ap, ap₂, ◌∙◌, subst, arith}
use borrow.Author.Tests.{eq-eqb, le-leb}
use Rattle.octets.specs.Splice.{part}
use Rattle.sizes.specs.Sizes.{area, entry_count, index_start, offset_allowed, slot_place}
use Rattle.sizes.specs.SizesLaws.{DealSize}
use Rattle.entries.specs.Entry.{commitment_in, offset_in, size_in}
use Rattle.entries.specs.EntryLaws.{commitment_back, offset_back, size_back}
use Rattle.lent.specs.LentDeal.{lent_deal}
use Rattle.index.specs.Slots.{slot_at, standing, kept_at, free, holds, row_of, row_at, row_area, Row}
use Rattle.index.specs.SlotsLaws.{stands, answer_stands, made_row, zero_free}
use Rattle.index.specs.KeptLaws.{row_stands, row_free}
use Rattle.index.specs.KeptRows.{area_of, row_kept}
use Rattle.index.specs.KeptRowsLaws.{standing_size, kept_row_lem, row_moved}
use Rattle.index.specs.SlotWrittenLaws.{slot_back}
use Rattle.ranges.specs.Ranges.{ranges_of}
use Rattle.ranges.specs.RangesLaws.{range_power}
use Rattle.packing.specs.Order.{ranges_count}
use Rattle.packing.specs.PackingLaws.{new_aligned}
use Rattle.collect.specs.Collect.{slot_to, offset_to, place_to, collected_deal}
use Rattle.collect.specs.Collectable.{Collectable}
use Rattle.collect.proofs.MovesLaws.{stands_full, commitment_length, sized, index_ends, area_ends}
use Rattle.collect.proofs.CollectLaws.{collected_length, collected_area, collected_blank, collected_slot}

-- the place of slot j moves to the place of its new slot
pub place_moves : (deal : List ℕ) (j : ℕ)
    → place_to deal (slot_place (length deal) j) ≡ slot_place (length deal) (slot_to deal j)
unfolding place_to
place_moves deal j = ap (λ (k : ℕ). slot_place (length deal) (slot_to deal k)) (slot_back (length deal) j)

module _ {deal : List ℕ} (c : Collectable deal) where
  pub collected_free : (x : ℕ) → ranges_count (ranges_of deal) (entry_count (length deal)) ≤ x
      → x < entry_count (length deal) → row_at (collected_deal deal) x ≡ free
  collected_free x a b =
      ap₂ row_of (collected_length c) (collected_blank c x a b)
      ∙ row_free (length deal) (replicate 64 0) (zero_free (length deal))

  -- a standing entry
  module _ (j : ℕ) (h : j < entry_count (length deal)) (e : standing (length deal) (slot_at deal j) ≡ true) where
    abbrev entry : List ℕ
    entry = slot_at deal j

    abbrev moved : List ℕ
    moved = slot_at (collected_deal deal) (slot_to deal j)

    was : row_at deal j ≡ holds (commitment_in entry) (offset_in entry) (size_in entry)
    was = row_stands (length deal) entry e

    commitment_32 : length (commitment_in entry) ≡ 32
    commitment_32 = commitment_length deal (sized c) j h

    -- its new offset is allowed
    ends : offset_to deal j + area (size_in entry) ≤ index_start (length deal)
    ends = omega (arith, area_ends c j h, ap row_area was)

    aligned : offset_to deal j % area (size_in entry) ≡ 0
    aligned =
        ap (λ (r : Row). offset_to deal j % row_area r) (sym was)
        ∙ new_aligned (ranges_of deal) (entry_count (length deal))
        (λ i l. range_power (length deal) (slot_at deal i)) j h
        (stands_full deal (sized c) j e)

    allowed : offset_allowed (length deal) (offset_to deal j) (size_in entry) ≡ true
    unfolding offset_allowed
    allowed =
        rw (
          eq-eqb (offset_to deal j % area (size_in entry)) 0 aligned,
          le-leb (offset_to deal j + area (size_in entry)) (index_start (length deal)) ends,
        )

    -- both numbers fit their 8 bytes
    offset_fits : offset_to deal j < 256 ^ 8
    offset_fits = omega (arith, ends, index_ends c, (sized c).size_high)

    size_fits : size_in entry < 256 ^ 8
    size_fits =
        omega (
          arith,
          (standing_size (length deal) entry (sized c) e).size_area,
          ends,
          index_ends c,
          (sized c).size_high,
        )

    pub collected_row : row_at (collected_deal deal) (slot_to deal j)
        ≡ holds (row_at deal j).commitment (offset_to deal j) (row_at deal j).size
    collected_row =
        ap₂ row_of (collected_length c) (collected_slot c j h e)
        ∙ made_row (length deal) (commitment_in entry) (offset_to deal j) (size_in entry) commitment_32 offset_fits
        size_fits (stands (length deal) entry e).size_allowed allowed
        ∙ ap (λ (r : Row). holds r.commitment (offset_to deal j) r.size) (sym was)

    pub moved_stands :
        standing (length (collected_deal deal)) (slot_at (collected_deal deal) (slot_to deal j)) ≡ true
    moved_stands =
        (answer_stands (length (collected_deal deal)) moved (row_at (collected_deal deal) (slot_to deal j)) refl
        (ap (λ (r : Row). r.stands) collected_row)).is_standing

    -- its fields, one by one
    pub moved_commitment :
        commitment_in (slot_at (collected_deal deal) (slot_to deal j)) ≡ commitment_in (slot_at deal j)
    moved_commitment =
        ap commitment_in (collected_slot c j h e)
        ∙ commitment_back (commitment_in entry) (offset_to deal j) (size_in entry) commitment_32

    pub moved_offset : offset_in (slot_at (collected_deal deal) (slot_to deal j)) ≡ offset_to deal j
    moved_offset =
        ap offset_in (collected_slot c j h e)
        ∙ offset_back (commitment_in entry) (offset_to deal j) (size_in entry) commitment_32 offset_fits

    pub moved_size : size_in (slot_at (collected_deal deal) (slot_to deal j)) ≡ size_in (slot_at deal j)
    moved_size =
        ap size_in (collected_slot c j h e)
        ∙ size_back (commitment_in entry) (offset_to deal j) (size_in entry) commitment_32 size_fits

    -- all bytes of its area
    pub moved_area : part (collected_deal deal) (offset_to deal j) (area (size_in (slot_at deal j)))
        ≡ part deal (offset_in (slot_at deal j)) (area (size_in (slot_at deal j)))
    moved_area =
        ap (λ (r : Row). part (collected_deal deal) (offset_to deal j) (row_area r)) (sym was)
        ∙ collected_area c j h
        ∙ ap (area_of deal) was

    pub collected_kept : kept_at (lent_deal (collected_deal deal)) (slot_to deal j) ≡ kept_at (lent_deal deal) j
    collected_kept =
        let new = collected_deal deal in
        let here = holds (commitment_in entry) (offset_to deal j) (size_in entry) in
        let row_is : row_at new (slot_to deal j) ≡ here =
        collected_row ∙ ap (λ (r : Row). holds r.commitment (offset_to deal j) r.size) was in
        kept_row_lem (length new) moved (subst DealSize (sym (collected_length c)) (sized c)) new
        ∙ ap (λ (r : Row). row_kept r (area_of new r)) row_is
        ∙ ap (row_kept here) moved_area
        ∙ row_moved (commitment_in entry) (offset_in entry) (offset_to deal j) (size_in entry) _
        ∙ sym (ap (λ (r : Row). row_kept r (area_of deal r)) was)
        ∙ sym (kept_row_lem (length deal) entry (sized c) deal)
