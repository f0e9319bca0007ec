-- What writing a segment and its entry changes, and that nothing else changes: the segment's area, its slot, and their
-- consequences for rows, kept entries and stray bits.
use Rattle.std.specs.Prelude.{◌≡◌, refl, Bool, true, false, ◌≢◌, ℕ, ◌+◌, ◌*◌, ◌/◌, ◌%◌, ◌^◌, ◌≤◌, ◌<◌, List, length}
use Rattle.std.proofs.Common.{sym, ap₂, ◌∙◌, subst, true≢false, ⊎_elim, inl, inr, add-zero, arith}
use Rattle.std.proofs.Math.Path.{ap}
use borrow.Author.Tests.{eq-eqb, le-leb}
use Rattle.octets.specs.Bytes.{Bytes}
use Rattle.octets.specs.FillLaws.{bytes_filled, filled_head}
use Rattle.octets.specs.Splice.{part, splice}
use Rattle.octets.specs.SpliceLaws.{part_part}
use Rattle.merkle.specs.Tree.{commitment_of, node_at}
use Rattle.merkle.specs.TreeLaws.{commitment_length, commitment_clear, commitment_bytes}
use Rattle.stray.specs.StrayBits.{clear_node, no_stray_bits}
use Rattle.stray.specs.StrayBitsLaws.{clear_node_lem}
use Rattle.sizes.specs.Sizes.{area, entry_count, index_start, offset_allowed, slot_place, segment_level}
use Rattle.sizes.specs.SizesLaws.{DealSize, SegmentSize, SegmentPlace, segment_place, index_start_le}
use Rattle.entries.specs.Entry.{offset_in, size_in}
use Rattle.entries.specs.EntryLaws.{entry_length, offset_back, size_back}
use Rattle.entries.specs.MadeLaws.{made_bytes, made_clear}
use Rattle.lent.specs.LentDeal.{lent_deal}
use Rattle.index.specs.Slots.{slot_at, standing, kept, kept_at, holds, row_of, row_at, row_offset, row_area, Row}
use Rattle.index.specs.SlotsLaws.{made_kept, made_row}
use Rattle.index.specs.KeptLaws.{row_stands, row_free, segment_node}
use Rattle.index.specs.KeptRows.{area_of}
use Rattle.index.specs.KeptRowsLaws.{row_ends}
use Rattle.index.specs.Written.{with_slot, with_area}
use Rattle.index.specs.SlotWrittenLaws as S
use Rattle.index.specs.AreaWrittenLaws as A
use Rattle.index.specs.AreaWrittenLaws.{Apart}
use Rattle.room.specs.Room.{overlap}
use Rattle.room.specs.OverlapLaws.{overlap_false, multiple}
use Rattle.booking.specs.Write.{area_bytes, segment_commitment, new_entry, written_deal, written_at}
use Rattle.booking.specs.BookableLaws.{Bookable, bookable_deal, bookable_segment, area_length}

-- there is room for that: slot i is free, and the area at the offset is apart from every standing entry's
pub record Fits (deal segment : List ℕ) (i o : ℕ) : Type 0 where
  pub bookable : Bookable (lent_deal deal) segment
  pub slot_in : i < entry_count (length deal)
  pub slot_free : standing (length deal) (slot_at deal i) ≡ false
  pub aligned : o % area (length segment) ≡ 0
  pub ends : o + area (length segment) ≤ index_start (length deal)
  pub apart : (j : ℕ) → j < entry_count (length deal) → standing (length deal) (slot_at deal j) ≡ true
      → overlap o (area (length segment)) (offset_in (slot_at deal j)) (area (size_in (slot_at deal j))) ≡ false

module _ {deal segment : List ℕ} {i o : ℕ} (facts : Fits deal segment i o) where
  -- the deal with the area written, and with the entry too
  abbrev half : List ℕ
  half = with_area deal o (area_bytes segment)

  abbrev after : List ℕ
  after = written_deal deal segment i o

  sized : DealSize (length deal)
  sized = (bookable_deal facts.bookable).deal

  segment_sized : SegmentSize (length deal) (length segment)
  segment_sized = bookable_segment facts.bookable

  -- the area's and the entry's lengths, and where they lie
  area_all : length (area_bytes segment) ≡ area (length segment)
  area_all = area_length facts.bookable

  area_ends : o + length (area_bytes segment) ≤ index_start (length deal)
  area_ends = omega (arith, area_all, facts.ends)

  commitment_32 : length (segment_commitment segment) ≡ 32
  commitment_32 =
      commitment_length (segment_level (length segment)) (area_bytes segment)
      (omega (arith, area_all, segment_sized.area_is))

  pub entry_64 : length (new_entry segment o) ≡ 64
  entry_64 = entry_length (segment_commitment segment) o (length segment) commitment_32

  half_length : length half ≡ length deal
  half_length = A.with_area_length deal o (area_bytes segment) sized area_ends

  half_sized : DealSize (length half)
  half_sized = subst DealSize (sym half_length) sized

  in_half : (j : ℕ) → j < entry_count (length deal) → j < entry_count (length half)
  in_half j h = omega (arith, ap entry_count half_length)

  slot_in_half : i < entry_count (length half)
  slot_in_half = in_half i facts.slot_in

  pub written_length : length after ≡ length deal
  unfolding written_deal
  written_length = S.with_slot_length half i (new_entry segment o) half_sized slot_in_half entry_64 ∙ half_length

  -- the same by the entry's place
  pub written_at_lem : written_at deal segment (segment_commitment segment) o (slot_place (length deal) i) ≡ after
  unfolding written_deal with_slot with_area
  written_at_lem = ap (λ (d : ℕ). splice half (slot_place d i) (new_entry segment o)) (sym half_length)

  pub written_bytes_lem : Bytes deal → Bytes segment → Bytes after
  unfolding written_deal
  written_bytes_lem b c =
      let bytes = bytes_filled (area (length segment)) segment c in
      S.with_slot_bytes half i (new_entry segment o) half_sized slot_in_half entry_64
      (A.with_area_bytes deal o (area_bytes segment) sized area_ends b bytes)
      (made_bytes (segment_commitment segment) o (length segment)
      (commitment_bytes (segment_level (length segment)) (area_bytes segment) bytes))

  -- below the index: the segment and the zeros after it stand at its offset, and what is apart from its area is as it
  -- was
  below_index : (at n : ℕ) → at + n ≤ index_start (length deal) → part after at n ≡ part half at n
  unfolding written_deal
  below_index at n h =
      S.with_slot_below half i (new_entry segment o) half_sized slot_in_half entry_64 at n
      (omega (arith, ap index_start half_length))

  pub segment_written : part after o (area (length segment)) ≡ area_bytes segment
  segment_written =
      below_index o (area (length segment)) facts.ends
      ∙ ap (part half o) (sym area_all)
      ∙ A.with_area_here deal o (area_bytes segment) sized area_ends

  -- of which the first bytes are the segment itself
  pub view_written : part after o (length segment) ≡ segment
  view_written =
      let z = segment_sized.size_area in
      let e = facts.ends in
      ap (λ (at : ℕ). part after at (length segment)) (sym (add-zero o))
      ∙ sym
      (part_part after o (area (length segment)) 0 (length segment) (omega arith)
      (omega (arith, written_length, index_start_le (length deal))))
      ∙ ap (λ (x : List ℕ). part x 0 (length segment)) segment_written
      ∙ filled_head (area (length segment)) segment

  pub part_same : (at n : ℕ) → at + n ≤ index_start (length deal) → overlap o (area (length segment)) at n ≡ false
      → part after at n ≡ part deal at n
  part_same at n h a =
      below_index at n h
      ∙ A.with_area_other deal o (area_bytes segment) sized area_ends at n
      (omega (arith, index_start_le (length deal)))
      (⊎_elim (λ before. inl before) (λ later. inr (omega (arith, area_all)))
      ((overlap_false o (area (length segment)) at n).0 a))

  -- the index: slot i holds the new entry, and every other slot what it held
  pub slot_written : slot_at after i ≡ new_entry segment o
  unfolding written_deal
  slot_written = S.with_slot_here half i (new_entry segment o) half_sized slot_in_half entry_64

  pub slot_same : (j : ℕ) → j < entry_count (length deal) → j ≢ i → slot_at after j ≡ slot_at deal j
  unfolding written_deal
  slot_same j h ne =
      S.with_slot_other half i (new_entry segment o) half_sized slot_in_half entry_64 j (in_half j h) ne
      ∙ A.with_area_slot deal o (area_bytes segment) sized area_ends j h

  -- the new entry's fields
  deal_high : index_start (length deal) ≤ 2 ^ 24
  deal_high = omega (arith, index_start_le (length deal), (bookable_deal facts.bookable).lent_high)

  offset_8 : o < 256 ^ 8
  offset_8 = omega (arith, facts.ends, deal_high)

  size_8 : length segment < 256 ^ 8
  size_8 = omega (arith, facts.ends, segment_sized.size_area, deal_high)

  pub offset_written : offset_in (slot_at after i) ≡ o
  offset_written =
      ap offset_in slot_written ∙ offset_back (segment_commitment segment) o (length segment) commitment_32 offset_8

  pub size_written : size_in (slot_at after i) ≡ length segment
  size_written =
      ap size_in slot_written ∙ size_back (segment_commitment segment) o (length segment) commitment_32 size_8

  offset_fits : offset_allowed (length deal) o (length segment) ≡ true
  unfolding offset_allowed
  offset_fits =
      rw (
        eq-eqb (o % area (length segment)) 0 facts.aligned,
        le-leb (o + area (length segment)) (index_start (length deal)) facts.ends,
      )

  -- rows
  pub row_written : row_at after i ≡ holds (segment_commitment segment) o (length segment)
  row_written =
      ap₂ row_of written_length slot_written
      ∙ made_row (length deal) (segment_commitment segment) o (length segment) commitment_32 offset_8
      size_8 facts.bookable.segment_allowed offset_fits

  pub row_same : (j : ℕ) → j < entry_count (length deal) → j ≢ i → row_at after j ≡ row_at deal j
  row_same j h ne = ap₂ row_of written_length (slot_same j h ne)

  -- no stray bits come in: segment, commitment and checksum have none
  commitment_clean : clear_node (segment_commitment segment) ≡ true
  commitment_clean =
      clear_node_lem (segment_commitment segment)
      (commitment_clear (segment_level (length segment)) (area_bytes segment) (omega (arith, segment_sized.level_low)))

  half_clear : no_stray_bits half ≡ true
  half_clear =
      let n : ℕ = area (length segment) in
      let nodes : ℕ = 2 ^ segment_level (length segment) in
      let at : o ≡ o / n * nodes * 32 =
      multiple o n facts.aligned ∙ ap (λ (m : ℕ). o / n * m) segment_sized.area_is ∙ omega arith in
      A.with_area_clear deal o (area_bytes segment) sized area_ends (o / n * nodes) nodes at
      (omega (arith, area_all, segment_sized.area_is)) facts.bookable.deal_clear facts.bookable.segment_clear

  pub written_clear : no_stray_bits after ≡ true
  unfolding written_deal
  written_clear =
      S.with_slot_clear half i (new_entry segment o) half_sized slot_in_half entry_64 half_clear
      (made_clear (segment_commitment segment) o (length segment) commitment_32 commitment_clean)

  -- slot i was free, so every standing entry is in another
  pub stands_elsewhere : (j : ℕ) → standing (length deal) (slot_at deal j) ≡ true → j ≢ i
  stands_elsewhere j s same =
      true≢false (sym s ∙ ap (λ (x : ℕ). standing (length deal) (slot_at deal x)) same ∙ facts.slot_free)

  -- the new entry is kept; of every other slot it is the same whether it keeps its entry
  pub kept_written : kept_at (lent_deal after) i ≡ true
  kept_written =
      let place : SegmentPlace (length deal) o (length segment) =
      segment_place (length deal) o (length segment) sized segment_sized offset_fits in
      ap₂ (kept (node_at after)) written_length slot_written
      ∙ made_kept (length deal) (segment_commitment segment) o (length segment) commitment_32 offset_8
      size_8 (node_at after) facts.bookable.segment_allowed offset_fits
      (segment_node after (length deal) o (length segment) segment_sized place
      ∙ ap (commitment_of (segment_level (length segment))) segment_written)

  row_apart : (j : ℕ) → j < entry_count (length deal)
      → Apart (row_offset (row_at deal j)) (row_area (row_at deal j)) o (length (area_bytes segment))
  row_apart j h = by_test (standing (length deal) (slot_at deal j)) refl
    where
      by_test : (b : Bool) → standing (length deal) (slot_at deal j) ≡ b
          → Apart (row_offset (row_at deal j)) (row_area (row_at deal j)) o (length (area_bytes segment))
      by_test true s =
          rw (row_stands (length deal) (slot_at deal j) s)
          (⊎_elim (λ before. inl before) (λ later. inr (omega (arith, area_all)))
          ((overlap_false o (area (length segment)) (offset_in (slot_at deal j)) (area (size_in (slot_at deal j)))).0
          (facts.apart j h s)))
      by_test false s = rw (row_free (length deal) (slot_at deal j) s) (inl (omega arith))

  -- the bytes of every other slot's area are as they were
  pub area_same : (j : ℕ) → j < entry_count (length deal) → area_of after (row_at deal j) ≡ area_of deal (row_at deal j)
  area_same j h =
      let row : Row = row_at deal j in
      part_same (row_offset row) (row_area row) (row_ends (length deal) (slot_at deal j) sized)
      ((overlap_false o (area (length segment)) (row_offset row) (row_area row)).1
      (⊎_elim (λ before. inl before) (λ later. inr (omega (arith, area_all))) (row_apart j h)))

  pub kept_same : (j : ℕ) → j < entry_count (length deal) → j ≢ i
      → kept_at (lent_deal after) j ≡ kept_at (lent_deal deal) j
  unfolding written_deal
  kept_same j h ne =
      S.with_slot_kept_other half i (new_entry segment o) half_sized slot_in_half entry_64 j (in_half j h) ne
      ∙ A.with_area_kept deal o (area_bytes segment) sized area_ends j h (row_apart j h)
