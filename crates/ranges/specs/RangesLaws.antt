-- The ranges of a deal's slots: a slot is free, without a standing entry, exactly if it takes up no bytes. The bytes of
-- any other slot are a power of two from 128 on, at a multiple of their number, and end by the index start.
use Rattle.std.specs.Prelude.{◌≡◌, refl, Bool, true, false, not, ◌⊎◌, List, ℕ, ◌*◌, ◌%◌, ◌^◌, ◌≤◌, length}
use Rattle.std.proofs.Common.{ap, sym, ◌∙◌, true≢false, inl, inr, arith, ne_eqb}
use Rattle.entries.specs.Entry.{offset_in, size_in}
use Rattle.sizes.specs.Sizes.{area, lent_size_allowed, index_start, entry_count, segment_level, segment_position}
use Rattle.sizes.specs.AreaLaws.{area_doubled, area_is_doubled}
use Rattle.sizes.specs.SizesLaws.{DealSize, lent_size, index_start_le}
use Rattle.index.specs.KeptLaws.{row_stands, row_free}
use Rattle.index.specs.KeptRowsLaws.{standing_size, standing_place, row_ends}
use Rattle.index.specs.Slots.{standing, slot_at, row_of, row_offset, row_area}
use Rattle.room.specs.Room.{Range, range, SameBelow, EndBy, Bounded, ranges_in, is_empty}
use Rattle.ranges.specs.Ranges.{row_range, ranges_of}

module _ (d : ℕ) (entry : List ℕ) where
  -- the range of a standing entry
  pub range_stands : standing d entry ≡ true
      → row_range (row_of d entry) ≡ range (offset_in entry) (area (size_in entry))
  range_stands e = ap row_range (row_stands d entry e)

  pub range_empty : DealSize d → is_empty (row_range (row_of d entry)) ≡ not (standing d entry)
  range_empty t = by_test (standing d entry) refl
    where
      by_test : (b : Bool) → standing d entry ≡ b → is_empty (row_range (row_of d entry)) ≡ not b
      by_test true e =
          let z = standing_size d entry t e in
          rw (row_stands d entry e) (ne_eqb (area (size_in entry)) 0 (λ q. omega (arith, z.area_low)))
      by_test false e = rw (row_free d entry e)

  pub empty_free : DealSize d → is_empty (row_range (row_of d entry)) ≡ true → standing d entry ≡ false
  empty_free t h = by_test (standing d entry) refl
    where
      by_test : (b : Bool) → standing d entry ≡ b → b ≡ false
      by_test true e = absurd (true≢false (sym h ∙ range_empty t ∙ ap not e))
      by_test false e = refl

  -- a free slot takes up no bytes, from 0
  pub range_free : standing d entry ≡ false → row_range (row_of d entry) ≡ range 0 0
  range_free e = ap row_range (row_free d entry e)

  pub empty_start : DealSize d → is_empty (row_range (row_of d entry)) ≡ true → row_offset (row_of d entry) ≡ 0
  empty_start t h = ap (λ (r : Range). r.offset) (range_free (empty_free t h))

  -- a standing entry's area is a power of two from 128 on
  pub range_power : (row_area (row_of d entry) ≡ 0) ⊎ ((k : ℕ) × (7 ≤ k) × (row_area (row_of d entry) ≡ 2 ^ k))
  range_power = by_test (standing d entry) refl
    where
      by_test : (b : Bool) → standing d entry ≡ b
          → (row_area (row_of d entry) ≡ 0) ⊎ ((k : ℕ) × (7 ≤ k) × (row_area (row_of d entry) ≡ 2 ^ k))
      by_test true e =
          let size = size_in entry in
          rw (row_stands d entry e) (inr ((area_doubled size).exponent, (area_doubled size).low, area_is_doubled size))
      by_test false e = inl (ap row_area (row_free d entry e))

  -- the bytes of a slot are whole nodes
  pub range_nodes : DealSize d → (row_offset (row_of d entry) % 32 ≡ 0) × (row_area (row_of d entry) % 32 ≡ 0)
  range_nodes t = by_test (standing d entry) refl
    where
      by_test : (b : Bool) → standing d entry ≡ b
          → (row_offset (row_of d entry) % 32 ≡ 0) × (row_area (row_of d entry) % 32 ≡ 0)
      by_test true e =
          let nodes : ℕ = 2 ^ segment_level (size_in entry) in
          let position : ℕ = segment_position (offset_in entry) (size_in entry) in
          let area_is : area (size_in entry) ≡ 32 * nodes = (standing_size d entry t e).area_is in
          let at : offset_in entry ≡ position * nodes * 32 =
          (standing_place d entry t e).at_position ∙ ap (λ (n : ℕ). position * n) area_is ∙ omega arith in
          rw (row_stands d entry e) (omega arith, omega arith)
      by_test false e = rw (row_free d entry e) (refl, refl)

-- all end by the index start
pub ranges_end : (deal : List ℕ) → DealSize (length deal)
    → EndBy (index_start (length deal)) (entry_count (length deal)) (ranges_of deal)
ranges_end deal t i h = row_ends (length deal) (slot_at deal i) t

-- and so do those that were gathered of a lent deal
pub gathered_bounded : (deal : List ℕ) (ranges : List Range) → lent_size_allowed (length deal) ≡ true
    → SameBelow (entry_count (length deal)) (ranges_in ranges) (ranges_of deal)
    → Bounded (entry_count (length deal)) ranges
gathered_bounded deal ranges lent gathered i h =
    let l = lent_size (length deal) lent in
    let g = gathered i h in
    omega (
      arith,
      ap (λ (r : Range). r.offset) g,
      ap (λ (r : Range). r.area) g,
      ranges_end deal l.deal i h,
      index_start_le (length deal),
      l.lent_high,
    )
