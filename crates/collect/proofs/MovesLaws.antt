-- Where the slots of a deal move that can be collected: the laws of packing for the ranges of the deal.
use Rattle.std.specs.Prelude.{◌≡◌, refl, Bool, true, false, not, ℕ, ◌+◌, ◌*◌, ◌≤◌, ◌<◌, List, [], ◌∷◌, length}
use Rattle.std.proofs.Common.{sym, ap, ◌∙◌, arith}
use Rattle.std.proofs.lemmas.Bool.{not-false}
use Rattle.rules.specs.Choice.{choose}
use Rattle.octets.specs.SpliceLaws.{part_length}
use Rattle.sizes.specs.Sizes.{entry_count, index_start, slot_place}
use Rattle.sizes.specs.SizesLaws.{DealSize, lent_size, index_area, index_start_le}
use Rattle.entries.specs.Entry.{entry_of, commitment_in, offset_in, size_in}
use Rattle.entries.specs.EntryLaws.{entry_length}
use Rattle.index.specs.Slots.{slot_at, standing, holds, row_at, row_offset, row_area, Row}
use Rattle.index.specs.KeptLaws.{row_stands, row_free}
use Rattle.index.specs.KeptRowsLaws.{slot_within, row_ends}
use Rattle.room.specs.Room.{is_empty}
use Rattle.ranges.specs.Ranges.{ranges_of}
use Rattle.ranges.specs.RangesLaws.{range_empty, ranges_end}
use Rattle.houses.specs.Houses.{owner_at}
use Rattle.packing.specs.Order.{range_count, ranges_count}
use Rattle.packing.specs.OrderLaws.{full_count}
use Rattle.packing.specs.SumLaws.{sum_ends}
use Rattle.packing.specs.PackingLaws.{new_slot_in, count_le, new_ends}
use Rattle.collect.specs.Collect.{slot_to, offset_to, entry_moved, area_to, entry_to, entry_place_to, owner_to}
use Rattle.collect.specs.Collectable.{Collectable}

-- one slot: how many bytes it brings
module _ (deal : List ℕ) (t : DealSize (length deal)) (j : ℕ) where
  -- it has bytes exactly if its entry stands
  pub stands_full : standing (length deal) (slot_at deal j) ≡ true → is_empty (ranges_of deal j) ≡ false
  stands_full e = range_empty (length deal) (slot_at deal j) t ∙ ap not e

  pub full_stands : is_empty (ranges_of deal j) ≡ false → standing (length deal) (slot_at deal j) ≡ true
  full_stands e = not-false _ (sym (range_empty (length deal) (slot_at deal j) t) ∙ e)

  pub area_length : length (area_to deal j) ≡ row_area (row_at deal j)
  area_length =
      let row = row_at deal j in
      part_length deal (row_offset row) (row_area row)
      (omega (arith, row_ends (length deal) (slot_at deal j) t, index_start_le (length deal)))

  -- a string that is brought for a standing entry alone, and then has n bytes
  brought_length : (n : ℕ) (string : Row → List ℕ)
      → length (string (holds (commitment_in (slot_at deal j)) (offset_in (slot_at deal j)) (size_in (slot_at deal j))))
      ≡ n
      → length (choose (row_at deal j).stands (string (row_at deal j)) []) ≡ n * range_count (ranges_of deal j)
  brought_length n string l = by_test (standing (length deal) (slot_at deal j)) refl
    where
      by_test : (b : Bool) → standing (length deal) (slot_at deal j) ≡ b
          → length (choose (row_at deal j).stands (string (row_at deal j)) []) ≡ n * range_count (ranges_of deal j)
      by_test true e =
          rw (full_count (ranges_of deal j) (stands_full e), row_stands (length deal) (slot_at deal j) e)
          (omega (arith, l))
      by_test false e = rw (row_free (length deal) (slot_at deal j) e) (omega arith)

  pub owner_length : (table : List ℕ) → length (owner_to deal table j) ≡ range_count (ranges_of deal j)
  owner_length table = omega (arith, brought_length 1 (λ r. owner_at table j ∷ []) refl)

  module _ (h : j < entry_count (length deal)) where
    pub commitment_length : length (commitment_in (slot_at deal j)) ≡ 32
    unfolding commitment_in
    commitment_length =
        part_length (slot_at deal j) 0 32
        (omega (arith, part_length deal (slot_place (length deal) j) 64 (slot_within (length deal) j t h)))

    pub moved_length : (offset : ℕ) → length (entry_moved (row_at deal j) offset) ≡ 64 * range_count (ranges_of deal j)
    moved_length offset =
        brought_length 64 (λ r. entry_of r.commitment offset r.size)
        (entry_length (commitment_in (slot_at deal j)) offset (size_in (slot_at deal j)) commitment_length)

module _ {deal : List ℕ} (c : Collectable deal) where
  pub sized : DealSize (length deal)
  sized = (lent_size (length deal) c.lent).deal

  -- the index lies after all areas
  pub index_ends : index_start (length deal) + 64 * entry_count (length deal) ≡ length deal
  index_ends = (index_area (length deal) sized).start_count

  module _ (j : ℕ) (h : j < entry_count (length deal)) where
    -- a new area ends by the index start
    pub area_ends : offset_to deal j + row_area (row_at deal j) ≤ index_start (length deal)
    area_ends =
        new_ends (ranges_of deal) (entry_count (length deal)) c.apart (index_start (length deal))
        (ranges_end deal sized) j h

    -- a new slot is one of the first, as many as standing entries
    pub slot_ends : slot_to deal j + range_count (ranges_of deal j)
        ≤ ranges_count (ranges_of deal) (entry_count (length deal))
    slot_ends = sum_ends range_count (ranges_of deal) (entry_count (length deal)) j h

    pub slot_in : standing (length deal) (slot_at deal j) ≡ true → slot_to deal j < entry_count (length deal)
    slot_in e =
        omega (
          arith,
          new_slot_in (ranges_of deal) (entry_count (length deal)) j h (stands_full deal sized j e),
          count_le (ranges_of deal) (entry_count (length deal)),
        )

    pub entry_ends : entry_place_to deal j + length (entry_to deal j)
        ≤ index_start (length deal) + 64 * ranges_count (ranges_of deal) (entry_count (length deal))
    unfolding slot_place
    entry_ends = omega (arith, slot_ends, moved_length deal sized j h (offset_to deal j))
