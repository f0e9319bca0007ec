-- Collection brings no stray bits in, and nothing but bytes.
use Rattle.std.specs.Prelude.{◌≡◌, Bool, List, length, replicate}
use Rattle.std.proofs.Math.Path.{refl, ap}
use Rattle.std.proofs.Common.{ap₂, ◌∙◌}
use Rattle.std.proofs.Math.Bool.{true, false}
use Prim.Native.Nat.{ℕ, ◌+◌, ◌*◌, ◌/◌, ◌%◌, ◌<◌}
use native.Mathlib.Omega.{arith}
use Rattle.octets.specs.Bytes.{Bytes}
use Rattle.octets.specs.Splice.{part}
use Rattle.octets.specs.SpliceLaws.{bytes_part, part_part}
use Rattle.stray.specs.StrayBits.{clear_node, clear_nodes, no_stray_bits}
use Rattle.stray.specs.StrayBitsLaws.{clear_at, part_clear}
use Rattle.sizes.specs.Sizes.{entry_count, index_start, slot_place}
use Rattle.sizes.specs.SizesLaws.{DealSize, index_area, index_start_le}
use Rattle.entries.specs.Entry.{commitment_in, size_in}
use Rattle.entries.specs.MadeLaws.{made_bytes, made_clear}
use Rattle.index.specs.Slots.{slot_at, standing, row_at, row_offset, row_area, Row}
use Rattle.index.specs.KeptLaws.{row_stands, row_free}
use Rattle.index.specs.KeptRowsLaws.{slot_within, row_ends}
use Rattle.ranges.specs.Ranges.{ranges_of}
use Rattle.ranges.specs.RangesLaws.{range_power, range_nodes}
use Rattle.packing.specs.Order.{range_count}
use Rattle.packing.specs.PackingLaws.{new_128}
use Rattle.collect.specs.Collect.{
  slot_to,
  offset_to,
  entry_moved,
  area_to,
  entry_to,
  entry_place_to,
  areas_moved,
  collected_deal,
}
use Rattle.collect.specs.Collectable.{Collectable}
use Rattle.collect.proofs.MovesLaws.{area_length, commitment_length, moved_length, sized}
use Rattle.collect.specs.WritesLaws.{written_bytes_lem, written_clear}
use Rattle.collect.specs.ZerosLaws.{zeros_bytes, zeros_clear}
use Rattle.collect.proofs.CollectLaws.{areas_within, entries_within}

-- slots are pairs of nodes
slot_node : (d i : ℕ) → DealSize d → slot_place d i ≡ (index_start d / 32 + 2 * i) * 32
unfolding slot_place
slot_node d i t = let start : index_start d % 64 ≡ 0 = (index_area d t).start_aligned in omega arith

module _ (deal : List ℕ) (t : DealSize (length deal)) (j : ℕ) where
  -- what slot j brings has no stray bits, where the deal has none
  area_clear : no_stray_bits deal ≡ true → no_stray_bits (area_to deal j) ≡ true
  area_clear clear =
      let row = row_at deal j in
      let nodes = range_nodes (length deal) (slot_at deal j) t in
      let offset : row_offset row ≡ row_offset row / 32 * 32 = omega (arith, nodes.0) in
      let area : row_area row ≡ row_area row / 32 * 32 = omega (arith, nodes.1) in
      ap₂ (λ (b m : ℕ). no_stray_bits (part deal b m)) offset area
      ∙ part_clear deal (row_offset row / 32) (row_area row / 32)
      (omega (arith, row_ends (length deal) (slot_at deal j) t, index_start_le (length deal))) clear

  module _ (h : j < entry_count (length deal)) where
    -- the commitment is a node of the deal
    commitment_clear : no_stray_bits deal ≡ true → clear_node (commitment_in (slot_at deal j)) ≡ true
    unfolding commitment_in part
    commitment_clear clear =
        let q : ℕ = index_start (length deal) / 32 + 2 * j in
        let within = slot_within (length deal) j t h in
        let at : slot_place (length deal) j + 0 ≡ q * 32 = omega (arith, slot_node (length deal) j t) in
        ap clear_node
        (part_part deal (slot_place (length deal) j) 64 0 32 (omega arith) within ∙ ap (λ (k : ℕ). part deal k 32) at)
        ∙ clear_at (length deal / 32) q deal clear (omega arith)

    entry_clear : no_stray_bits deal ≡ true → no_stray_bits (entry_to deal j) ≡ true
    unfolding clear_nodes
    entry_clear clear = by_test (standing (length deal) (slot_at deal j)) refl
      where
        by_test : (b : Bool) → standing (length deal) (slot_at deal j) ≡ b → no_stray_bits (entry_to deal j) ≡ true
        by_test true e =
            ap (λ (r : Row). no_stray_bits (entry_moved r (offset_to deal j)))
            (row_stands (length deal) (slot_at deal j) e)
            ∙ made_clear (commitment_in (slot_at deal j)) (offset_to deal j) (size_in (slot_at deal j))
            (commitment_length deal t j h) (commitment_clear clear)
        by_test false e =
            ap (λ (r : Row). no_stray_bits (entry_moved r (offset_to deal j)))
            (row_free (length deal) (slot_at deal j) e)

  -- and it is bytes, where the deal is
  entry_bytes_lem : Bytes deal → Bytes (entry_to deal j)
  unfolding commitment_in
  entry_bytes_lem b = by_test (standing (length deal) (slot_at deal j)) refl
    where
      by_test : (s : Bool) → standing (length deal) (slot_at deal j) ≡ s → Bytes (entry_to deal j)
      by_test true e =
          rw (row_stands (length deal) (slot_at deal j) e)
          (made_bytes (commitment_in (slot_at deal j)) (offset_to deal j) (size_in (slot_at deal j))
          (bytes_part (slot_at deal j) 0 32 (bytes_part deal (slot_place (length deal) j) 64 b)))
      by_test false e = rw (row_free (length deal) (slot_at deal j) e) tt

module _ {deal : List ℕ} (c : Collectable deal) where
  abbrev slots : ℕ
  slots = entry_count (length deal)

  areas_clear : no_stray_bits deal ≡ true → no_stray_bits (areas_moved deal) ≡ true
  unfolding areas_moved
  areas_clear clear =
      written_clear (offset_to deal) (area_to deal) (replicate (length deal) 0) slots (areas_within c)
      (λ k h.
      record {
        place = offset_to deal k / 32;
        count = row_area (row_at deal k) / 32;
        at_place =
            omega (arith, new_128 (ranges_of deal) slots (λ i l. range_power (length deal) (slot_at deal i)) k);
        counted =
            omega (
              arith,
              area_length deal (sized c) k,
              (range_nodes (length deal) (slot_at deal k) (sized c)).1,
            );
        clear = area_clear deal (sized c) k clear;
      })
      (zeros_clear (length deal))

  pub collected_clear : no_stray_bits deal ≡ true → no_stray_bits (collected_deal deal) ≡ true
  unfolding collected_deal
  collected_clear clear =
      written_clear (entry_place_to deal) (entry_to deal) (areas_moved deal) slots (entries_within c)
      (λ k h.
      record {
        place = index_start (length deal) / 32 + 2 * slot_to deal k;
        count = 2 * range_count (ranges_of deal k);
        at_place = slot_node (length deal) (slot_to deal k) (sized c);
        counted = omega (arith, moved_length deal (sized c) k h (offset_to deal k));
        clear = entry_clear deal (sized c) k h clear;
      })
      (areas_clear clear)

  pub collected_bytes : Bytes deal → Bytes (collected_deal deal)
  unfolding collected_deal areas_moved
  collected_bytes b =
      written_bytes_lem (entry_place_to deal) (entry_to deal) (areas_moved deal) slots
      (λ k h. entry_bytes_lem deal (sized c) k b)
      (written_bytes_lem (offset_to deal) (area_to deal) (replicate (length deal) 0) slots
      (λ k h. bytes_part deal (row_offset (row_at deal k)) (row_area (row_at deal k)) b) (zeros_bytes (length deal)))
