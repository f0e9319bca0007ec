-- What the collected deal holds: every standing segment's area at its new offset, its entry in its new slot, and zeros
-- everywhere else.
use Rattle.std.specs.Prelude.{◌≡◌, true, List, replicate}
use Rattle.std.proofs.Common.{sym, ◌∙◌, arith}
use Rattle.std.proofs.Math.Path.{ap, ap₂}
use Rattle.std.proofs.Math.Logic.{inl, inr, ⊎_elim}
use Prim.Native.Nat.{ℕ, ◌+◌, ◌*◌, ◌≤◌, ◌<◌}
use Rattle.std.proofs.Math.ListN.{length}
use Rattle.std.proofs.lemmas.List.{length-replicate}
use Rattle.octets.specs.Splice.{part}
use Rattle.sizes.specs.Sizes.{entry_count, index_start, slot_place}
use Rattle.entries.specs.Entry.{entry_of, commitment_in, size_in}
use Rattle.index.specs.Slots.{slot_at, standing, row_at, row_area, Row}
use Rattle.index.specs.KeptLaws.{row_stands}
use Rattle.index.specs.KeptRows.{area_of}
use Rattle.index.specs.KeptRowsLaws.{slot_within}
use Rattle.ranges.specs.Ranges.{ranges_of}
use Rattle.packing.specs.Order.{ranges_count}
use Rattle.packing.specs.OrderLaws.{full_count}
use Rattle.packing.specs.Apart.{Beside, Apart}
use Rattle.packing.specs.PackingLaws.{count_le, new_areas_apart, new_slots_apart}
use Rattle.collect.specs.Collect.{
  slot_to,
  offset_to,
  entry_moved,
  area_to,
  entry_to,
  entry_place_to,
  areas_moved,
  collected_deal,
}
use Rattle.collect.specs.Writes.{write_all}
use Rattle.collect.specs.Collectable.{Collectable}
use Rattle.collect.proofs.MovesLaws.{stands_full, area_length, moved_length, sized, index_ends, area_ends, entry_ends}
use Rattle.collect.specs.ZerosLaws.{zeros_part}
use Rattle.collect.specs.WritesLaws.{Within, written_length, written_elsewhere, written_at_lem}

module _ {deal : List ℕ} (c : Collectable deal) where
  abbrev slots : ℕ
  slots = entry_count (length deal)

  abbrev zeros : List ℕ
  zeros = replicate (length deal) 0

  -- how many standing entries there are
  abbrev count : ℕ
  count = ranges_count (ranges_of deal) slots

  zeros_length : length zeros ≡ length deal
  zeros_length = length-replicate (length deal) 0

  -- the areas lie in the deal, side by side
  pub areas_within : Within (offset_to deal) (area_to deal) (replicate (length deal) 0) (entry_count (length deal))
  areas_within j h = omega (arith, area_ends c j h, area_length deal (sized c) j, index_ends c, zeros_length)

  areas_apart : Apart (offset_to deal) (λ j. length (area_to deal j)) slots
  areas_apart i j hi hj ne =
      ⊎_elim
      (λ before. inl (omega (arith, area_length deal (sized c) j)))
      (λ after. inr (omega (arith, area_length deal (sized c) i)))
      (new_areas_apart (ranges_of deal) slots c.apart i j hi hj ne)

  -- over any bytes as many as the deal's
  over_within : (base : List ℕ) → length base ≡ length deal → Within (offset_to deal) (area_to deal) base slots
  over_within base long j h = omega (arith, area_ends c j h, area_length deal (sized c) j, index_ends c, long)

  over_length : (base : List ℕ) → length base ≡ length deal
      → length (write_all (offset_to deal) (area_to deal) slots base) ≡ length deal
  over_length base long =
      written_length (offset_to deal) (area_to deal) base slots (over_within base long) ∙ long

  over_area : (base : List ℕ) → length base ≡ length deal → (j : ℕ) → j < slots
      → part (write_all (offset_to deal) (area_to deal) slots base) (offset_to deal j) (length (area_to deal j))
      ≡ area_to deal j
  over_area base long j h =
      written_at_lem (offset_to deal) (area_to deal) base slots j (over_within base long) areas_apart h

  areas_length : length (areas_moved deal) ≡ length deal
  unfolding areas_moved
  areas_length = over_length _ (search (length-replicate))

  -- and so do the entries
  pub entries_within : Within (entry_place_to deal) (entry_to deal) (areas_moved deal) (entry_count (length deal))
  entries_within j h =
      omega (arith, entry_ends c j h, count_le (ranges_of deal) slots, index_ends c, areas_length)

  entries_apart : Apart (entry_place_to deal) (λ j. length (entry_to deal j)) slots
  unfolding slot_place
  entries_apart i j hi hj ne =
      ⊎_elim
      (λ before. inl (omega (arith, moved_length deal (sized c) j hj (offset_to deal j))))
      (λ after. inr (omega (arith, moved_length deal (sized c) i hi (offset_to deal i))))
      (new_slots_apart (ranges_of deal) slots c.apart i j hi hj ne)

  pub collected_length : length (collected_deal deal) ≡ length deal
  unfolding collected_deal
  collected_length =
      written_length (entry_place_to deal) (entry_to deal) (areas_moved deal) slots entries_within ∙ areas_length

  -- below the index only areas are written
  below_index : (b m : ℕ) → b + m ≤ index_start (length deal)
      → part (collected_deal deal) b m ≡ part (areas_moved deal) b m
  unfolding collected_deal slot_place
  below_index b m h =
      written_elsewhere (entry_place_to deal) (entry_to deal) (areas_moved deal) slots b m entries_within
      (omega (arith, areas_length, index_ends c)) (λ k l. inr (omega arith))

  -- all bytes of every area stand at its new offset
  pub collected_area : (j : ℕ) → j < entry_count (length deal)
      → part (collected_deal deal) (offset_to deal j) (row_area (row_at deal j)) ≡ area_of deal (row_at deal j)
  unfolding areas_moved
  collected_area j h =
      below_index (offset_to deal j) (row_area (row_at deal j)) (area_ends c j h)
      ∙ ap (part (areas_moved deal) (offset_to deal j)) (sym (area_length deal (sized c) j))
      ∙ over_area _ (search (length-replicate)) j h

  -- zeros stand below the index where no area does
  pub collected_rest : (b m : ℕ) → b + m ≤ index_start (length deal)
      → ((j : ℕ) → j < entry_count (length deal) → Beside b m (offset_to deal j) (row_area (row_at deal j)))
      → part (collected_deal deal) b m ≡ replicate m 0
  unfolding areas_moved
  collected_rest b m h side =
      below_index b m h
      ∙ written_elsewhere (offset_to deal) (area_to deal) zeros slots b m areas_within
      (omega (arith, index_ends c, zeros_length))
      (λ k l. ⊎_elim (λ a. inl (omega (arith, area_length deal (sized c) k))) (λ a. inr a) (side k l))
      ∙ zeros_part (length deal) b m (omega (arith, index_ends c))

  -- and in the slots past the number of standing entries
  pub collected_blank : (x : ℕ) → ranges_count (ranges_of deal) (entry_count (length deal)) ≤ x
      → x < entry_count (length deal) → slot_at (collected_deal deal) x ≡ replicate 64 0
  unfolding collected_deal areas_moved slot_place
  collected_blank x a b =
      let at : ℕ = slot_place (length deal) x in
      let within : at + 64 ≤ length deal = slot_within (length deal) x (sized c) b in
      ap (λ (d : ℕ). part (collected_deal deal) (slot_place d x) 64) collected_length
      ∙ written_elsewhere (entry_place_to deal) (entry_to deal) (areas_moved deal) slots at 64 entries_within
      (omega (arith, areas_length)) (λ k l. inl (omega (arith, entry_ends c k l)))
      ∙ written_elsewhere (offset_to deal) (area_to deal) zeros slots at 64 areas_within
      (omega (arith, zeros_length)) (λ k l. inl (omega (arith, area_ends c k l, area_length deal (sized c) k)))
      ∙ zeros_part (length deal) at 64 within

  -- a standing entry is in its new slot: commitment and size as they were, the new offset, and the checksum of these
  pub collected_slot : (j : ℕ) → j < entry_count (length deal) → standing (length deal) (slot_at deal j) ≡ true
      → slot_at (collected_deal deal) (slot_to deal j)
      ≡ entry_of (commitment_in (slot_at deal j)) (offset_to deal j) (size_in (slot_at deal j))
  unfolding collected_deal
  collected_slot j h e =
      ap₂ (λ (d m : ℕ). part (collected_deal deal) (slot_place d (slot_to deal j)) m) collected_length
      (sym (moved_length deal (sized c) j h (offset_to deal j)
      ∙ ap (λ (n : ℕ). 64 * n) (full_count (ranges_of deal j) (stands_full deal (sized c) j e))))
      ∙ written_at_lem (entry_place_to deal) (entry_to deal) (areas_moved deal) slots j entries_within entries_apart h
      ∙ ap (λ (r : Row). entry_moved r (offset_to deal j)) (row_stands (length deal) (slot_at deal j) e)
