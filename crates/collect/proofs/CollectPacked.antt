-- The collected deal slot by slot: each of the first slots holds the row of exactly one old slot, in the order of
-- collection, and those past them are free. So it can be collected in turn, with as many bytes in standing areas.
use Rattle.std.specs.Prelude.{◌≡◌, true, ◌↔◌, ◌⊎◌, ℕ, ◌+◌, ◌-◌, ◌≤◌, ◌<◌, List, length, replicate}
use Rattle.std.proofs.Common.{sym, ap, ◌∙◌, subst, true≢false, inl, inr, ⊎_elim, arith}
use Rattle.std.proofs.Math.Decide.{ℕ_discrete, dec_lt}
use Rattle.octets.specs.Splice.{part}
use Rattle.sizes.specs.Sizes.{lent_size_allowed, entry_count, index_start}
use Rattle.lent.specs.LentDeal.{lent_deal}
use Rattle.index.specs.Slots.{slot_at, standing, kept_at, free, holds, row_at, row_offset, row_area, Row}
use Rattle.index.specs.KeptLaws.{row_stands}
use Rattle.room.specs.Room.{range}
use Rattle.ranges.specs.Ranges.{row_range, ranges_of}
use Rattle.ranges.specs.RangesLaws.{ranges_end}
use Rattle.packing.specs.Order.{range_area, ranges_count, ranges_area, none_overlaps}
use Rattle.packing.specs.Apart.{RangesApart}
use Rattle.packing.specs.ApartLaws.{apart_total}
use Rattle.packing.specs.OrderLaws.{First, first_true}
use Rattle.packing.specs.NoOverlapLaws.{none_overlaps_lem}
use Rattle.packing.specs.SumLaws.{sum_next, sum_ends}
use Rattle.packing.specs.PackingLaws.{new_areas_taken, new_slots_differ, new_slot_taken, new_sorted}
use Rattle.packing.specs.Packed.{Packed}
use Rattle.packing.specs.PackedLaws.{packed_apart, packed_count, packed_area}
use Rattle.collect.specs.Collect.{slot_to, offset_to, collected_deal}
use Rattle.collect.specs.Collectable.{Collectable, From}
use Rattle.collect.proofs.MovesLaws.{stands_full, full_stands, sized}
use Rattle.collect.proofs.CollectLaws.{collected_length, collected_rest}
use Rattle.collect.proofs.CollectRows.{collected_free, collected_row, collected_kept}

module _ {deal : List ℕ} (c : Collectable deal) where
  abbrev slots : ℕ
  slots = entry_count (length deal)

  -- standing entries go to different slots, in the order of collection: by falling area, equal ones by old offset
  pub slots_differ : (i j : ℕ) → i < entry_count (length deal) → j < entry_count (length deal)
      → standing (length deal) (slot_at deal i) ≡ true → standing (length deal) (slot_at deal j) ≡ true
      → slot_to deal i ≡ slot_to deal j → i ≡ j
  slots_differ i j hi hj si sj e =
      elim (ℕ_discrete i j) [
        | yes same ↦ same
        | no ne ↦
            absurd (new_slots_differ (ranges_of deal) slots c.apart i j hi hj ne (stands_full deal (sized c) i si)
            (stands_full deal (sized c) j sj) e)
      ]

  pub collected_sorted : (i j : ℕ) → i < entry_count (length deal) → j < entry_count (length deal)
      → standing (length deal) (slot_at deal i) ≡ true → standing (length deal) (slot_at deal j) ≡ true
      → First (ranges_of deal i) (ranges_of deal j) ↔ (slot_to deal i < slot_to deal j)
  collected_sorted i j hi hj si sj =
      let first = first_true (ranges_of deal i) (ranges_of deal j) in
      let sorted = new_sorted (ranges_of deal) slots c.apart i j hi hj (stands_full deal (sized c) i si)
      (stands_full deal (sized c) j sj) in
      (λ f. sorted.0 (first.1 f), λ l. first.0 (sorted.1 l))

  pub collected_in_order : (i j : ℕ) → i < entry_count (length deal) → First (ranges_of deal i) (ranges_of deal j)
      → offset_to deal i + row_area (row_at deal i) ≤ offset_to deal j
  collected_in_order i j h f =
      sum_next range_area (ranges_of deal) slots i j h ((first_true (ranges_of deal i) (ranges_of deal j)).1 f)

  -- as many slots as entries stand: each is taken, and those past them are free
  pub collected_from : (x : ℕ) → x < ranges_count (ranges_of deal) (entry_count (length deal)) → From deal x
  collected_from x h =
      let k = new_slot_taken (ranges_of deal) slots c.apart x h in
      let s = full_stands deal (sized c) k.0 k.2 in
      record {
        old = k.0;
        old_in = k.1;
        stood = s;
        moves = k.3;
        row_is = ap (row_at (collected_deal deal)) (sym k.3) ∙ collected_row c k.0 k.1 s;
        kept_is = ap (kept_at (lent_deal (collected_deal deal))) (sym k.3) ∙ collected_kept c k.0 k.1 s;
        only = λ j l t e. slots_differ j k.0 l k.1 t s (e ∙ sym k.3);
      }

  pub collected_rows : (x : ℕ) → x < entry_count (length deal) → From deal x ⊎ (row_at (collected_deal deal) x ≡ free)
  collected_rows x h =
      elim (dec_lt x (ranges_count (ranges_of deal) slots)) [
        | yes l ↦ inl (collected_from x l)
        | no m ↦ inr (collected_free c x (omega arith) h)
      ]

  -- whatever stands in it comes from an old slot
  pub standing_from_lem : (x : ℕ) → x < entry_count (length deal)
      → standing (length (collected_deal deal)) (slot_at (collected_deal deal) x) ≡ true → From deal x
  standing_from_lem x h s =
      ⊎_elim (λ from. from)
      (λ e.
      let row_is = row_stands (length (collected_deal deal)) (slot_at (collected_deal deal) x) s in
      absurd (true≢false (ap (λ (r : Row). r.stands) (sym row_is ∙ e))))
      (collected_rows x h)

  -- the ranges of its slots
  pub collected_packed : Packed (ranges_of deal) (ranges_of (collected_deal deal)) slots
  collected_packed =
      record {
        moved = λ j h f.
            let e = full_stands deal (sized c) j f in
            let was = row_stands (length deal) (slot_at deal j) e in
            ap row_range
            (collected_row c j h e ∙ ap (λ (r : Row). holds r.commitment (offset_to deal j) r.size) was)
            ∙ sym (ap (λ (r : Row). range (offset_to deal j) (row_area r)) was);
        free = λ x a b. ap row_range (collected_free c x a b);
      }

  -- it can be collected in turn
  pub collected_collectable : Collectable (collected_deal deal)
  collected_collectable =
      let l = sym (collected_length c) in
      record {
        lent = ap lent_size_allowed (collected_length c) ∙ c.lent;
        apart =
            subst (λ (n : ℕ). RangesApart (ranges_of (collected_deal deal)) (entry_count n)) l
            (packed_apart (ranges_of deal) (ranges_of (collected_deal deal)) slots c.apart collected_packed);
      }

  pub collected_apart :
      none_overlaps (ranges_of (collected_deal deal)) (entry_count (length (collected_deal deal))) ≡ true
  collected_apart =
      (none_overlaps_lem (ranges_of (collected_deal deal)) (entry_count (length (collected_deal deal)))).1
      collected_collectable.apart

  -- with as many standing entries, and as many bytes in their areas together
  pub collected_count :
      ranges_count (ranges_of (collected_deal deal)) (entry_count (length (collected_deal deal)))
      ≡ ranges_count (ranges_of deal) (entry_count (length deal))
  collected_count =
      ap (λ (n : ℕ). ranges_count (ranges_of (collected_deal deal)) (entry_count n)) (collected_length c)
      ∙ packed_count (ranges_of deal) (ranges_of (collected_deal deal)) slots c.apart collected_packed

  pub collected_sum :
      ranges_area (ranges_of (collected_deal deal)) (entry_count (length (collected_deal deal)))
      ≡ ranges_area (ranges_of deal) (entry_count (length deal))
  collected_sum =
      ap (λ (n : ℕ). ranges_area (ranges_of (collected_deal deal)) (entry_count n)) (collected_length c)
      ∙ packed_area (ranges_of deal) (ranges_of (collected_deal deal)) slots c.apart collected_packed

  -- packed from 0: every byte below that number is in a new area, and from there to the index stand zeros
  pub collected_taken : (x : ℕ) → x < ranges_area (ranges_of deal) (entry_count (length deal))
      → (j : ℕ) × (j < entry_count (length deal)) × (offset_to deal j ≤ x)
      × (x < offset_to deal j + row_area (row_at deal j))
  collected_taken x h = new_areas_taken (ranges_of deal) slots c.apart x h

  sum_within : ranges_area (ranges_of deal) slots ≤ index_start (length deal)
  sum_within =
      apart_total (λ i. row_offset (row_at deal i)) (λ i. row_area (row_at deal i)) slots c.apart
      (index_start (length deal)) (ranges_end deal (sized c))

  pub collected_after : let sum = ranges_area (ranges_of deal) (entry_count (length deal)) in
      part (collected_deal deal) sum (index_start (length deal) - sum) ≡ replicate (index_start (length deal) - sum) 0
  collected_after =
      let sum : ℕ = ranges_area (ranges_of deal) slots in
      collected_rest c sum (index_start (length deal) - sum) (omega (arith, sum_within))
      (λ j h. inl (sum_ends range_area (ranges_of deal) slots j h))
