-- Packed ranges: no two of them overlap either, they end no later than the old ones, and are as many and have as many
-- bytes together.
use Rattle.std.specs.Prelude.{◌≡◌, ◌⊎◌, ℕ, ◌<◌}
use Rattle.std.proofs.Common.{sym, ap, ◌∙◌, inl, inr, ⊎_elim, arith}
use Rattle.std.proofs.Math.Decide.{dec_lt}
use Rattle.room.specs.Room.{Range, range, EndBy}
use Rattle.packing.specs.Apart.{Beside, RangesApart}
use Rattle.packing.specs.Order.{range_count, range_area, new_slot, ranges_count, ranges_area}
use Rattle.packing.specs.OrderLaws.{empty_area, empty_count}
use Rattle.packing.specs.PackingLaws.{new_areas_apart, new_ends, new_slot_taken}
use Rattle.packing.specs.MovedTotal.{moved_total}
use Rattle.packing.specs.Packed.{Packed, From}

abbrev range_offset : Range → ℕ
range_offset r = r.offset

module _ (ranges new : ℕ → Range) (slots : ℕ) (apart : RangesApart ranges slots)
    (packed : Packed ranges new slots) where
  -- slot by slot: each of the first has the range of an old slot, and those after them none
  pub packed_from : (x : ℕ) → x < ranges_count ranges slots → From ranges new slots x
  packed_from x h =
      let t = new_slot_taken ranges slots apart x h in
      let e = ap new (sym t.3) ∙ packed.moved t.0 t.1 t.2 in
      record {
        old = t.0;
        old_in = t.1;
        full = t.2;
        moves = t.3;
        offset_is = ap range_offset e;
        area_is = ap range_area e;
      }

  pub packed_ranges : (x : ℕ) → x < slots → From ranges new slots x ⊎ (new x ≡ range 0 0)
  packed_ranges x h =
      elim (dec_lt x (ranges_count ranges slots)) [
        | yes l ↦ inl (packed_from x l)
        | no m ↦ inr (packed.free x (omega arith) h)
      ]

  -- no two overlap
  pub packed_apart : RangesApart new slots
  packed_apart x y hx hy ne = by_slots (packed_ranges x hx) (packed_ranges y hy)
    where
      by_slots : From ranges new slots x ⊎ (new x ≡ range 0 0) → From ranges new slots y ⊎ (new y ≡ range 0 0)
          → Beside (new x).offset (new x).area (new y).offset (new y).area
      by_slots (inr e) g = inr (omega (arith, ap range_offset e, ap range_area e))
      by_slots (inl f) (inr e) = inl (omega (arith, ap range_offset e, ap range_area e))
      by_slots (inl f) (inl g) =
          let ox = f.offset_is in
          let ax = f.area_is in
          let oy = g.offset_is in
          let ay = g.area_is in
          ⊎_elim (λ a. inl (omega arith)) (λ b. inr (omega arith))
          (new_areas_apart ranges slots apart f.old g.old f.old_in g.old_in
          (λ same. ne (sym f.moves ∙ ap (new_slot ranges slots) same ∙ g.moves)))

  -- they end by any limit that the old ones end by
  pub packed_ends : (limit : ℕ) → EndBy limit slots ranges → EndBy limit slots new
  packed_ends limit ends x h =
      ⊎_elim
      (λ f. omega (arith, f.offset_is, f.area_is, new_ends ranges slots apart limit ends f.old f.old_in))
      (λ e. omega (arith, ap range_offset e, ap range_area e))
      (packed_ranges x h)

  -- they are as many, and have as many bytes together
  pub packed_count : ranges_count new slots ≡ ranges_count ranges slots
  packed_count =
      moved_total ranges slots apart (λ j. range_count (ranges j)) (λ x. range_count (new x))
      (λ j h e. empty_count (ranges j) e)
      (λ j h f. ap range_count (packed.moved j h f))
      (λ x l h. ap range_count (packed.free x l h))

  pub packed_area : ranges_area new slots ≡ ranges_area ranges slots
  packed_area =
      moved_total ranges slots apart (λ j. (ranges j).area) (λ x. (new x).area)
      (λ j h e. empty_area (ranges j) e)
      (λ j h f. ap range_area (packed.moved j h f))
      (λ x l h. ap range_area (packed.free x l h))
