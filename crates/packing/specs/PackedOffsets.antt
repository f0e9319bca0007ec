-- Packed from 0: the offset of each new range is the sum of the areas of those in lower slots.
use Rattle.std.specs.Prelude.{◌≡◌, refl, Bool, true, false, ℕ, zero, suc, ◌+◌, ◌≤◌, ◌<◌, ltb}
use Rattle.std.proofs.Math.Path.{sym, ap₂}
use Rattle.std.proofs.Common.{ap, ◌∙◌, true≢false, add-zero, arith, lt-ltb, le-ltb}
use Rattle.std.proofs.Math.Decide.{dec_le, dec_lt}
use Rattle.rules.specs.Choice.{choose}
use Rattle.room.specs.Room.{Range, is_empty}
use Rattle.packing.specs.Total.{total}
use Rattle.packing.specs.TotalLaws.{total_cong}
use Rattle.packing.specs.Apart.{RangesApart}
use Rattle.packing.specs.Order.{comes_first, range_area, sum_before, new_slot, ranges_count}
use Rattle.packing.specs.OrderLaws.{empty_area}
use Rattle.packing.specs.PackingLaws.{count_le, new_sorted}
use Rattle.packing.specs.MovedTotal.{moved_total}
use Rattle.packing.specs.Packed.{Packed}
use Rattle.packing.specs.PackedLaws.{packed_from}

choose_zero : (b : Bool) (n : ℕ) → n ≡ 0 → choose b n 0 ≡ 0
choose_zero true n e = e
choose_zero false n e = refl

-- a sum of the terms below x
total_below : (f : ℕ → ℕ) (n x : ℕ) → x ≤ n → total (λ y. choose (ltb y x) (f y) 0) n ≡ total f x
unfolding total
total_below f zero x h = let z : x ≡ 0 = omega arith in rw z
total_below f (suc n) x h =
    elim (dec_le x n) [
      | yes l ↦
          ap₂ (λ (m : ℕ) (b : Bool). m + choose b (f n) 0) (total_below f n x l) (le-ltb n x l) ∙ add-zero (total f x)
      | no m ↦
          let all : suc n ≡ x = omega arith in
          total_cong (λ y. choose (ltb y x) (f y) 0) f (suc n) (λ y l. rw (lt-ltb y x (omega arith)))
          ∙ ap (total f) all
    ]

module _ (ranges new : ℕ → Range) (slots : ℕ) (apart : RangesApart ranges slots)
    (packed : Packed ranges new slots) where
  -- range i comes before range j exactly if its new slot is below
  slot_below : (i j : ℕ) → i < slots → j < slots → is_empty (ranges i) ≡ false → is_empty (ranges j) ≡ false
      → ltb (new_slot ranges slots i) (new_slot ranges slots j) ≡ comes_first (ranges i) (ranges j)
  slot_below i j hi hj fi fj = by_test (comes_first (ranges i) (ranges j)) refl
    where
      by_test : (b : Bool) → comes_first (ranges i) (ranges j) ≡ b
          → ltb (new_slot ranges slots i) (new_slot ranges slots j) ≡ b
      by_test true e = lt-ltb _ _ ((new_sorted ranges slots apart i j hi hj fi fj).0 e)
      by_test false e =
          elim (dec_lt (new_slot ranges slots i) (new_slot ranges slots j)) [
            | yes l ↦ absurd (true≢false (sym ((new_sorted ranges slots apart i j hi hj fi fj).1 l) ∙ e))
            | no m ↦ le-ltb (new_slot ranges slots i) (new_slot ranges slots j) (omega arith)
          ]

  pub packed_offset : (x : ℕ) → x < ranges_count ranges slots → (new x).offset ≡ total (λ y. (new y).area) x
  unfolding sum_before
  packed_offset x h =
      let f = packed_from ranges new slots apart packed x h in
      let j = f.old in
      let c = count_le ranges slots in
      f.offset_is
      ∙ sym
      (moved_total ranges slots apart (λ i. choose (comes_first (ranges i) (ranges j)) (ranges i).area 0)
      (λ y. choose (ltb y x) (new y).area 0)
      (λ i l e. choose_zero (comes_first (ranges i) (ranges j)) (ranges i).area (empty_area (ranges i) e))
      (λ i l e.
      ap₂ (λ (b : Bool) (n : ℕ). choose b n 0)
      (ap (ltb (new_slot ranges slots i)) (sym f.moves) ∙ slot_below i j l f.old_in e f.full)
      (ap range_area (packed.moved i l e)))
      (λ y l k. choose_zero (ltb y x) (new y).area (ap range_area (packed.free y l k))))
      ∙ total_below (λ y. (new y).area) slots x (omega arith)
