-- A house holds as many slots in the collected deal as it held.
use Rattle.std.specs.Prelude.{◌≡◌, refl, Bool, true, false, not, ◌&&◌, ℕ, zero, suc, ◌+◌, ◌≤◌, ◌<◌, List, length, eqb}
use Rattle.std.proofs.Math.Path.{sym, ap}
use Rattle.std.proofs.Common.{ap₂, ◌∙◌, arith}
use Rattle.rules.specs.Search.{one, count}
use Rattle.sizes.specs.Sizes.{entry_count}
use Rattle.index.specs.Slots.{slot_at, standing, holds, row_at, row_area, Row}
use Rattle.index.specs.SlotsLaws.{zero_free}
use Rattle.index.specs.KeptLaws.{row_stands}
use Rattle.room.specs.Room.{Range, is_empty}
use Rattle.ranges.specs.Ranges.{ranges_of}
use Rattle.ranges.specs.RangesLaws.{range_free}
use Rattle.houses.specs.Houses.{owned, held_count}
use Rattle.houses.specs.Houses as H
use Rattle.packing.specs.Total.{total}
use Rattle.packing.specs.TotalLaws.{total_cong}
use Rattle.packing.specs.Order.{ranges_count}
use Rattle.packing.specs.MovedTotal.{moved_total}
use Rattle.booking.specs.Booking.{held_in}
use Rattle.collect.specs.Collect.{slot_to, offset_to, collected_deal, collected_table}
use Rattle.collect.proofs.MovesLaws.{sized, full_stands}
use Rattle.collect.specs.Collectable.{Collectable}
use Rattle.collect.proofs.CollectLaws.{collected_length, collected_blank}
use Rattle.collect.proofs.CollectRows.{collected_row}
use Rattle.collect.proofs.OwnersLaws.{moved_owner}

-- a sum from its first number on
total_first : (f : ℕ → ℕ) (i n : ℕ) → total (λ j. f (i + j)) (suc n) ≡ f i + total (λ j. f (suc i + j)) n
unfolding total
total_first f i zero = let e : f (i + 0) ≡ f i = ap f (omega arith) in omega (arith, e)
total_first f i (suc n) =
    let e : f (i + suc n) ≡ f (suc i + n) = ap f (omega arith) in omega (arith, e, total_first f i n)

-- how many pass is a sum
count_total : (p : ℕ → Bool) (i n : ℕ) → count p i n ≡ total (λ j. one (p (i + j))) n
unfolding total
count_total p i zero = refl
count_total p i (suc n) =
    omega (arith, count_total p (suc i) n, total_first (λ j. one (p j)) i n)

module _ {deal : List ℕ} (c : Collectable deal) (table : List ℕ) (house : ℕ) where
  abbrev slots : ℕ
  slots = entry_count (length deal)

  abbrev new : List ℕ
  new = collected_deal deal

  abbrev owners : List ℕ
  owners = collected_table deal table

  -- 1 for a slot that the house holds
  abbrev before : ℕ → ℕ
  before j = one (H.holds (ranges_of deal) table house j)

  abbrev after : ℕ → ℕ
  after x = one (H.holds (ranges_of new) owners house x)

  none : (j : ℕ) → j < slots → is_empty (ranges_of deal j) ≡ true → before j ≡ 0
  none j h e = rw e

  moved : (j : ℕ) → j < slots → is_empty (ranges_of deal j) ≡ false → after (slot_to deal j) ≡ before j
  moved j h e =
      let s = full_stands deal (sized c) j e in
      let entry = slot_at deal j in
      let was = row_stands (length deal) entry s in
      let area_same : row_area (row_at new (slot_to deal j)) ≡ row_area (row_at deal j) =
      ap row_area
      (collected_row c j h s ∙ ap (λ (r : Row). holds r.commitment (offset_to deal j) r.size) was)
      ∙ sym (ap row_area was) in
      ap₂ (λ (n owner : ℕ). one (not (eqb n 0) && eqb owner house)) area_same (moved_owner c table j h s)

  rest : (x : ℕ) → ranges_count (ranges_of deal) slots ≤ x → x < slots → after x ≡ 0
  rest x a h =
      let free : standing (length new) (slot_at new x) ≡ false =
      ap (standing (length new)) (collected_blank c x a h) ∙ zero_free (length new) in
      ap (λ (r : Range). one (not (is_empty r) && owned owners house x)) (range_free (length new) (slot_at new x) free)

  pub collected_held : held_in (collected_deal deal) (collected_table deal table) house ≡ held_in deal table house
  unfolding held_count
  collected_held =
      ap (λ (d : ℕ). held_count (ranges_of new) owners house (entry_count d)) (collected_length c)
      ∙ count_total (H.holds (ranges_of new) owners house) 0 slots
      ∙ total_cong (λ j. after (0 + j)) after slots (λ j h. ap after (omega arith))
      ∙ moved_total (ranges_of deal) slots c.apart before after none moved rest
      ∙ sym (total_cong (λ j. before (0 + j)) before slots (λ j h. ap before (omega arith)))
      ∙ sym (count_total (H.holds (ranges_of deal) table house) 0 slots)
