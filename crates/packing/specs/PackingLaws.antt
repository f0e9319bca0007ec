-- Where the ranges move: their new slots and offsets.
use Rattle.std.specs.Prelude.{◌≡◌, refl, Bool, ◌↔◌, ◌≢◌, ℕ, ◌+◌, ◌-◌, ◌*◌, ◌%◌, ◌^◌, ◌≤◌, ◌<◌}
use Rattle.std.proofs.Common.{sym, ap, ◌∙◌, true≢false, ⊎_elim, arith, pow-add, pow_pos, pow_mono}
use Rattle.std.proofs.Math.Bool.{true, false}
use Rattle.std.proofs.Math.Nat.{zero-mod, mul-mod_left}
use Rattle.rules.specs.Choice.{choose}
use Rattle.sizes.specs.AreaLaws.{exponent_le}
use Rattle.room.specs.Room.{Range, SameBelow, EndBy, is_empty}
use Rattle.packing.specs.TotalLaws.{total_most, total_multiple}
use Rattle.packing.specs.Apart.{Apart, RangesApart, PowerAreas}
use Rattle.packing.specs.ApartLaws.{apart_total}
use Rattle.packing.specs.Order.{
  comes_first,
  range_count,
  range_area,
  sum_before,
  new_slot,
  new_offset,
  ranges_count,
  ranges_area,
}
use Rattle.packing.specs.OrderLaws.{
  empty_area,
  full_area,
  empty_count,
  full_count,
  counted_full,
  range_count_le,
  first_area,
  first_apart,
}
use Rattle.packing.specs.SumLaws.{sum_next, sum_ends, sum_apart, sum_taken, sum_same}

module _ (ranges : ℕ → Range) (slots : ℕ) where
  -- new slots come one after the other: as many as ranges have bytes
  pub new_slot_in : (j : ℕ) → j < slots → is_empty (ranges j) ≡ false → new_slot ranges slots j < ranges_count ranges slots
  new_slot_in j h f = omega (arith, sum_ends range_count ranges slots j h, full_count (ranges j) f)

  pub count_le : ranges_count ranges slots ≤ slots
  count_le = omega (arith, total_most (λ i. range_count (ranges i)) slots 1 (λ i h. range_count_le (ranges i)))

  module _ (apart : RangesApart ranges slots) where
    -- new areas lie side by side, without a gap up to the sum of all
    pub new_areas_apart : Apart (new_offset ranges slots) (λ i. (ranges i).area) slots
    new_areas_apart = sum_apart range_area ranges slots empty_area apart

    pub new_areas_taken : (x : ℕ) → x < ranges_area ranges slots
        → (j : ℕ) × (j < slots) × (new_offset ranges slots j ≤ x) × (x < new_offset ranges slots j + (ranges j).area)
    new_areas_taken = sum_taken range_area ranges slots empty_area apart

    -- and never run out of room: they end by any limit that the old ones end by
    pub new_ends : (limit : ℕ) → EndBy limit slots ranges
        → (j : ℕ) → j < slots → new_offset ranges slots j + (ranges j).area ≤ limit
    new_ends limit ends j l =
        omega (
          arith,
          sum_ends range_area ranges slots j l,
          apart_total (λ i. (ranges i).offset) (λ i. (ranges i).area) slots apart limit ends,
        )

    -- no slot is taken twice
    pub new_slots_apart : Apart (new_slot ranges slots) (λ i. range_count (ranges i)) slots
    new_slots_apart = sum_apart range_count ranges slots empty_count apart

    pub new_slots_differ : (i j : ℕ) → i < slots → j < slots → i ≢ j → is_empty (ranges i) ≡ false
        → is_empty (ranges j) ≡ false → new_slot ranges slots i ≢ new_slot ranges slots j
    new_slots_differ i j hi hj ne fi fj e =
        let ci = full_count (ranges i) fi in
        let cj = full_count (ranges j) fj in
        ⊎_elim (λ a. omega arith) (λ b. omega arith) (new_slots_apart i j hi hj ne)

    -- and each of the first is taken by a range with bytes
    pub new_slot_taken : (x : ℕ) → x < ranges_count ranges slots
        → (j : ℕ) × (j < slots) × (is_empty (ranges j) ≡ false) × (new_slot ranges slots j ≡ x)
    new_slot_taken x h =
        let t = sum_taken range_count ranges slots empty_count apart x h in
        let c = range_count_le (ranges t.0) in
        (t.0, t.1, counted_full (ranges t.0) (omega (arith, t.2, t.3)), omega (arith, t.2, t.3))

    -- the order is that of collection
    pub new_sorted : (i j : ℕ) → i < slots → j < slots → is_empty (ranges i) ≡ false → is_empty (ranges j) ≡ false
        → (comes_first (ranges i) (ranges j) ≡ true) ↔ (new_slot ranges slots i < new_slot ranges slots j)
    new_sorted i j hi hj fi fj = (
      λ e. up i j hi fi e,
      λ l.
          ⊎_elim (λ e. absurd (omega (arith, up j i hj fj e)))
          (λ rest. ⊎_elim (λ e. e) (λ q. absurd (true≢false (sym q.0 ∙ fi))) rest)
          (first_apart (ranges i) (ranges j) (apart i j hi hj (λ e. omega (arith, ap (new_slot ranges slots) e)))),
    )
      where
        up : (i j : ℕ) → i < slots → is_empty (ranges i) ≡ false → comes_first (ranges i) (ranges j) ≡ true
            → new_slot ranges slots i < new_slot ranges slots j
        up i j h f e = omega (arith, sum_next range_count ranges slots i j h e, full_count (ranges i) f)

-- a smaller power of two divides a larger one
power_multiple : (i j : ℕ) → i ≤ j → 2 ^ j % 2 ^ i ≡ 0
power_multiple i j l =
    let s : 2 ^ j ≡ 2 ^ (j - i) * 2 ^ i = ap (λ (k : ℕ). 2 ^ k) (omega arith) ∙ pow-add 2 (j - i) i in
    ap (λ (x : ℕ). x % 2 ^ i) s ∙ mul-mod_left (2 ^ (j - i)) (2 ^ i)

-- new offsets
module _ (ranges : ℕ → Range) (slots : ℕ) where
  -- a new offset is a multiple of what the areas before it are multiples of
  pub new_multiple : (j m : ℕ)
      → ((i : ℕ) → i < slots → comes_first (ranges i) (ranges j) ≡ true → (ranges i).area % m ≡ 0)
      → new_offset ranges slots j % m ≡ 0
  unfolding sum_before
  new_multiple j m f =
      total_multiple (λ k. choose (comes_first (ranges k) (ranges j)) (ranges k).area 0) slots m
      (λ k h. by_test (comes_first (ranges k) (ranges j)) k h refl)
    where
      by_test : (b : Bool) (k : ℕ) → k < slots → comes_first (ranges k) (ranges j) ≡ b
          → choose b (ranges k).area 0 % m ≡ 0
      by_test true k h e = f k h e
      by_test false k h e = zero-mod m

  -- where areas are powers of two: a multiple of the range's own area, and of 128
  module _ (powers : PowerAreas ranges slots) where
    divides : (k i : ℕ) → i < slots → (0 < (ranges i).area → 2 ^ k ≤ (ranges i).area) → (ranges i).area % 2 ^ k ≡ 0
    divides k i h low =
        ⊎_elim (λ z. ap (λ (a : ℕ). a % 2 ^ k) z ∙ zero-mod (2 ^ k))
        (λ p.
        let l : k ≤ p.0 =
        exponent_le k p.0
        (omega (arith, pow_pos p.0, p.2, low (omega (arith, pow_pos p.0, p.2)))) in
        ap (λ (a : ℕ). a % 2 ^ k) p.2 ∙ power_multiple k p.0 l)
        (powers i h)

    pub new_aligned : (j : ℕ) → j < slots → is_empty (ranges j) ≡ false → new_offset ranges slots j % (ranges j).area ≡ 0
    new_aligned j h f =
        ⊎_elim (λ z. absurd (omega (arith, full_area (ranges j) f)))
        (λ p.
        ap (λ (a : ℕ). new_offset ranges slots j % a) p.2
        ∙ new_multiple j (2 ^ p.0)
        (λ i l e. divides p.0 i l (λ z. omega (arith, first_area (ranges i) (ranges j) e, p.2))))
        (powers j h)

    pub new_128 : (j : ℕ) → new_offset ranges slots j % 128 ≡ 0
    new_128 j =
        new_multiple j 128
        (λ i l e.
        divides 7 i l
        (λ z.
        ⊎_elim (λ q. absurd (omega arith)) (λ p. omega (arith, p.2, pow_mono {i = 7} {j = p.0} p.1))
        (powers i l)))

-- the same ranges move alike
module _ (slots : ℕ) (r s : ℕ → Range) (same : SameBelow slots r s) where
  pub new_slot_same : (j : ℕ) → j < slots → new_slot r slots j ≡ new_slot s slots j
  new_slot_same = sum_same range_count slots r s same

  pub new_offset_same : (j : ℕ) → j < slots → new_offset r slots j ≡ new_offset s slots j
  new_offset_same = sum_same range_area slots r s same
