-- What the searches for a free slot and a free place say, over ranges.
use Rattle.std.specs.Prelude.{
  List,
  length,
  take,
  position,
  ◌==◌,
  ◌≡◌,
  refl,
  Bool,
  true,
  false,
  ◌↔◌,
  ℕ,
  ◌+◌,
  ◌-◌,
  ◌*◌,
  ◌/◌,
  ◌%◌,
  ◌≤◌,
  ◌<◌,
}
use Rattle.std.proofs.Common.{sym, ap, ◌∙◌, true≢false, mul-lt-mul_of_pos_right, lt_of_mul-lt-mul_right, arith}
use Rattle.std.proofs.lemmas.Bool.{false≢true}
use Rattle.std.proofs.lemmas.List.{get_or-take, length-take-le}
use Rattle.std.proofs.Math.Nat.{mul-mod_left}
use Rattle.rules.specs.RefusalLaws.{not_passed}
use Rattle.std.specs.Prelude.{Option}
use Rattle.std.specs.Prelude.{Some, None}
use Rattle.rules.specs.Search.{lowest}
use Rattle.rules.specs.SearchLaws.{
  IsLowest,
  lowest_found,
  lowest_missing,
  lowest_is,
  lowest_none,
  lowest_skip,
  lowest_cong,
  found_below,
}
use Rattle.sizes.specs.Sizes.{lent_size_allowed, entry_count}
use Rattle.sizes.specs.SizesLaws.{lent_size}
use Rattle.room.specs.Room.{
  Range,
  range,
  SameBelow,
  EndBy,
  ranges_in,
  is_empty,
  overlaps,
  is_missing,
  lowest_free_slot,
  lowest_overlap,
  fits,
  lowest_place,
}
use Rattle.room.specs.ListLaws.{position_lowest}
use Rattle.room.specs.OverlapLaws.{overlap_true, multiple, place_ends, overlap_jump}

-- a lent deal has at most 128 slots
pub slots_high : (d : ℕ) → lent_size_allowed d ≡ true → entry_count d ≤ 128
unfolding entry_count
slots_high d t = omega (arith, (lent_size d t).lent_high)

missing_is : (f : Option ℕ) → is_missing f ≡ true → f ≡ None
missing_is (Some k) e = absurd (false≢true e)
missing_is None e = refl

found_is : (f : Option ℕ) → is_missing f ≡ false → (k : ℕ) × (f ≡ Some k)
found_is (Some k) e = (k, refl)
found_is None e = absurd (true≢false e)

module _ (ranges : ℕ → Range) (slots n : ℕ) where
  -- slot i overlaps the n bytes from o, and the n bytes from k * n fit
  abbrev overlaps_at : ℕ → ℕ → Bool
  overlaps_at o i = overlaps o n (ranges i)

  abbrev fits_at : ℕ → Bool
  fits_at k = fits ranges slots n (k * n)

  -- the n bytes from o fit exactly if they overlap no slot's
  pub fits_true : (o : ℕ) → (fits ranges slots n o ≡ true) ↔ ((i : ℕ) → i < slots → overlaps o n (ranges i) ≡ false)
  fits_true o = (
    λ e i h.
        let none = missing_is (lowest_overlap ranges slots o n) e in
        lowest_missing (overlaps_at o) 0 slots none i (omega arith) (omega arith),
    λ f. ap is_missing (lowest_none (overlaps_at o) 0 slots (λ j a b. f j (omega arith))),
  )

  -- and do not exactly if there is a slot whose bytes they overlap
  pub fits_false : (o : ℕ)
      → (fits ranges slots n o ≡ false) ↔ ((i : ℕ) × (i < slots) × (overlaps o n (ranges i) ≡ true))
  fits_false o = (
    λ e.
        let f = found_is (lowest_overlap ranges slots o n) e in
        let l = lowest_found (overlaps_at o) 0 slots f.0 f.1 in
        (f.0, omega arith, l.passes),
    λ r. not_passed (fits ranges slots n o) (λ e. true≢false (sym r.2 ∙ (fits_true o).0 e r.0 r.1)),
  )

  -- a search for a place that meets the bytes of slot i may go on at the first multiple from their end
  module _ (k i : ℕ) (z : 0 < n) (e : lowest_overlap ranges slots (k * n) n ≡ Some i) where
    abbrev end : ℕ
    end = (ranges i).offset + (ranges i).area

    met : IsLowest (overlaps_at (k * n)) 0 slots i
    met = lowest_found (overlaps_at (k * n)) 0 slots i e

    pub met_below : i < slots
    met_below = found_below (overlaps_at (k * n)) slots i e

    pub jump_on : k < (end + n - 1) / n
    jump_on =
        (place_ends k n (end + n - 1) z).1
        (omega (arith, ((overlap_true (k * n) n (ranges i).offset (ranges i).area).0 met.passes).0))

    pub jump : (count : ℕ) → lowest fits_at k (count - k) ≡ lowest fits_at ((end + n - 1) / n) (count - (end + n - 1) / n)
    jump count =
        let on = jump_on in
        lowest_skip fits_at count k ((end + n - 1) / n) (omega arith)
        (λ j a b c.
        let ends : j * n + n ≤ end + n - 1 = (place_ends j n (end + n - 1) z).0 b in
        (fits_false (j * n)).1
        (i, met_below, overlap_jump n (ranges i).offset (ranges i).area k j met.passes a (omega arith)))

  module _ (limit : ℕ) where
    -- o is the lowest place for n bytes: a multiple of n, from which they end by the limit and overlap no slot's
    pub record IsPlace (o : ℕ) : Type 0 where
      pub aligned : o % n ≡ 0
      pub ends : o + n ≤ limit
      pub apart : (i : ℕ) → i < slots → overlaps o n (ranges i) ≡ false
      pub first : (q : ℕ) → q % n ≡ 0 → q < o → fits ranges slots n q ≡ false

    -- what the search says: the lowest place, or that there is none
    pub place_found : (k : ℕ) → 0 < n → lowest_place ranges slots n limit ≡ Some k → IsPlace (k * n)
    place_found k z e =
        let l = lowest_found fits_at 0 (limit / n) k e in
        record {
          aligned = mul-mod_left k n;
          ends = (place_ends k n limit z).0 (omega arith);
          apart = (fits_true (k * n)).0 l.passes;
          first = λ q m h.
              let at : q ≡ q / n * n = multiple q n m in
              let b : q / n < k = lt_of_mul-lt-mul_right n (omega arith) in
              ap (fits ranges slots n) at ∙ l.first (q / n) (omega arith) b;
        }

    pub place_is : (o : ℕ) → 0 < n → IsPlace o → lowest_place ranges slots n limit ≡ Some (o / n)
    place_is o z l =
        let at : o ≡ o / n * n = multiple o n l.aligned in
        lowest_is fits_at 0 (limit / n) (o / n)
        (record {
          from = omega arith;
          below = omega (arith, (place_ends (o / n) n limit z).1 (omega (arith, l.ends)));
          passes = ap (fits ranges slots n) (sym at) ∙ (fits_true o).1 l.apart;
          first = λ j a b. l.first (j * n) (mul-mod_left j n) (omega (arith, mul-lt-mul_of_pos_right b z));
        })

    pub place_missing : 0 < n
        → (lowest_place ranges slots n limit ≡ None)
        ↔ ((o : ℕ) → o % n ≡ 0 → o + n ≤ limit → fits ranges slots n o ≡ false)
    place_missing z = (
      λ e o m h.
          let at : o ≡ o / n * n = multiple o n m in
          let b : o / n < limit / n = (place_ends (o / n) n limit z).1 (omega arith) in
          ap (fits ranges slots n) at ∙ lowest_missing fits_at 0 (limit / n) e (o / n) (omega arith) (omega arith),
      λ f.
          lowest_none fits_at 0 (limit / n)
          (λ j a b. f (j * n) (mul-mod_left j n) ((place_ends j n limit z).0 (omega arith))),
    )

-- the same ranges are searched alike
module _ (slots : ℕ) (r s : ℕ → Range) (same : SameBelow slots r s) where
  pub free_slot_cong : lowest_free_slot r slots ≡ lowest_free_slot s slots
  free_slot_cong =
      lowest_cong (λ i. is_empty (r i)) (λ i. is_empty (s i)) 0 slots (λ j a b. ap is_empty (same j (omega arith)))

  pub fits_cong : (n o : ℕ) → fits r slots n o ≡ fits s slots n o
  fits_cong n o =
      ap is_missing
      (lowest_cong (λ i. overlaps o n (r i)) (λ i. overlaps o n (s i)) 0 slots
      (λ j a b. ap (overlaps o n) (same j (omega arith))))

  pub place_cong : (n limit : ℕ) → lowest_place r slots n limit ≡ lowest_place s slots n limit
  place_cong n limit =
      lowest_cong (λ k. fits r slots n (k * n)) (λ k. fits s slots n (k * n)) 0 (limit / n)
      (λ k a b. fits_cong n (k * n))

-- the first ranges of a list: the same, and searched as the list is up to their number
module _ (n : ℕ) (ranges : List Range) (h : n ≤ length ranges) where
  pub first_length : length (take n ranges) ≡ n
  first_length = length-take-le n ranges h

  pub first_same : SameBelow n (ranges_in (take n ranges)) (ranges_in ranges)
  first_same i l = get_or-take n ranges i (range 0 0) l

  pub first_end : (limit : ℕ) → EndBy limit n (ranges_in ranges)
      → EndBy limit (length (take n ranges)) (ranges_in (take n ranges))
  first_end limit e i l =
      let below : i < n = omega (arith, first_length) in
      let same = first_same i below in
      omega (arith, ap (λ (r : Range). r.offset) same, ap (λ (r : Range). r.area) same, e i below)

  pub first_overlap : (o m : ℕ)
      → lowest_overlap (ranges_in (take n ranges)) (length (take n ranges)) o m
      ≡ lowest_overlap (ranges_in ranges) n o m
  first_overlap o m =
      ap (λ (k : ℕ). lowest_overlap (ranges_in (take n ranges)) k o m) first_length
      ∙ lowest_cong (λ i. overlaps o m (ranges_in (take n ranges) i)) (λ i. overlaps o m (ranges_in ranges i)) 0 n
      (λ j a b. ap (overlaps o m) (first_same j (omega arith)))

  pub first_free_slot :
      lowest_free_slot (ranges_in (take n ranges)) (length (take n ranges)) ≡ lowest_free_slot (ranges_in ranges) n
  first_free_slot =
      ap (lowest_free_slot (ranges_in (take n ranges))) first_length
      ∙ free_slot_cong n (ranges_in (take n ranges)) (ranges_in ranges) first_same

  pub first_place : (m limit : ℕ)
      → lowest_place (ranges_in (take n ranges)) (length (take n ranges)) m limit
      ≡ lowest_place (ranges_in ranges) n m limit
  first_place m limit =
      ap (λ (k : ℕ). lowest_place (ranges_in (take n ranges)) k m limit) first_length
      ∙ place_cong n (ranges_in (take n ranges)) (ranges_in ranges) first_same m limit

-- the lowest free slot of a list is the first place of a range that is empty
pub free_slot_position : (ranges : List Range)
    → position (λ r. r.area == 0) ranges ≡ lowest_free_slot (ranges_in ranges) (length ranges)
free_slot_position ranges =
    position_lowest is_empty (range 0 0) (λ i. is_empty (ranges_in ranges i)) ranges (λ j h. refl)
