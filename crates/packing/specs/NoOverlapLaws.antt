-- The test for code 20: passed exactly if no two ranges overlap.
use Rattle.std.specs.Prelude.{◌≡◌, Bool, true, false, ◌↔◌, ◌≢◌, ◌⊎◌, ℕ, ◌+◌, ◌<◌}
use Rattle.std.proofs.Math.Path.{refl}
use Rattle.std.proofs.Common.{sym, ap, ◌∙◌, true≢false, inl, inr, ⊎_elim, arith}
use Rattle.std.proofs.Math.Decide.{dec_lt}
use Rattle.std.proofs.lemmas.Bool.{not-true, not-false}
use Rattle.rules.specs.RefusalLaws.{not_passed}
use Rattle.std.specs.Prelude.{Option}
use Rattle.std.specs.Prelude.{Some, None}
use Rattle.rules.specs.Search.{lowest}
use Rattle.rules.specs.SearchLaws.{lowest_found, lowest_missing}
use Rattle.room.specs.Room.{Range, SameBelow, is_empty, is_missing, fits}
use Rattle.room.specs.RoomLaws.{fits_true, fits_false}
use Rattle.room.specs.OverlapLaws.{overlap_true, overlap_false}
use Rattle.packing.specs.Apart.{Beside, RangesApart, TwoOverlap, EmptyAtZero}
use Rattle.packing.specs.Order.{overlaps_lower, none_overlaps}
use Rattle.packing.specs.OrderLaws.{empty_area}

module _ (ranges : ℕ → Range) (slots : ℕ) where
  -- the two ways that the search ends
  abbrev Ends : Bool → Type 0
  Ends passed = ((passed ≡ true) × RangesApart ranges slots) ⊎ ((passed ≡ false) × TwoOverlap ranges slots)

  ends : (f : Option ℕ) → lowest (overlaps_lower ranges) 0 slots ≡ f → Ends (is_missing f)
  ends None e =
      inl (
        refl,
        λ i j hi hj ne.
            elim (dec_lt j i) [
              | yes l ↦ higher i j hi l
              | no m ↦ ⊎_elim (λ a. inr a) (λ b. inl b) (higher j i hj (omega arith))
            ],
      )
    where
      higher : (i j : ℕ) → i < slots → j < i
          → Beside (ranges i).offset (ranges i).area (ranges j).offset (ranges j).area
      higher i j h l =
          let n = (ranges i).area in
          let o = (ranges i).offset in
          let beside =
          not-false (fits ranges i n o)
          (lowest_missing (overlaps_lower ranges) 0 slots e i (omega arith) (omega arith)) in
          (overlap_false o n (ranges j).offset (ranges j).area).0 ((fits_true ranges i n o).0 beside j l)
  ends (Some i) e =
      let l = lowest_found (overlaps_lower ranges) 0 slots i e in
      let n = (ranges i).area in
      let o = (ranges i).offset in
      let f = (fits_false ranges i n o).0 (not-true (fits ranges i n o) l.passes) in
      inr (
        refl,
        record { upper = i; lower = f.0; in_slots = omega (arith, l.below); below = f.1; common = f.2 },
      )

  ended : Ends (none_overlaps ranges slots)
  unfolding none_overlaps
  ended = ends (lowest (overlaps_lower ranges) 0 slots) refl

  -- each of two that overlap starts before the other ends
  starts : (t : TwoOverlap ranges slots)
      → let r = ranges t.upper in
      let s = ranges t.lower in
      (r.offset < s.offset + s.area) × (s.offset < r.offset + r.area)
  starts t =
      let r = ranges t.upper in
      let s = ranges t.lower in
      (overlap_true r.offset r.area s.offset s.area).0 t.common

  not_both : RangesApart ranges slots → TwoOverlap ranges slots → ⊥
  not_both apart t =
      let c = starts t in
      ⊎_elim (λ a. omega arith) (λ b. omega arith)
      (apart t.upper t.lower t.in_slots (omega (arith, t.in_slots, t.below)) (λ e. omega (arith, t.below)))

  pub none_overlaps_lem : (none_overlaps ranges slots ≡ true) ↔ RangesApart ranges slots
  none_overlaps_lem = (
    λ e. ⊎_elim (λ p. p.1) (λ q. absurd (true≢false (sym e ∙ q.0))) ended,
    λ apart. ⊎_elim (λ p. p.0) (λ q. absurd (not_both apart q.1)) ended,
  )

  -- and failed exactly if two do
  pub two_overlap : (none_overlaps ranges slots ≡ false) ↔ TwoOverlap ranges slots
  two_overlap = (
    λ e. ⊎_elim (λ p. absurd (true≢false (sym p.0 ∙ e))) (λ q. q.1) ended,
    λ t. ⊎_elim (λ p. absurd (not_both p.1 t)) (λ q. q.0) ended,
  )

  -- these have bytes, where an empty range starts at 0
  module _ (at_zero : EmptyAtZero ranges slots) where
    pub overlap_full : (t : TwoOverlap ranges slots)
        → (is_empty (ranges t.upper) ≡ false) × (is_empty (ranges t.lower) ≡ false)
    overlap_full t =
        let i = t.upper in
        let j = t.lower in
        let c = starts t in (
          not_passed (is_empty (ranges i))
              (λ e. omega (arith, c.1, empty_area (ranges i) e, at_zero i t.in_slots e)),
          not_passed (is_empty (ranges j))
              (λ e. omega (arith, c.0, empty_area (ranges j) e, at_zero j (omega (arith, t.in_slots, t.below)) e)),
        )

    -- so that only ranges with bytes have to be looked at
    pub full_apart : ((i j : ℕ) → i < slots → j < slots → i ≢ j → is_empty (ranges i) ≡ false
        → is_empty (ranges j) ≡ false → Beside (ranges i).offset (ranges i).area (ranges j).offset (ranges j).area)
        → RangesApart ranges slots
    full_apart f i j hi hj ne = by_tests (is_empty (ranges i)) (is_empty (ranges j)) refl refl
      where
        by_tests : (b c : Bool) → is_empty (ranges i) ≡ b → is_empty (ranges j) ≡ c
            → Beside (ranges i).offset (ranges i).area (ranges j).offset (ranges j).area
        by_tests true c e d = inr (omega (arith, empty_area (ranges i) e, at_zero i hi e))
        by_tests false true e d = inl (omega (arith, empty_area (ranges j) d, at_zero j hj d))
        by_tests false false e d = f i j hi hj ne e d

-- the same ranges pass the same test
apart_same : (slots : ℕ) (r s : ℕ → Range) → SameBelow slots r s → RangesApart r slots → RangesApart s slots
apart_same slots r s same apart i j hi hj ne =
    let oi = ap (λ (x : Range). x.offset) (same i hi) in
    let ai = ap (λ (x : Range). x.area) (same i hi) in
    let oj = ap (λ (x : Range). x.offset) (same j hj) in
    let aj = ap (λ (x : Range). x.area) (same j hj) in
    ⊎_elim (λ a. inl (omega arith)) (λ b. inr (omega arith)) (apart i j hi hj ne)

pub none_overlaps_same : (slots : ℕ) (r s : ℕ → Range) → SameBelow slots r s
    → none_overlaps r slots ≡ none_overlaps s slots
none_overlaps_same slots r s same = by_test (none_overlaps s slots) refl
  where
    by_test : (b : Bool) → none_overlaps s slots ≡ b → none_overlaps r slots ≡ b
    by_test true e =
        (none_overlaps_lem r slots).1 (apart_same slots s r (λ i h. sym (same i h)) ((none_overlaps_lem s slots).0 e))
    by_test false e =
        not_passed (none_overlaps r slots)
        (λ t.
        true≢false (sym ((none_overlaps_lem s slots).1 (apart_same slots r s same ((none_overlaps_lem r slots).0 t))) ∙ e))
