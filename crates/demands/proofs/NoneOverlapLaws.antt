-- Where no standing area overlaps another, none does after a segment is written or an entry is cancelled. So it is in
-- an all-zero deal; and in a collected one (crates/collect/proofs/CollectPacked.antt, `collected_apart`).
use Rattle.std.specs.Prelude.{◌≡◌, refl, Bool, true, false, ◌≢◌, ◌⊎◌, ℕ, ◌<◌, List, length, replicate}
use Rattle.std.proofs.Common.{sym, ap, ◌∙◌, subst, subst₂, inl, inr, ⊎_elim, arith}
use Rattle.std.proofs.Math.Decide.{ℕ_discrete}
use Rattle.sizes.specs.Sizes.{area, entry_count}
use Rattle.sizes.specs.SizesLaws.{DealSize}
use Rattle.lent.specs.LentDeal.{LentDeal, deal_size}
use Rattle.index.specs.Slots.{slot_at, standing}
use Rattle.index.specs.Written.{slot_of}
use Rattle.room.specs.Room.{Range, range}
use Rattle.room.specs.OverlapLaws.{overlap_false}
use Rattle.ranges.specs.Ranges.{row_range, ranges_of}
use Rattle.ranges.specs.RangesLaws.{range_stands, range_free}
use Rattle.packing.specs.Apart.{Beside, RangesApart}
use Rattle.packing.specs.NoOverlapLaws.{none_overlaps_lem}
use Rattle.booking.specs.Write.{written_deal}
use Rattle.booking.specs.WriteLaws.{Fits, written_length, row_written, row_same}
use Rattle.cancel.specs.Cancel.{cancel_code, cancelled_deal}
use Rattle.cancel.proofs.CancelLaws.{refused_same, cancelled_length, cancelled_free, cancelled_row_other}
use Rattle.demands.specs.NoneOverlap.{NoneOverlap}
use Rattle.demands.proofs.ZeroDealLaws.{none_stands}

abbrev BesideEachOther : Range → Range → Type 0
BesideEachOther r s = Beside r.offset r.area s.offset s.area

-- a segment was written in slot k at the offset o
module _ {deal segment : List ℕ} {k o : ℕ} (facts : Fits deal segment k o) where
  abbrev after : List ℕ
  after = written_deal deal segment k o

  abbrev n : ℕ
  n = area (length segment)

  -- the slot takes up its area, and every other slot what it took up
  pub range_new : ranges_of (written_deal deal segment k o) k ≡ range o (area (length segment))
  range_new = ap row_range (row_written facts)

  range_other : (j : ℕ) → j < entry_count (length deal) → j ≢ k → ranges_of after j ≡ ranges_of deal j
  range_other j h ne = ap row_range (row_same facts j h ne)

  beside_new : (j : ℕ) → j < entry_count (length deal) → Beside o n (ranges_of deal j).offset (ranges_of deal j).area
  beside_new j h = by_test (standing (length deal) (slot_at deal j)) refl
    where
      by_test : (b : Bool) → standing (length deal) (slot_at deal j) ≡ b
          → Beside o n (ranges_of deal j).offset (ranges_of deal j).area
      by_test true e =
          subst (λ (r : Range). Beside o n r.offset r.area) (sym (range_stands (length deal) (slot_at deal j) e))
          ((overlap_false o n _ _).0 (facts.apart j h e))
      by_test false e =
          subst (λ (r : Range). Beside o n r.offset r.area) (sym (range_free (length deal) (slot_at deal j) e))
          (inl (omega arith))

  still_apart : RangesApart (ranges_of deal) (entry_count (length deal))
      → RangesApart (ranges_of after) (entry_count (length deal))
  still_apart apart i j hi hj ne =
      elim (ℕ_discrete i k) [
        | yes new ↦
            subst₂ BesideEachOther (sym (ap (ranges_of after) new ∙ range_new))
            (sym (range_other j hj (λ same. ne (new ∙ sym same)))) (beside_new j hj)
        | no old ↦
            elim (ℕ_discrete j k) [
              | yes new ↦
                  subst₂ BesideEachOther (sym (range_other i hi old)) (sym (ap (ranges_of after) new ∙ range_new))
                  (⊎_elim (λ x. inr x) (λ y. inl y) (beside_new i hi))
              | no old' ↦
                  subst₂ BesideEachOther (sym (range_other i hi old)) (sym (range_other j hj old'))
                  (apart i j hi hj ne)
            ]
      ]

  pub written_apart : NoneOverlap deal → NoneOverlap (written_deal deal segment k o)
  written_apart e =
      let slots = ap entry_count (written_length facts) in
      (none_overlaps_lem (ranges_of after) (entry_count (length after))).1
      (subst (RangesApart (ranges_of after)) (sym slots)
      (still_apart ((none_overlaps_lem (ranges_of deal) (entry_count (length deal))).0 e)))

-- ranges apart of which some are given up
fewer_apart : (slots : ℕ) (r s : ℕ → Range) → ((i : ℕ) → i < slots → (s i ≡ r i) ⊎ (s i ≡ range 0 0))
    → RangesApart r slots → RangesApart s slots
fewer_apart slots r s fewer apart i j hi hj ne =
    ⊎_elim
    (λ same.
    ⊎_elim
    (λ same'. subst₂ BesideEachOther (sym same) (sym same') (apart i j hi hj ne))
    (λ none'. subst (BesideEachOther (s i)) (sym none') (inl (omega arith)))
    (fewer j hj))
    (λ none. subst (λ (x : Range). BesideEachOther x (s j)) (sym none) (inr (omega arith)))
    (fewer i hi)

-- an entry was cancelled: its slot takes up nothing, and every other slot what it took up
module _ (deal : LentDeal) (table : List ℕ) (house place : ℕ) where
  abbrev left : List ℕ
  left = cancelled_deal deal table house place

  range_left : cancel_code deal table house place ≡ 0 → (j : ℕ) → j < entry_count (deal_size deal)
      → (ranges_of left j ≡ ranges_of deal.bytes j) ⊎ (ranges_of left j ≡ range 0 0)
  range_left e j h =
      elim (ℕ_discrete j (slot_of (deal_size deal) place)) [
        | yes here ↦ inr (ap (ranges_of left) here ∙ ap row_range (cancelled_free deal table house place e))
        | no other ↦ inl (ap row_range (cancelled_row_other deal table house place j h other))
      ]

  pub cancelled_apart : NoneOverlap deal.bytes → NoneOverlap (cancelled_deal deal table house place)
  cancelled_apart e =
      elim (ℕ_discrete (cancel_code deal table house place) 0) [
        | yes z ↦
            let slots = entry_count (deal_size deal) in
            (none_overlaps_lem (ranges_of left) (entry_count (length left))).1
            (subst (λ (d : ℕ). RangesApart (ranges_of left) (entry_count d))
            (sym (cancelled_length deal table house place))
            (fewer_apart slots (ranges_of deal.bytes) (ranges_of left) (range_left z)
            ((none_overlaps_lem (ranges_of deal.bytes) slots).0 e)))
        | no r ↦ subst NoneOverlap (sym (refused_same deal table house place r)) e
      ]

-- no slot of an all-zero deal takes up anything
pub zeros_apart : (d : ℕ) → DealSize (length (replicate {A = ℕ} d 0)) → NoneOverlap (replicate d 0)
zeros_apart d t =
    let zeros : List ℕ = replicate d 0 in
    let slots = entry_count (length zeros) in
    (none_overlaps_lem (ranges_of zeros) slots).1
    (fewer_apart slots (λ i. range 0 0) (ranges_of zeros)
    (λ i h. inr (range_free (length zeros) (slot_at zeros i) (none_stands d i t h)))
    (λ i j hi hj ne. inl (omega arith)))
