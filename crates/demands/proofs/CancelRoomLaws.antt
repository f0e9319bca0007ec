-- Room after a cancellation: bytes fit exactly where no standing entry of another slot covers them.
use Rattle.std.specs.Prelude.{◌≡◌, refl, Bool, true, false, ◌↔◌, ◌≢◌, ℕ, ◌<◌, List, length}
use Rattle.std.proofs.Common.{sym, ap, ◌∙◌, inl, arith}
use Rattle.std.proofs.Math.Decide.{ℕ_discrete}
use Rattle.sizes.specs.Sizes.{entry_count}
use Rattle.lent.specs.LentDeal.{LentDeal, deal_size}
use Rattle.index.specs.Slots.{slot_at, standing, Row}
use Rattle.index.specs.Written.{slot_of}
use Rattle.room.specs.Room.{overlap, overlaps, fits}
use Rattle.room.specs.OverlapLaws.{overlap_false}
use Rattle.room.specs.RoomLaws.{fits_true}
use Rattle.ranges.specs.Ranges.{row_range, ranges_of}
use Rattle.ranges.specs.RangesLaws.{range_stands, range_free}
use Rattle.cancel.specs.Cancel.{cancel_code, cancelled_deal}
use Rattle.cancel.proofs.CancelLaws.{cancelled_free, cancelled_row_other}
use Rattle.demands.specs.Covers.{covers}

-- no bytes cover none
none_covered : (o n : ℕ) → overlap o n 0 0 ≡ false
none_covered o n = (overlap_false o n 0 0).1 (inl (omega arith))

-- the range of a slot overlaps what its entry covers
pub covers_range : (deal : List ℕ) (n o j : ℕ) → overlaps o n (ranges_of deal j) ≡ covers deal n o j
unfolding covers
covers_range deal n o j = by_test (standing (length deal) (slot_at deal j)) refl
  where
    by_test : (b : Bool) → standing (length deal) (slot_at deal j) ≡ b
        → overlaps o n (ranges_of deal j) ≡ covers deal n o j
    by_test true e = rw e (ap (overlaps o n) (range_stands (length deal) (slot_at deal j) e))
    by_test false e =
        rw e (ap (overlaps o n) (range_free (length deal) (slot_at deal j) e) ∙ none_covered o n)

module _ (deal : LentDeal) (table : List ℕ) (house place : ℕ) (e : cancel_code deal table house place ≡ 0)
    (n o : ℕ) where
  abbrev after : List ℕ
  after = cancelled_deal deal table house place

  pub cancelled_room :
      (fits (ranges_of (cancelled_deal deal table house place)) (entry_count (deal_size deal)) n o ≡ true)
      ↔ ((j : ℕ) → j < entry_count (deal_size deal) → j ≢ slot_of (deal_size deal) place
      → covers deal.bytes n o j ≡ false)
  cancelled_room = (
    λ t j h ne.
        sym (covers_range deal.bytes n o j)
        ∙ sym (ap (λ (r : Row). overlaps o n (row_range r)) (cancelled_row_other deal table house place j h ne))
        ∙ (fits_true (ranges_of after) (entry_count (deal_size deal)) n o).0 t j h,
    λ f. (fits_true (ranges_of after) (entry_count (deal_size deal)) n o).1 (λ j h. none j h f),
  )
    where
      none : (j : ℕ) → j < entry_count (deal_size deal)
          → ((j : ℕ) → j < entry_count (deal_size deal) → j ≢ slot_of (deal_size deal) place
          → covers deal.bytes n o j ≡ false)
          → overlaps o n (ranges_of after j) ≡ false
      none j h f =
          elim (ℕ_discrete j (slot_of (deal_size deal) place)) [
            | yes here ↦
                ap (λ (k : ℕ). overlaps o n (ranges_of after k)) here
                ∙ ap (λ (r : Row). overlaps o n (row_range r)) (cancelled_free deal table house place e)
                ∙ none_covered o n
            | no ne ↦
                ap (λ (r : Row). overlaps o n (row_range r)) (cancelled_row_other deal table house place j h ne)
                ∙ covers_range deal.bytes n o j
                ∙ f j h ne
          ]
