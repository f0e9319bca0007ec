-- A sound deal whose standing entries all keep segments of a kind, each with the segment's size and the zeros after it:
-- the segments, say, that the calls book which led to it from an all-zero deal (KeepsOnlyLaws.run_keeps). That an entry
-- is kept says less, since the bytes after its size are not asked to be zeros.
use Rattle.std.specs.Prelude.{◌≡◌, true, ℕ, ◌<◌, List, length}
use Rattle.sizes.specs.Sizes.{entry_count}
use Rattle.lent.specs.LentDeal.{lent_deal}
use Rattle.index.specs.Slots.{slot_at, standing}
use Rattle.booking.specs.Write.{segment_commitment}
use Rattle.booking.specs.Booking.{keeps_segment}
use Rattle.demands.specs.Sound.{Sound}

-- no two different segments of the kind P share commitment and size (for those of a day's calls: Day.NoTwoShare)
abbrev pub Distinct : (List ℕ → Type 0) → Type 0
Distinct P = (s t : List ℕ) → P s → P t → segment_commitment s ≡ segment_commitment t → length s ≡ length t → s ≡ t

-- slot i keeps a segment of the kind P
pub record KeepsOne (P : List ℕ → Type 0) (deal : List ℕ) (i : ℕ) : Type 0 where
  pub segment : List ℕ
  pub of_kind_lem : P segment
  pub keeps_it : keeps_segment (lent_deal deal) segment i ≡ true

-- and so does every slot with a standing entry
pub record KeepsOnly (P : List ℕ → Type 0) (deal : List ℕ) : Type 0 where
  pub sound : Sound deal
  pub each_keeps : (i : ℕ) → i < entry_count (length deal) → standing (length deal) (slot_at deal i) ≡ true
      → KeepsOne P deal i
