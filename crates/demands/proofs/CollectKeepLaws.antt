-- What the slots of a collected deal keep: a standing entry's new slot keeps the segments, and the commitments, that
-- its old one kept, for the house for which it kept them.
use Rattle.std.specs.Prelude.{◌≡◌, Bool, true, ◌&&◌, ℕ, ◌<◌, length, eqb}
use Rattle.std.proofs.Common.{sym, ap, ◌∙◌, subst}
use Rattle.std.proofs.Math.Path.{ap₂}
use mathlib.Core.List.{List}
use Rattle.octets.specs.Equality.{same_bytes}
use Rattle.sizes.specs.Sizes.{entry_count}
use Rattle.sizes.specs.SizesLaws.{DealSize}
use Rattle.entries.specs.Entry.{commitment_in, offset_in, size_in}
use Rattle.lent.specs.LentDeal.{lent_deal}
use Rattle.index.specs.Slots.{slot_at, standing, holds, row_at, Row}
use Rattle.index.specs.KeptLaws.{row_stands}
use Rattle.index.specs.KeptRows.{area_of}
use Rattle.index.specs.Find.{keeps_commitment}
use Rattle.booking.specs.Booking.{keeps_segment, keeps_own}
use Rattle.booking.specs.KeepRows.{row_keeps}
use Rattle.booking.specs.KeepRowsLaws.{keeps_row, keeps_moved}
use Rattle.collect.specs.Collect.{slot_to, offset_to, collected_deal, collected_table}
use Rattle.collect.proofs.MovesLaws.{sized}
use Rattle.collect.specs.Collectable.{Collectable}
use Rattle.collect.proofs.CollectLaws.{collected_length}
use Rattle.collect.proofs.OwnersLaws.{moved_owner}
use Rattle.collect.proofs.CollectRows.{collected_row, collected_kept, moved_commitment, moved_area}

module _ {deal : List ℕ} (c : Collectable deal) (j : ℕ) (h : j < entry_count (length deal))
    (e : standing (length deal) (slot_at deal j) ≡ true) where
  abbrev entry : List ℕ
  entry = slot_at deal j

  abbrev new : List ℕ
  new = collected_deal deal

  -- the row as it was, and where it moves
  abbrev was : Row
  was = holds (commitment_in entry) (offset_in entry) (size_in entry)

  abbrev moved : Row
  moved = holds (commitment_in entry) (offset_to deal j) (size_in entry)

  row_was : row_at deal j ≡ was
  row_was = row_stands (length deal) entry e

  row_moved : row_at new (slot_to deal j) ≡ moved
  row_moved = collected_row c j h e ∙ ap (λ (r : Row). holds r.commitment (offset_to deal j) r.size) row_was

  pub collected_keeps : (segment : List ℕ)
      → keeps_segment (lent_deal (collected_deal deal)) segment (slot_to deal j)
      ≡ keeps_segment (lent_deal deal) segment j
  collected_keeps segment =
      keeps_row new segment (slot_to deal j) (subst DealSize (sym (collected_length c)) (sized c))
      ∙ ap (λ (r : Row). row_keeps segment r (area_of new r)) row_moved
      ∙ ap (row_keeps segment moved) (moved_area c j h e)
      ∙ keeps_moved segment (commitment_in entry) (offset_in entry) (offset_to deal j) (size_in entry)
      (area_of deal was)
      ∙ sym (ap (λ (r : Row). row_keeps segment r (area_of deal r)) row_was)
      ∙ sym (keeps_row deal segment j (sized c))

  pub collected_own : (table : List ℕ) (house : ℕ) (segment : List ℕ)
      → keeps_own (lent_deal (collected_deal deal)) (collected_table deal table) house segment (slot_to deal j)
      ≡ keeps_own (lent_deal deal) table house segment j
  collected_own table house segment =
      ap₂ ◌&&◌ (ap (λ (owner : ℕ). eqb owner house) (moved_owner c table j h e)) (collected_keeps segment)

  pub collected_names : (commitment : List ℕ)
      → keeps_commitment (lent_deal (collected_deal deal)) commitment (slot_to deal j)
      ≡ keeps_commitment (lent_deal deal) commitment j
  unfolding keeps_commitment
  collected_names commitment =
      ap₂ (λ (k : Bool) (named : List ℕ). k && same_bytes named commitment) (collected_kept c j h e)
      (moved_commitment c j h e)
