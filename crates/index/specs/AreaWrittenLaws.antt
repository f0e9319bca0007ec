-- A deal with bytes below its index replaced: they stand at their offset, and nothing else changes of the deal's
-- length, of the bytes elsewhere, of the slots and their rows, and of what is kept in areas apart from them.
use Rattle.std.specs.Prelude.{◌≡◌, true, ◌⊎◌, ℕ, ◌+◌, ◌*◌, ◌≤◌, ◌<◌, List, length}
use Rattle.std.proofs.Math.Path.{ap}
use Rattle.std.proofs.Common.{ap₂, ◌∙◌, arith}
use Rattle.std.proofs.Math.Logic.{⊎_elim}
use Rattle.octets.specs.Bytes.{Bytes}
use Rattle.octets.specs.Splice.{part, splice}
use Rattle.octets.specs.SpliceLaws.{length_splice, bytes_splice, part_before, part_after, part_written, splice_own}
use Rattle.stray.specs.StrayBits.{no_stray_bits}
use Rattle.stray.specs.StrayBitsLaws.{splice_clear}
use Rattle.merkle.specs.Tree.{node_at}
use Rattle.sizes.specs.Sizes.{entry_count, index_start, slot_place}
use Rattle.sizes.specs.SizesLaws.{DealSize, index_start_le}
use Rattle.lent.specs.LentDeal.{lent_deal}
use Rattle.index.specs.Slots.{slot_at, kept, kept_at, row_of, row_at, row_offset, row_area}
use Rattle.index.specs.KeptRowsLaws.{slot_within, row_ends, kept_same}
use Rattle.index.specs.Written.{with_area}

-- of two ranges one ends by the start of the other
abbrev pub Apart : ℕ → ℕ → ℕ → ℕ → Type 0
Apart at n offset m = (at + n ≤ offset) ⊎ (offset + m ≤ at)

-- what stands there already changes nothing
pub with_area_own : (deal : List ℕ) (offset : ℕ) (bytes : List ℕ) → part deal offset (length bytes) ≡ bytes
    → with_area deal offset bytes ≡ deal
unfolding with_area
with_area_own deal offset bytes e = splice_own deal offset bytes e

module _ (deal : List ℕ) (offset : ℕ) (bytes : List ℕ) (t : DealSize (length deal))
    (h : offset + length bytes ≤ index_start (length deal)) where
  fits : offset + length bytes ≤ length deal
  fits = omega (arith, h, index_start_le (length deal))

  pub with_area_length : length (with_area deal offset bytes) ≡ length deal
  unfolding with_area
  with_area_length = length_splice deal offset bytes fits

  pub with_area_bytes : Bytes deal → Bytes bytes → Bytes (with_area deal offset bytes)
  unfolding with_area
  with_area_bytes b c = bytes_splice deal offset bytes b c

  -- the bytes at the offset, and all others
  pub with_area_here : part (with_area deal offset bytes) offset (length bytes) ≡ bytes
  unfolding with_area
  with_area_here = part_written deal offset bytes fits

  pub with_area_other : (at n : ℕ) → at + n ≤ length deal → Apart at n offset (length bytes)
      → part (with_area deal offset bytes) at n ≡ part deal at n
  unfolding with_area
  with_area_other at n k apart =
      ⊎_elim
      (λ before. part_before deal offset bytes fits at n before)
      (λ after. part_after deal offset bytes fits at n after k)
      apart

  -- slots and rows
  pub with_area_slot : (j : ℕ) → j < entry_count (length deal)
      → slot_at (with_area deal offset bytes) j ≡ slot_at deal j
  unfolding with_area slot_place
  with_area_slot j g =
      let within = slot_within (length deal) j t g in
      ap (λ (d : ℕ). part (with_area deal offset bytes) (slot_place d j) 64) with_area_length
      ∙ part_after deal offset bytes fits (slot_place (length deal) j) 64 (omega (arith, h)) within

  pub with_area_row : (j : ℕ) → j < entry_count (length deal) → row_at (with_area deal offset bytes) j ≡ row_at deal j
  with_area_row j g = ap₂ row_of with_area_length (with_area_slot j g)

  -- what is kept elsewhere
  pub with_area_kept : (j : ℕ) → j < entry_count (length deal)
      → Apart (row_offset (row_at deal j)) (row_area (row_at deal j)) offset (length bytes)
      → kept_at (lent_deal (with_area deal offset bytes)) j ≡ kept_at (lent_deal deal) j
  with_area_kept j g apart =
      let row = row_at deal j in
      let ends : row_offset row + row_area row ≤ length deal =
      omega (arith, row_ends (length deal) (slot_at deal j) t, index_start_le (length deal)) in
      ap₂ (kept (node_at (with_area deal offset bytes))) with_area_length (with_area_slot j g)
      ∙ kept_same (length deal) (slot_at deal j) t deal (with_area deal offset bytes)
      (with_area_other (row_offset row) (row_area row) ends apart)

  -- stray bits: none come in but by the new bytes, where these are whole nodes
  pub with_area_clear : (q n : ℕ) → offset ≡ q * 32 → length bytes ≡ n * 32
      → no_stray_bits deal ≡ true → no_stray_bits bytes ≡ true → no_stray_bits (with_area deal offset bytes) ≡ true
  unfolding with_area
  with_area_clear q n at size e f =
      ap (λ (m : ℕ). no_stray_bits (splice deal m bytes)) at
      ∙ splice_clear deal bytes q n size (omega (arith, fits)) e f
