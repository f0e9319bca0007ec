-- Where the rows of a deal lie; and what decides whether an entry is kept: its row, and the bytes of its area.
use Rattle.std.specs.Prelude.{◌≡◌, Bool, ℕ, ◌+◌, ◌≤◌, ◌<◌}
use Rattle.std.proofs.Math.Path.{refl}
use Rattle.std.proofs.Common.{sym, ap, ◌∙◌, arith}
use Rattle.std.proofs.Math.Bool.{true, false}
use mathlib.Core.List.{List}
use Rattle.octets.specs.Equality.{same_bytes}
use Rattle.merkle.specs.Tree.{node_at}
use Rattle.sizes.specs.Sizes.{index_start, entry_count, slot_place}
use Rattle.sizes.specs.SizesLaws.{DealSize, SegmentSize, SegmentPlace}
use Rattle.sizes.specs.SizesLaws.{segment_size, segment_place, slot_allowed, entry_place}
use Rattle.entries.specs.Entry.{commitment_in, offset_in, size_in}
use Rattle.index.specs.Slots.{standing, kept, holds, row_of, row_offset, row_area}
use Rattle.index.specs.SlotsLaws.{stands}
use Rattle.index.specs.KeptLaws.{row_stands, row_free, segment_node}
use Rattle.index.specs.KeptRows.{area_of, row_kept}

-- every slot lies in the deal
pub slot_within : (d i : ℕ) → DealSize d → i < entry_count d → slot_place d i + 64 ≤ d
slot_within d i t h = (entry_place d (slot_place d i) t (slot_allowed d i t h)).in_deal

module _ (d : ℕ) (entry : List ℕ) (t : DealSize d) where
  -- size and place of a standing entry's segment
  module _ (e : standing d entry ≡ true) where
    pub standing_size : SegmentSize d (size_in entry)
    standing_size = segment_size d (size_in entry) t (stands d entry e).size_allowed

    pub standing_place : SegmentPlace d (offset_in entry) (size_in entry)
    standing_place =
        segment_place d (offset_in entry) (size_in entry) t standing_size (stands d entry e).offset_allowed_lem

  -- a row ends by the index start
  pub row_ends : row_offset (row_of d entry) + row_area (row_of d entry) ≤ index_start d
  row_ends = by_test (standing d entry) refl
    where
      by_test : (b : Bool) → standing d entry ≡ b
          → row_offset (row_of d entry) + row_area (row_of d entry) ≤ index_start d
      by_test true e = rw (row_stands d entry e) (standing_place e).ends
      by_test false e = rw (row_free d entry e) (omega arith)

  -- an entry is kept exactly if its row is, by the bytes of its area
  pub kept_row_lem : (deal : List ℕ)
      → kept (node_at deal) d entry ≡ row_kept (row_of d entry) (area_of deal (row_of d entry))
  unfolding kept row_kept
  kept_row_lem deal = by_test (standing d entry) refl
    where
      by_test : (b : Bool) → standing d entry ≡ b
          → kept (node_at deal) d entry ≡ row_kept (row_of d entry) (area_of deal (row_of d entry))
      by_test true e =
          rw (e, row_stands d entry e)
          (ap (λ (n : List ℕ). same_bytes n (commitment_in entry))
          (segment_node deal d (offset_in entry) (size_in entry) (standing_size e) (standing_place e)))
      by_test false e = rw (e, row_free d entry e)

  -- so it is kept alike in two deals with the same bytes there
  pub kept_same : (deal other : List ℕ) → area_of other (row_of d entry) ≡ area_of deal (row_of d entry)
      → kept (node_at other) d entry ≡ kept (node_at deal) d entry
  kept_same deal other e = kept_row_lem other ∙ ap (row_kept (row_of d entry)) e ∙ sym (kept_row_lem deal)

-- a row that has bytes is that of a standing entry
pub row_some : (d : ℕ) (entry : List ℕ) → 0 < row_area (row_of d entry) → standing d entry ≡ true
row_some d entry h = by_test (standing d entry) refl
  where
    by_test : (b : Bool) → standing d entry ≡ b → b ≡ true
    by_test true e = refl
    by_test false e = absurd (omega (arith, ap row_area (row_free d entry e)))

-- a row's commitment and size decide with the area's bytes, wherever these stand
pub row_moved : (commitment : List ℕ) (offset at size : ℕ) (bytes : List ℕ)
    → row_kept (holds commitment at size) bytes ≡ row_kept (holds commitment offset size) bytes
unfolding row_kept
row_moved commitment offset at size bytes = refl
