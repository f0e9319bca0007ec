-- The row of a standing entry, and what decides whether an entry is kept: one node over its area.
use Rattle.std.specs.Prelude.{◌≡◌, true, false, ℕ, ◌*◌, ◌^◌, List}
use Rattle.std.proofs.Common.{sym, ap, ap₂, ◌∙◌}
use Rattle.rules.specs.RefusalLaws.{and_left, and_same}
use Rattle.octets.specs.Equality.{same_bytes}
use Rattle.octets.specs.Splice.{part}
use Rattle.merkle.specs.Tree.{commitment_of, node_at}
use Rattle.merkle.specs.TreeLaws.{node_part}
use Rattle.merkle.specs.NodeSource.{NodeSource}
use Rattle.sizes.specs.Sizes.{area, segment_level, segment_position}
use Rattle.sizes.specs.SizesLaws.{SegmentSize, SegmentPlace}
use Rattle.entries.specs.Entry.{commitment_in, offset_in, size_in}
use Rattle.index.specs.Slots.{standing, node_over, kept, free, holds, row_of}

pub row_stands : (d : ℕ) (entry : List ℕ) → standing d entry ≡ true
    → row_of d entry ≡ holds (commitment_in entry) (offset_in entry) (size_in entry)
unfolding row_of
row_stands d entry e = rw e

pub row_free : (d : ℕ) (entry : List ℕ) → standing d entry ≡ false → row_of d entry ≡ free
unfolding row_of
row_free d entry e = rw e

-- a kept entry stands
pub kept_stands : (nodes : NodeSource) (d : ℕ) (entry : List ℕ) → kept nodes d entry ≡ true → standing d entry ≡ true
unfolding kept
kept_stands nodes d entry e = and_left (standing d entry) (same_bytes (node_over nodes entry) (commitment_in entry)) e

-- kept asks for one node alone, and only where the entry stands
pub kept_cong : (nodes others : NodeSource) (d : ℕ) (entry : List ℕ)
    → (standing d entry ≡ true → node_over nodes entry ≡ node_over others entry)
    → kept nodes d entry ≡ kept others d entry
unfolding kept
kept_cong nodes others d entry f =
    and_same (standing d entry) (same_bytes (node_over nodes entry) (commitment_in entry))
    (same_bytes (node_over others entry) (commitment_in entry))
    (λ s. ap (λ (n : List ℕ). same_bytes n (commitment_in entry)) (f s))

-- which it is depends on the offset and the area alone: sizes with one area have one node
pub area_node : (nodes : NodeSource) (offset m n : ℕ) → area m ≡ area n
    → nodes (segment_level m) (segment_position offset m) ≡ nodes (segment_level n) (segment_position offset n)
unfolding segment_level segment_position
area_node nodes offset m n e = rw e

-- that node, worked out from a deal's bytes, is the commitment of the entry's area
pub segment_node : (deal : List ℕ) (d offset size : ℕ) → SegmentSize d size → SegmentPlace d offset size
    → node_at deal (segment_level size) (segment_position offset size)
    ≡ commitment_of (segment_level size) (part deal offset (area size))
segment_node deal d offset size s p =
    let at : segment_position offset size * (32 * 2 ^ segment_level size) ≡ offset =
    ap (λ (n : ℕ). segment_position offset size * n) (sym s.area_is) ∙ sym p.at_position in
    node_part deal (segment_level size) (segment_position offset size)
    ∙ ap₂ (λ (m n : ℕ). commitment_of (segment_level size) (part deal m n)) at (sym s.area_is)
