-- A lent deal's own paths, as they stand in a buffer of 35 nodes.
use mathlib.Core.Path.{◌≡◌, ap, subst, ◌∙◌}
use Prim.Native.Nat.{ℕ, ◌+◌, ◌*◌, ◌≤◌}
use native.Mathlib.Omega.{arith}
use mathlib.Core.List.{List}
use lib.ListN.{length, replicate}
use Rattle.octets.specs.Splice.{part, splice}
use Rattle.octets.specs.SpliceLaws.{length_splice, part_before, part_written}
use Rattle.paths.specs.NodesSized.{NodesSized}
use Rattle.sizes.specs.Sizes.{deal_level, segment_path_levels, entry_path_levels}
use Rattle.lent.specs.LentDeal.{LentDeal, deal_size}
use Rattle.builder.specs.Build.{segment_path_of, entry_path_of}
use Rattle.builder.specs.BuildLaws.{InDeal, segment_path_length, entry_path_length}
use Rattle.settle.specs.OwnPaths.{own_paths}

-- two strings behind one another at the start of a buffer
module _ (buffer s t : List ℕ) (m n : ℕ) (ls : length s ≡ m) (lt : length t ≡ n) (room : m + n ≤ length buffer) where
  one_length : length (splice buffer 0 s) ≡ length buffer
  one_length = length_splice buffer 0 s (omega arith)

  both_length : length (splice (splice buffer 0 s) m t) ≡ length buffer
  both_length = let l = one_length in length_splice (splice buffer 0 s) m t (omega arith) ∙ l

  first_read : part (splice (splice buffer 0 s) m t) 0 m ≡ s
  first_read =
      let l = one_length in
      part_before (splice buffer 0 s) m t (omega arith) 0 m (omega arith)
      ∙ subst (λ (k : ℕ). part (splice buffer 0 s) 0 k ≡ s) ls (part_written buffer 0 s (omega arith))

  second_read : part (splice (splice buffer 0 s) m t) m n ≡ t
  second_read =
      let l = one_length in
      subst (λ (k : ℕ). part (splice (splice buffer 0 s) m t) m k ≡ t) lt
      (part_written (splice buffer 0 s) m t (omega arith))

module _ (deal : LentDeal) (each : NodesSized deal.nodes (deal_level (deal_size deal))) (place offset size : ℕ)
    (w : InDeal (deal_size deal) place offset size) where
  abbrev pub SegmentBytes : ℕ
  SegmentBytes = 32 * segment_path_levels (deal_size deal) size

  abbrev pub EntryBytes : ℕ
  EntryBytes = 32 * entry_path_levels (deal_size deal)

  pub paths_room : SegmentBytes + EntryBytes ≤ 1120
  paths_room = omega (arith, w.segment_up, w.entry_up, w.size_is.level_low, w.lent_is.lent_level)

  segment_sized : length (segment_path_of deal offset size) ≡ SegmentBytes
  segment_sized = segment_path_length deal each place offset size w

  entry_sized : length (entry_path_of deal place) ≡ EntryBytes
  entry_sized = entry_path_length deal each place offset size w

  module _ (out : List ℕ) (e : out ≡ own_paths deal offset size place (replicate 1120 0)) where
    pub own_length : length out ≡ 1120
    own_length =
        ap length e
        ∙ both_length (replicate 1120 0) (segment_path_of deal offset size) (entry_path_of deal place) SegmentBytes
        EntryBytes segment_sized entry_sized paths_room

    pub own_segment : part out 0 SegmentBytes ≡ segment_path_of deal offset size
    own_segment =
        ap (λ (x : List ℕ). part x 0 SegmentBytes) e
        ∙ first_read (replicate 1120 0) (segment_path_of deal offset size) (entry_path_of deal place) SegmentBytes
        EntryBytes segment_sized entry_sized paths_room

    pub own_entry : part out SegmentBytes EntryBytes ≡ entry_path_of deal place
    own_entry =
        ap (λ (x : List ℕ). part x SegmentBytes EntryBytes) e
        ∙ second_read (replicate 1120 0) (segment_path_of deal offset size) (entry_path_of deal place) SegmentBytes
        EntryBytes segment_sized entry_sized paths_room
