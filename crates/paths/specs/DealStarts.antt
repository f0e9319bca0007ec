-- Where the two paths of a record start in a deal of d bytes (document 01, "The record"): the segment path at the
-- segment's node, the entry path at the node over the 64 bytes of the entry.
use Rattle.std.specs.Prelude.{ℕ}
use Rattle.sizes.specs.Sizes.{segment_level, segment_path_levels, entry_path_levels, segment_position, entry_position}
use Rattle.paths.specs.Start.{PathStart, path_start}

abbrev pub segment_start : ℕ → ℕ → ℕ → PathStart
segment_start d offset size =
    path_start (segment_path_levels d size) (segment_level size) (segment_position offset size)

abbrev pub entry_start : ℕ → ℕ → PathStart
entry_start d place = path_start (entry_path_levels d) 1 (entry_position place)
