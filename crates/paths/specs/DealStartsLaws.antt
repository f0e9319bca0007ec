-- The two starts lie in the deal's tree.
use Rattle.std.specs.Prelude.{ℕ, ◌≤◌, ◌<◌}
use Rattle.std.proofs.Common.{arith}
use Rattle.sizes.specs.Sizes.{deal_level, segment_level}
use Rattle.sizes.specs.SizesLaws.{DealSize, SegmentSize, SegmentPlace, EntryPlace}
use Rattle.paths.specs.Start.{InTree}
use Rattle.paths.specs.DealStarts.{segment_start, entry_start}

pub segment_in : {d offset size : ℕ} → SegmentSize d size → SegmentPlace d offset size
    → InTree (deal_level d) (segment_start d offset size)
segment_in {d} {offset} {size} a p =
    let below : segment_level size < deal_level d = a.below_deal in
    record { up = omega arith; among = p.position_in }

pub entry_in : {d place : ℕ} → DealSize d → EntryPlace d place → InTree (deal_level d) (entry_start d place)
entry_in {d} {place} t p =
    let low : 4 ≤ deal_level d = t.level_low in
    record { up = omega arith; among = p.position_in }
