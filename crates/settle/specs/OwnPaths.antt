-- A lent deal's own paths, as settling writes them: the segment's from 0 on, and the entry's behind it.
use Rattle.std.specs.Prelude.{ℕ, ◌*◌, List}
use Rattle.octets.specs.Splice.{splice}
use Rattle.sizes.specs.Sizes.{segment_path_levels}
use Rattle.lent.specs.LentDeal.{LentDeal, deal_size}
use Rattle.builder.specs.Build.{segment_path_of, entry_path_of}

abbrev pub own_paths : LentDeal → ℕ → ℕ → ℕ → List ℕ → List ℕ
own_paths deal offset size place out =
    splice (splice out 0 (segment_path_of deal offset size)) (32 * segment_path_levels (deal_size deal) size)
    (entry_path_of deal place)
