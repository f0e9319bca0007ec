-- `both`: after i turns the first i words of each half stand.
use mathlib.Core.Path.{◌≡◌}
use lib.ListN.{length, get_or, take, drop}
use Rattle.sha256.specs.Table.{table}
use Rattle.lanes.proofs.block.both.Given as goal

abbrev pub invariant-loop-i : goal.invariant-loop-i
invariant-loop-i l =
    (length l.w ≡ 256)
    × (take l.i l.w ≡ table (λ j. get_or l.left j 0) l.i)
    × (take l.i (drop 128 l.w) ≡ table (λ j. get_or l.right j 0) l.i)
