-- Up to sixteen nodes of a row at once: the pairs they are over.
use Rattle.std.specs.Prelude.{ℕ, ◌+◌, ◌*◌, List, ◌++◌}
use Rattle.octets.specs.Splice.{part}

-- pair l of those that stand side by side from a place on
abbrev pub pair_from : List ℕ → ℕ → ℕ → List ℕ
pair_from run at l = part run (at + l * 64) 32 ++ part run (at + 32 + l * 64) 32
