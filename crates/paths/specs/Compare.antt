-- Two paths from the same position, compared from the bottom up: what was last seen to differ is the first difference
-- from the top.
use Rattle.std.specs.Prelude.{true, false, ℕ, zero, suc, ◌/◌, List, length, take, drop, replicate, Option, Some, None}
use Rattle.rules.specs.Choice.{choose}
use Rattle.octets.specs.Equality.{same_bytes}
use Rattle.node.specs.Node.{node_hash}
use Rattle.paths.specs.Path.{pair_of}
use Rattle.paths.specs.Strings.{path_strings}
use Rattle.paths.specs.Difference.{Difference, same, differ, first_difference}
use Rattle.paths.specs.declared.Compared.{Compared}
use Rattle.paths.specs.declared.Difference as D

-- no difference: two strings of 64 zero bytes
abbrev pub equal : Compared
equal = record { differs = false; left = replicate 64 0; right = replicate 64 0 }

abbrev pub unequal : List ℕ → List ℕ → Compared
unequal v w = record { differs = true; left = v; right = w }

-- a difference as an answer
abbrev pub compared : Difference → Compared
compared same = equal
compared (differ v w) = unequal v w

-- what was seen to differ, from the code's answer
abbrev pub seen_as : Option D.Difference → Compared
seen_as None = equal
seen_as (Some strings) = unequal strings.left strings.right

-- one more pair of strings above what was seen so far
abbrev pub compared_above : Compared → List ℕ → List ℕ → Compared
compared_above seen v w = choose (same_bytes v w) seen (unequal v w)

-- n levels up along two paths from position p
unfoldable pub compared_up : ℕ → ℕ → List ℕ → List ℕ → List ℕ → List ℕ → Compared → Compared
compared_up zero p x s y t seen = seen
compared_up (suc n) p x s y t seen =
    compared_up n (p / 2) (node_hash (pair_of p x (take 32 s))) (drop 32 s) (node_hash (pair_of p y (take 32 t)))
    (drop 32 t)
    (compared_above seen (pair_of p x (take 32 s)) (pair_of p y (take 32 t)))

-- the first difference of the strings of two paths from position p, whose lengths tell their levels, with what stands
-- below each
abbrev pub paths_compared : ℕ → List ℕ → List ℕ → List (List ℕ) → List ℕ → List ℕ → List (List ℕ) → Compared
paths_compared p x s vs y t ws =
    compared (first_difference (path_strings (length s / 32) x p s vs) (path_strings (length t / 32) y p t ws))
