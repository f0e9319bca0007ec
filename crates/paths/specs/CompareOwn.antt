-- A path compared, from the bottom up, with a source's own pairs of nodes along it: what was last seen to differ is the
-- first difference from the top.
use Rattle.std.specs.Prelude.{ℕ, zero, suc, ◌/◌, List, take, drop}
use Rattle.node.specs.Node.{node_hash}
use Rattle.merkle.specs.NodeSource.{NodeSource}
use Rattle.paths.specs.Path.{pair_of}
use Rattle.paths.specs.Siblings.{pair_at}
use Rattle.paths.specs.Compare.{compared_above}
use Rattle.paths.specs.declared.Compared.{Compared}

-- n levels up from position q of a level, along a path s from a node x
unfoldable pub compared_with_own : NodeSource → ℕ → ℕ → ℕ → List ℕ → List ℕ → Compared → Compared
compared_with_own nodes zero level q x s seen = seen
compared_with_own nodes (suc n) level q x s seen =
    compared_with_own nodes n (suc level) (q / 2) (node_hash (pair_of q x (take 32 s))) (drop 32 s)
    (compared_above seen (pair_of q x (take 32 s)) (pair_at nodes level q))
