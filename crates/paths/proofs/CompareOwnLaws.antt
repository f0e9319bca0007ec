-- Comparing a path with a source's own pairs from the bottom up gives the first difference from the top.
use Rattle.std.specs.Prelude.{◌≡◌, refl, ℕ, zero, suc, ◌/◌, List, ◌∷◌, take, drop}
use Rattle.std.proofs.Common.{ap, ◌∙◌}
use Rattle.node.specs.Node.{node_hash}
use Rattle.merkle.specs.NodeSource.{NodeSource}
use Rattle.paths.specs.Path.{pair_of}
use Rattle.paths.specs.Strings.{path_strings}
use Rattle.paths.specs.Siblings.{pair_at, node_pairs}
use Rattle.paths.specs.Difference.{first_difference}
use Rattle.paths.specs.Compare.{compared}
use Rattle.paths.proofs.CompareLaws.{compared_more}
use Rattle.paths.specs.CompareOwn.{compared_with_own}

pub own_up : (nodes : NodeSource) (n level q : ℕ) (x s : List ℕ) (vs ws : List (List ℕ))
    → compared (first_difference (path_strings n x q s vs) (node_pairs nodes n level q ws))
    ≡ compared_with_own nodes n level q x s (compared (first_difference vs ws))
unfolding path_strings node_pairs compared_with_own
own_up nodes zero level q x s vs ws = refl
own_up nodes (suc n) level q x s vs ws =
    let v = pair_of q x (take 32 s) in
    let w = pair_at nodes level q in
    own_up nodes n (suc level) (q / 2) (node_hash v) (drop 32 s) (v ∷ vs) (w ∷ ws)
    ∙ ap (compared_with_own nodes n (suc level) (q / 2) (node_hash v) (drop 32 s)) (compared_more v w vs ws)
