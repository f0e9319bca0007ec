-- Two sources with the same nodes, in the tree with its top node on a level, give the same Merkle paths and the same
-- pairs of nodes along them.
use Rattle.std.specs.Prelude.{◌≡◌}
use Rattle.std.proofs.Math.Path.{refl, ap₂}
use Rattle.std.proofs.Common.{◌∙◌, arith}
use Prim.Native.Nat.{ℕ, zero, suc, ◌+◌, ◌*◌, ◌/◌}
use mathlib.Core.List.{List, ◌∷◌, ◌++◌}
use Rattle.merkle.specs.NodeSource.{NodeSource}
use Rattle.paths.specs.Start.{PathStart, path_start, InTree}
use Rattle.paths.specs.StartLaws.{above, beside, sibling_in}
use Rattle.paths.specs.Siblings.{sibling_of, siblings, pair_at, node_pairs, node_from, siblings_from, pairs_from}

module _ (x y : NodeSource) (top : ℕ)
    (same : (start : PathStart) → InTree top start → node_from x start ≡ node_from y start)
  where
    siblings_up : (n i q : ℕ) → InTree top (path_start n i q) → siblings x n i q ≡ siblings y n i q
    unfolding siblings
    siblings_up zero i q w = refl
    siblings_up (suc n) i q w =
        ap₂ (λ (a b : List ℕ). a ++ b) (same (path_start (suc n) i (sibling_of q)) (sibling_in w))
        (siblings_up n (suc i) (q / 2) (above w))

    pairs_up : (n i q : ℕ) (ws : List (List ℕ)) → InTree top (path_start n i q)
        → node_pairs x n i q ws ≡ node_pairs y n i q ws
    unfolding node_pairs
    pairs_up zero i q ws w = refl
    pairs_up (suc n) i q ws w =
        ap₂ (λ (a b : List ℕ). node_pairs x n (suc i) (q / 2) ((a ++ b) ∷ ws))
        (same (path_start (suc n) i (q / 2 * 2)) (beside (q / 2 * 2) (omega arith) w))
        (same (path_start (suc n) i (q / 2 * 2 + 1)) (beside (q / 2 * 2 + 1) (omega arith) w))
        ∙ pairs_up n (suc i) (q / 2) (pair_at y i q ∷ ws) (above w)

    module _ (start : PathStart) (w : InTree top start) where
      pub same_siblings : siblings_from x start ≡ siblings_from y start
      same_siblings = siblings_up start.levels start.level start.position w

      pub same_pairs : (ws : List (List ℕ)) → pairs_from x start ws ≡ pairs_from y start ws
      same_pairs ws = pairs_up start.levels start.level start.position ws w
