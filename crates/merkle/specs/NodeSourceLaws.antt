-- The nodes worked out from a run are a tree.
use Rattle.std.specs.Prelude.{◌≡◌, ℕ, ◌*◌, ◌^◌, List, length}
use Rattle.std.proofs.Common.{sym, ap, ◌∙◌, le_trans, le_of_eq}
use Rattle.merkle.specs.Tree.{node_at}
use Rattle.merkle.specs.TreeLaws.{node_split, node_at_length, node_leaf, within}
use Rattle.merkle.specs.NodeSource.{IsTree}

-- the nodes worked out from a run are a tree over it
pub run_tree : (run : List ℕ) (top : ℕ) → length run ≡ 32 * 2 ^ top → IsTree (node_at run) run top
run_tree run top e =
    record {
      leaf = node_leaf run;
      sized =
          λ n i q k h. node_at_length i q run
          (le_trans (within n i q h) (le_of_eq (ap (λ (m : ℕ). 32 * 2 ^ m) k ∙ sym e)));
      split = λ n i m k h. node_split i m run;
    }
