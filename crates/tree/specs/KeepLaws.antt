-- Renewing keeps the premise: a buffer filled for the deal as it was is, brought up to date, filled for the deal as it
-- is. And no byte outside the renewed nodes changes.
use Rattle.std.specs.Prelude.{◌≡◌, refl, Bool, true, false, ◌⊎◌, ℕ, zero, suc, ◌+◌, ◌*◌, ◌^◌, ◌≤◌, ◌<◌, length, get_or}
use Rattle.std.proofs.Math.Path.{sym, ap₂}
use Rattle.std.proofs.Common.{◌∙◌, inl, inr, le_trans, le_of_eq, arith}
use Rattle.std.proofs.Math.Logic.{⊎_elim}
use mathlib.Core.List.{List, ◌++◌}
use Rattle.octets.specs.Splice.{splice}
use Rattle.octets.specs.SpliceLaws.{length_splice}
use Rattle.node.specs.Node.{node_hash}
use Rattle.merkle.specs.Tree.{node_at}
use Rattle.merkle.specs.TreeLaws.{node_split, within}
use Rattle.merkle.specs.ReplaceLaws.{node_before, node_after}
use Rattle.tree.specs.Place.{NodeInTree, node_place}
use Rattle.tree.specs.PlaceLaws.{left_child, right_child}
use Rattle.tree.specs.TreeNodes.{tree_nodes, children, FilledFor}
use Rattle.tree.specs.TreeNodesLaws.{leaf_node, same_byte}
use Rattle.tree.specs.Renewed.{above, renewed, RenewedBy}
use Rattle.tree.specs.AboveLaws.{beside}
use Rattle.tree.specs.RenewedLaws.{renewed_by}

-- no byte outside the renewed nodes changes
pub other_bytes : (set : ℕ → ℕ → Bool) (bytes tree new : List ℕ) → RenewedBy set bytes tree new → (h q j : ℕ)
    → NodeInTree (length bytes) (suc h) q → set (suc h) q ≡ false
    → node_place (length bytes) (suc h) q ≤ j → j < node_place (length bytes) (suc h) q + 32
    → get_or new j 0 ≡ get_or tree j 0
other_bytes set bytes tree new r h q j t e l g = same_byte bytes new tree h q j (r.stays h q t e) l g

-- a buffer is filled where each node is right by itself or worked out from its children
module _ (bytes tree : List ℕ)
    (right : (h q : ℕ) → NodeInTree (length bytes) (suc h) q
    → (tree_nodes bytes tree (suc h) q ≡ node_hash (children bytes tree h q)) ⊎
    (tree_nodes bytes tree (suc h) q ≡ node_at bytes (suc h) q)) where
  over : (h q : ℕ) → NodeInTree (length bytes) (suc h) q
      → ((r : ℕ) → NodeInTree (length bytes) h r → tree_nodes bytes tree h r ≡ node_at bytes h r)
      → tree_nodes bytes tree (suc h) q ≡ node_at bytes (suc h) q
  unfolding children
  over h q t below =
      ⊎_elim
      (λ (e : tree_nodes bytes tree (suc h) q ≡ node_hash (children bytes tree h q)).
      e
      ∙ ap₂ (λ (x y : List ℕ). node_hash (x ++ y))
      (below (q * 2) (left_child (length bytes) h q t)) (below (q * 2 + 1) (right_child (length bytes) h q t))
      ∙ sym (node_split h q bytes))
      (λ (e : tree_nodes bytes tree (suc h) q ≡ node_at bytes (suc h) q). e)
      (right h q t)

  each : (h q : ℕ) → NodeInTree (length bytes) h q → tree_nodes bytes tree h q ≡ node_at bytes h q
  each zero q t = leaf_node bytes tree q
  each (suc h) q t = over h q t (each h)

  pub filled_up : length tree + 32 ≡ length bytes → FilledFor bytes tree
  filled_up s = record { sized = s; stands = λ h q t. each (suc h) q t }

same_places : (x y tree : List ℕ) (h q : ℕ) → length x ≡ length y
    → tree_nodes x tree (suc h) q ≡ tree_nodes y tree (suc h) q
unfolding tree_nodes
same_places x y tree h q e = rw e

-- the deal was changed, and the buffer brought up to date for a set of nodes: it is filled for the deal as it is, where
-- no node outside the set changed
module _ (deal bytes tree new : List ℕ) (set : ℕ → ℕ → Bool) (f : FilledFor deal tree)
    (l : length bytes ≡ length deal) (r : RenewedBy set bytes tree new) where
  known : (h q : ℕ) → NodeInTree (length bytes) h q → NodeInTree (length deal) h q
  known h q t = record { levels = t.levels; sized = sym l ∙ t.sized; inside = t.inside }

  pub update_filled :
      ((h q : ℕ) → NodeInTree (length deal) h q → set h q ≡ false → node_at deal h q ≡ node_at bytes h q)
      → FilledFor bytes new
  update_filled same =
      filled_up bytes new (λ h q t. by h q t (set (suc h) q) refl) (omega (arith, r.sized, f.sized))
    where
      by : (h q : ℕ) → NodeInTree (length bytes) (suc h) q → (b : Bool) → set (suc h) q ≡ b
          → (tree_nodes bytes new (suc h) q ≡ node_hash (children bytes new h q))
          ⊎ (tree_nodes bytes new (suc h) q ≡ node_at bytes (suc h) q)
      by h q t true e = inl (r.anew h q t e)
      by h q t false e =
          inr
          (r.stays h q t e
          ∙ same_places bytes deal tree h q l
          ∙ f.stands h q (known (suc h) q t)
          ∙ same (suc h) q (known (suc h) q t) e)

-- bytes s are written from a place on: the nodes beside them stay
module _ (deal s : List ℕ) (from : ℕ) (room : from + length s ≤ length deal) where
  pub node_beside : (h q : ℕ) → NodeInTree (length deal) h q → above from (length s) h q ≡ false
      → node_at deal h q ≡ node_at (splice deal from s) h q
  node_beside h q t e =
      ⊎_elim
      (λ (l : (q + 1) * (32 * 2 ^ h) ≤ from). sym (node_before deal from s room h q l))
      (λ (l : from + length s ≤ q * (32 * 2 ^ h)).
      sym (node_after deal from s room h q l
      (le_trans (within t.levels h q (omega (arith, t.inside))) (le_of_eq (sym t.sized)))))
      (beside from (length s) h q e)

module _ (deal tree s : List ℕ) (from : ℕ) (room : from + length s ≤ length deal) (f : FilledFor deal tree) where
  pub keeps_filled : (new : List ℕ) → RenewedBy (above from (length s)) (splice deal from s) tree new
      → FilledFor (splice deal from s) new
  keeps_filled new r =
      update_filled deal (splice deal from s) tree new (above from (length s)) f (length_splice deal from s room) r
      (node_beside deal s from room)

  pub renewed_filled : (top : ℕ) → length deal ≡ 32 * 2 ^ top → 0 < length s
      → FilledFor (splice deal from s) (renewed top (splice deal from s) tree from (length s))
  renewed_filled top e some =
      let l : length (splice deal from s) ≡ length deal = length_splice deal from s room in
      keeps_filled (renewed top (splice deal from s) tree from (length s))
      (renewed_by (splice deal from s) from (length s) some (omega arith) top tree (l ∙ e) (omega (arith, f.sized)))
