-- One node worked out anew, and a row of them: what is written, and that no other node changes.
use Rattle.std.specs.Prelude.{◌≡◌, Bool, true, false, eqb, length}
use Rattle.std.proofs.Math.Path.{refl, ap}
use Rattle.std.proofs.Common.{sym, ap₂, ◌∙◌, arith, eqb-true}
use Rattle.std.proofs.Math.Logic.{⊎_elim}
use Prim.Native.Nat.{ℕ, zero, suc, ◌+◌, ◌*◌, ◌≤◌, ◌<◌}
use mathlib.Core.List.{List, ◌++◌}
use Rattle.std.proofs.lemmas.Bool.{eqb-false}
use Rattle.octets.specs.Splice.{part, splice}
use Rattle.octets.specs.SpliceLaws.{length_splice, part_before, part_after, part_written}
use Rattle.node.specs.Node.{node_hash, node_hash_length}
use Rattle.tree.specs.Place.{RowInTree, NodeInTree, node_place}
use Rattle.tree.specs.PlaceLaws.{place_inside, apart, left_child, right_child}
use Rattle.tree.specs.TreeNodes.{tree_nodes, children}
use Rattle.tree.specs.Renewed.{renewed_node, renewed_row}

-- children that stand alike
pub same_children : (bytes x y : List ℕ) (h q : ℕ) → NodeInTree (length bytes) (suc h) q
    → ((r : ℕ) → NodeInTree (length bytes) h r → tree_nodes bytes x h r ≡ tree_nodes bytes y h r)
    → children bytes x h q ≡ children bytes y h q
unfolding children
same_children bytes x y h q t f =
    ap₂ (λ (a b : List ℕ). a ++ b) (f (q * 2) (left_child (length bytes) h q t))
    (f (q * 2 + 1) (right_child (length bytes) h q t))

module _ (bytes tree : List ℕ) (s : length tree + 32 ≡ length bytes) (h q : ℕ)
    (t : NodeInTree (length bytes) (suc h) q) where
  fits : node_place (length bytes) (suc h) q + length (node_hash (children bytes tree h q)) ≤ length tree
  fits = omega (
    arith,
    place_inside (length bytes) (suc h) q t (omega arith),
    node_hash_length
        (children bytes tree h q),
  )

  pub renewed_node_sized : length (renewed_node bytes tree h q) ≡ length tree
  unfolding renewed_node
  renewed_node_sized = length_splice tree (node_place (length bytes) (suc h) q)
      (node_hash (children bytes tree h q)) fits

  pub node_anew : tree_nodes bytes (renewed_node bytes tree h q) (suc h) q ≡ node_hash (children bytes tree h q)
  unfolding renewed_node tree_nodes
  node_anew =
      let node = node_hash (children bytes tree h q) in
      let at = node_place (length bytes) (suc h) q in
      ap (part (splice tree at node) at) (sym (node_hash_length (children bytes tree h q)))
      ∙ part_written tree at node fits

  pub node_stays : (k r : ℕ) → NodeInTree (length bytes) k r → (k ≡ suc h → r ≡ q → ⊥)
      → tree_nodes bytes (renewed_node bytes tree h q) k r ≡ tree_nodes bytes tree k r
  unfolding renewed_node tree_nodes
  node_stays zero r u ne = refl
  node_stays (suc k) r u ne =
      let node = node_hash (children bytes tree h q) in
      let at = node_place (length bytes) (suc h) q in
      let l = node_hash_length (children bytes tree h q) in
      let i = place_inside (length bytes) (suc k) r u (omega arith) in
      ⊎_elim
      (λ (b : node_place (length bytes) (suc k) r + 32 ≤ at). part_before tree at node fits
      (node_place (length bytes) (suc k) r) 32 b)
      (λ (a : at + 32 ≤ node_place (length bytes) (suc k) r). part_after tree at node fits
      (node_place (length bytes) (suc k) r) 32 (omega arith) (omega arith))
      (apart (length bytes) (suc k) r (suc h) q u t (omega arith) (omega arith) ne)

-- a row of n nodes from q on
module _ (bytes : List ℕ) (h : ℕ) where
  first_in : (q n : ℕ) → RowInTree (length bytes) (suc h) q (suc n) → NodeInTree (length bytes) (suc h) q
  first_in q n t = record { levels = t.levels; sized = t.sized; inside = omega (arith, t.inside) }

  rest_in : (q n : ℕ) → RowInTree (length bytes) (suc h) q (suc n) → RowInTree (length bytes) (suc h) (suc q) n
  rest_in q n t = record { levels = t.levels; sized = t.sized; inside = omega (arith, t.inside) }

  pub row_sized : (n q : ℕ) (tree : List ℕ) → length tree + 32 ≡ length bytes → RowInTree (length bytes) (suc h) q n
      → length (renewed_row bytes tree h q n) ≡ length tree
  unfolding renewed_row
  row_sized zero q tree s t = refl
  row_sized (suc n) q tree s t =
      let e = renewed_node_sized bytes tree s h q (first_in q n t) in
      row_sized n (suc q) (renewed_node bytes tree h q) (omega arith) (rest_in q n t) ∙ e

  pub row_stays : (n q : ℕ) (tree : List ℕ) → length tree + 32 ≡ length bytes → RowInTree (length bytes) (suc h) q n
      → (k r : ℕ) → NodeInTree (length bytes) k r → (k ≡ suc h → q ≤ r → r < q + n → ⊥)
      → tree_nodes bytes (renewed_row bytes tree h q n) k r ≡ tree_nodes bytes tree k r
  unfolding renewed_row
  row_stays zero q tree s t k r u ne = refl
  row_stays (suc n) q tree s t k r u ne =
      let e = renewed_node_sized bytes tree s h q (first_in q n t) in
      row_stays n (suc q) (renewed_node bytes tree h q) (omega arith) (rest_in q n t) k r u
      (λ a b d. ne a (omega arith) (omega arith))
      ∙ node_stays bytes tree s h q (first_in q n t) k r u (λ a b. ne a (omega arith) (omega arith))

  pub row_anew : (n q : ℕ) (tree : List ℕ) → length tree + 32 ≡ length bytes → RowInTree (length bytes) (suc h) q n
      → (r : ℕ) → NodeInTree (length bytes) (suc h) r → q ≤ r → r < q + n
      → tree_nodes bytes (renewed_row bytes tree h q n) (suc h) r ≡ node_hash (children bytes tree h r)
  unfolding renewed_row
  row_anew zero q tree s t r u l g = absurd (omega arith)
  row_anew (suc n) q tree s t r u l g =
      let e = renewed_node_sized bytes tree s h q (first_in q n t) in
      by_position (λ after. row_anew n (suc q) (renewed_node bytes tree h q) (omega arith) (rest_in q n t) r u after
      (omega arith))
      (eqb q r) refl
    where
      one : List ℕ
      one = renewed_node bytes tree h q

      by_position : (suc q ≤ r → tree_nodes bytes (renewed_row bytes one h (suc q) n) (suc h) r ≡ node_hash
          (children bytes one h r))
          → (b : Bool) → eqb q r ≡ b → tree_nodes bytes (renewed_row bytes one h (suc q) n) (suc h) r ≡ node_hash
          (children bytes tree h r)
      by_position later true z =
          let same = eqb-true q r z in
          let e = renewed_node_sized bytes tree s h q (first_in q n t) in
          row_stays n (suc q) one (omega arith) (rest_in q n t) (suc h) r u (λ a b d. omega arith)
          ∙ ap (tree_nodes bytes one (suc h)) (sym same)
          ∙ node_anew bytes tree s h q (first_in q n t)
          ∙ ap (λ (p : ℕ). node_hash (children bytes tree h p)) same
      by_position later false z =
          let ne = eqb-false q r z in
          later (omega arith)
          ∙ ap node_hash (same_children bytes one tree h r u
          (λ p w. node_stays bytes tree s h q (first_in q n t) h p w (λ a b. omega arith)))
