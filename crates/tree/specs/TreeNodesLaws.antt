-- A buffer that is filled for a deal: its nodes are those of the definition. Two buffers with the same nodes are the
-- same.
use Rattle.std.specs.Prelude.{◌≡◌, refl, true, ℕ, zero, suc, ◌+◌, ◌-◌, ◌*◌, ◌^◌, ◌≤◌, ◌<◌, List, ◌++◌, length, get_or}
use Rattle.std.specs.Prelude.{eqb}
use Rattle.std.proofs.Common.{sym, ap, ap₂, ◌∙◌, le_trans, le_of_eq, arith, ext_get_or, eqb-true, eq-eqb}
use Rattle.octets.specs.Splice.{part}
use Rattle.octets.specs.SpliceLaws.{part_length, get_d_part}
use Rattle.node.specs.Node.{node_hash}
use Rattle.merkle.specs.Tree.{node_at}
use Rattle.merkle.specs.TreeLaws.{node_leaf, node_split, node_at_length, within}
use Rattle.merkle.specs.NodeSource.{IsTree}
use Rattle.tree.specs.Place.{NodeInTree, node_place}
use Rattle.tree.specs.CoverLaws.{node_over_lem}
use Rattle.tree.specs.PlaceLaws.{node_in_tree, leaf_inside, place_inside, left_child, right_child}
use Rattle.tree.specs.TreeNodes.{tree_nodes, SizedFor, FilledFor}

-- the buffer's size by a test
module _ (bytes tree : List ℕ) (node : 32 ≤ length bytes) where
  pub sized_of_test : eqb (length tree) (length bytes - 32) ≡ true → SizedFor bytes tree
  sized_of_test e = let k = eqb-true (length tree) (length bytes - 32) e in omega arith

  pub test_of_sized : SizedFor bytes tree → eqb (length tree) (length bytes - 32) ≡ true
  test_of_sized s = eq-eqb (length tree) (length bytes - 32) (omega arith)

-- a node of the lowest level is the deal's, whatever the buffer
pub leaf_node : (bytes tree : List ℕ) (q : ℕ) → tree_nodes bytes tree 0 q ≡ node_at bytes 0 q
unfolding tree_nodes part
leaf_node bytes tree q = sym (node_leaf bytes q)

-- where a node stands
pub node_of_deal : (bytes tree : List ℕ) (h q : ℕ) → h ≡ 0 → tree_nodes bytes tree h q ≡ part bytes (q * 32) 32
unfolding tree_nodes
node_of_deal bytes tree zero q e = refl
node_of_deal bytes tree (suc h) q e = absurd (omega arith)

pub node_of_buffer : (bytes tree : List ℕ) (h q : ℕ) → 0 < h
    → tree_nodes bytes tree h q ≡ part tree (node_place (length bytes) h q) 32
unfolding tree_nodes
node_of_buffer bytes tree zero q l = absurd (omega arith)
node_of_buffer bytes tree (suc h) q l = refl

-- every node has 32 bytes
pub node_length : (bytes tree : List ℕ) → length tree + 32 ≡ length bytes → (h q : ℕ) → NodeInTree (length bytes) h q
    → length (tree_nodes bytes tree h q) ≡ 32
node_length bytes tree s zero q t =
    ap length (node_of_deal bytes tree 0 q refl) ∙ part_length bytes (q * 32) 32 (leaf_inside (length bytes) 0 q t refl)
node_length bytes tree s (suc h) q t =
    ap length (node_of_buffer bytes tree (suc h) q (omega arith))
    ∙ part_length tree (node_place (length bytes) (suc h) q) 32
    (omega (arith, place_inside (length bytes) (suc h) q t (omega arith)))

-- the nodes that the tree has are those of the definition
pub filled_node : (bytes tree : List ℕ) → FilledFor bytes tree → (h q : ℕ) → NodeInTree (length bytes) h q
    → tree_nodes bytes tree h q ≡ node_at bytes h q
filled_node bytes tree f zero q t = leaf_node bytes tree q
filled_node bytes tree f (suc h) q t = f.stands h q t

-- so they are a tree over the deal
pub filled_tree_lem : (bytes tree : List ℕ) (top : ℕ) → length bytes ≡ 32 * 2 ^ top → FilledFor bytes tree
    → IsTree (tree_nodes bytes tree) bytes top
filled_tree_lem bytes tree top e f =
    record {
      leaf = λ q. leaf_node bytes tree q ∙ node_leaf bytes q;
      sized = λ n i q k h.
          ap length (filled_node bytes tree f i q (node_in_tree (length bytes) top n i q e k h))
          ∙ node_at_length i q bytes (le_trans (within n i q h) (le_of_eq (ap (λ (m : ℕ). 32 * 2 ^ m) k ∙ sym e)));
      split = λ n i m k h.
          let t = node_in_tree (length bytes) top n (suc i) m e k h in
          f.stands i m t
          ∙ node_split i m bytes
          ∙ sym (ap₂ (λ (x y : List ℕ). node_hash (x ++ y))
          (filled_node bytes tree f i (m * 2) (left_child (length bytes) i m t))
          (filled_node bytes tree f i (m * 2 + 1) (right_child (length bytes) i m t)));
    }

-- where two buffers have the same node, they have the same bytes
pub same_byte : (bytes x y : List ℕ) (h q j : ℕ) → tree_nodes bytes x (suc h) q ≡ tree_nodes bytes y (suc h) q
    → node_place (length bytes) (suc h) q ≤ j → j < node_place (length bytes) (suc h) q + 32
    → get_or x j 0 ≡ get_or y j 0
unfolding tree_nodes
same_byte bytes x y h q j same l g =
    let at : ℕ = node_place (length bytes) (suc h) q in
    let i : ℕ = j - at in
    let p : at + i ≡ j = omega arith in
    ap (λ (k : ℕ). get_or x k 0) (sym p)
    ∙ sym (get_d_part x at 32 i (omega arith))
    ∙ ap (λ (l : List ℕ). get_or l i 0) same
    ∙ get_d_part y at 32 i (omega arith)
    ∙ ap (λ (k : ℕ). get_or y k 0) p

-- a buffer is known by its nodes
module _ (bytes x y : List ℕ) (top : ℕ) (e : length bytes ≡ 32 * 2 ^ top)
    (sx : length x + 32 ≡ length bytes) (sy : length y + 32 ≡ length bytes)
    (same : (h q : ℕ) → NodeInTree (length bytes) (suc h) q
    → tree_nodes bytes x (suc h) q ≡ tree_nodes bytes y (suc h) q)
  where
    byte_of : (j h q : ℕ) → 0 < h → NodeInTree (length bytes) h q → node_place (length bytes) h q ≤ j
        → j < node_place (length bytes) h q + 32 → get_or x j 0 ≡ get_or y j 0
    byte_of j zero q up t l g = absurd (omega arith)
    byte_of j (suc h) q up t l g = same_byte bytes x y h q j (same h q t) l g

    pub same_buffer : x ≡ y
    same_buffer =
        ext_get_or 0 x y (omega arith)
        (λ j l.
        let o = node_over_lem (length bytes) top j e (omega arith) in
        byte_of j o.height o.position o.inner o.known o.starts o.ends)

-- so at most one buffer is filled for a deal
pub filled_once : (bytes x y : List ℕ) (top : ℕ) → length bytes ≡ 32 * 2 ^ top → FilledFor bytes x → FilledFor bytes y
    → x ≡ y
filled_once bytes x y top e fx fy =
    same_buffer bytes x y top e fx.sized fy.sized (λ h q t. fx.stands h q t ∙ sym (fy.stands h q t))
