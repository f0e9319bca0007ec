-- Filling: whatever the buffer held, it then holds every inner node, and no other buffer does.
use Rattle.std.specs.Prelude.{◌≡◌, true, List, ◌++◌, length}
use Rattle.std.proofs.Common.{sym, ◌∙◌, inl, le_trans, le_of_eq, add-mul, pow_pos, lt-ltb}
use Rattle.std.proofs.Math.Path.{ap}
use Prim.Native.Nat.{ℕ, suc, ◌+◌, ◌*◌, ◌^◌, ◌≤◌, ◌<◌}
use native.Mathlib.Omega.{arith}
use Rattle.octets.specs.Splice.{part}
use Rattle.node.specs.Node.{node_hash_length}
use Rattle.merkle.specs.Tree.{node_at}
use Rattle.merkle.specs.TreeLaws.{node_split, within}
use Rattle.tree.specs.Place.{NodeInTree, node_place}
use Rattle.tree.specs.PlaceLaws.{place_is, below_top}
use Rattle.tree.specs.TreeNodes.{tree_nodes, FilledFor}
use Rattle.tree.specs.TreeNodesLaws.{filled_once}
use Rattle.tree.specs.Renewed.{above, renewed}
use Rattle.tree.specs.Filled.{node_rows, filled}
use Rattle.tree.specs.RowsLaws.{rows_length, rows_node}
use Rattle.tree.specs.RenewedLaws.{renewed_by}
use Rattle.tree.specs.KeepLaws.{filled_up}

-- every node is above the whole deal
all_above : (D h q : ℕ) → NodeInTree D h q → above 0 D h q ≡ true
all_above D h q t =
    let s : ℕ = 32 * 2 ^ h in
    let p = pow_pos h in
    let e : (q + 1) * s ≡ q * s + 1 * s = add-mul q 1 s in
    let l : (q + 1) * s ≤ D = le_trans (within t.levels h q (omega (arith, t.inside)))
    (le_of_eq (sym t.sized)) in
    rw (lt-ltb 0 ((q + 1) * s) (omega arith), lt-ltb (q * s) (0 + D) (omega arith))

hashed : (bytes : List ℕ) (h q : ℕ) → length (node_at bytes (suc h) q) ≡ 32
hashed bytes h q = ap length (node_split h q bytes)
    ∙ node_hash_length (node_at bytes h (q * 2) ++ node_at bytes h (q * 2 + 1))

module _ (bytes : List ℕ) (top : ℕ) (e : length bytes ≡ 32 * 2 ^ top) where
  some : 0 < length bytes
  some = let p = pow_pos top in omega arith

  pub renewed_whole : (tree : List ℕ) → length tree + 32 ≡ length bytes
      → FilledFor bytes (renewed top bytes tree 0 (length bytes))
  renewed_whole tree s =
      let r = renewed_by bytes 0 (length bytes) some (omega arith) top tree e s in
      filled_up bytes (renewed top bytes tree 0 (length bytes))
      (λ h q t. inl (r.anew h q t (all_above (length bytes) (suc h) q t))) (omega (arith, r.sized))

  pub filled_filled : FilledFor bytes (filled top bytes)
  unfolding filled tree_nodes
  filled_filled =
      let l = rows_length (node_at bytes) (hashed bytes) top 0 in
      record {
        sized = omega arith;
        stands = λ h q t.
            let k = below_top (length bytes) top (suc h) q 1 t e in
            let n : top ≡ suc (h + t.levels) = omega arith in
            let p = place_is (length bytes) (suc h) q t.levels (omega arith) t.sized in
            ap (λ (m : ℕ). part (node_rows (node_at bytes) 1 m) (node_place (length bytes) (suc h) q) 32) n
            ∙ rows_node (node_at bytes) (hashed bytes) h 0 t.levels q (node_place (length bytes) (suc h) q)
            (omega (arith, t.inside))
            (p ∙ ap (λ (m : ℕ). m + 32 * q) (e ∙ ap (λ (m : ℕ). 32 * 2 ^ m) n))
            ∙ ap (λ (m : ℕ). node_at bytes m q) (omega arith);
      }

  -- the buffer that is filled for the deal is this one
  pub filled_only : (tree : List ℕ) → FilledFor bytes tree → tree ≡ filled top bytes
  filled_only tree f = filled_once bytes tree (filled top bytes) top e f filled_filled

  -- filling does not go by what the buffer held
  pub fills_any : (tree : List ℕ) → length tree + 32 ≡ length bytes
      → renewed top bytes tree 0 (length bytes) ≡ filled top bytes
  fills_any tree s = filled_only (renewed top bytes tree 0 (length bytes)) (renewed_whole tree s)
