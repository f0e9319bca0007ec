-- A node on the way up along a Merkle path of n levels from a level: i of them are passed.
use mathlib.Core.Path.{◌≡◌, sym, ap, subst, ◌∙◌}
use Prim.Native.Nat.{ℕ, ◌+◌, ◌-◌, ◌/◌, ◌^◌, ◌≤◌, ◌<◌}
use native.Mathlib.Omega.{arith}
use Rattle.merkle.specs.NodeSource.{NodeSource}
use Rattle.paths.specs.Start.{path_start, InTree}
use Rattle.paths.specs.StartLaws.{turn_start, turn_above}
use Rattle.lent.specs.PathNodes.{IsNode}
use Rattle.lent.specs.declared.PathNode.{PathNode}

pub record OnWay (nodes : NodeSource) (top n level i : ℕ) (x : PathNode) : Type 0 where
  pub in_tree : InTree top (path_start (n - i) (level + i) x.position)
  pub node_is : IsNode nodes (level + i) x

-- the node above is one of the tree's
pub parent_in : {top : ℕ} (n level i p : ℕ) → i < n → InTree top (path_start (n - i) (level + i) p)
    → InTree top (path_start (n - i - 1) (level + i + 1) (p / 2))
parent_in n level i p h t =
    let m : n - (i + 1) ≡ n - i - 1 = omega arith in
    let w = turn_above n level i p h t in
    record { up = omega (arith, w.up); among = subst (λ (k : ℕ). p / 2 < 2 ^ k) m w.among }

module _ (nodes : NodeSource) (top n level : ℕ) where
  pub way_start : (x : PathNode) → InTree top (path_start n level x.position) → IsNode nodes level x
      → OnWay nodes top n level 0 x
  way_start x w e =
      let l : level ≡ level + 0 = omega arith in
      record { in_tree = turn_start n level x.position w; node_is = e ∙ ap (λ (k : ℕ). nodes k x.position) l }

  pub way_next : (i : ℕ) (x y : PathNode) → i < n → OnWay nodes top n level i x → IsNode nodes (level + i + 1) y
      → y.position ≡ x.position / 2 → OnWay nodes top n level (i + 1) y
  way_next i x y h t e p =
      let l : level + i + 1 ≡ level + (i + 1) = omega arith in
      record {
        in_tree = subst (λ (q : ℕ). InTree top (path_start (n - (i + 1)) (level + (i + 1)) q)) (sym p)
            (turn_above n level i x.position h t.in_tree);
        node_is = e ∙ ap (λ (k : ℕ). nodes k y.position) l;
      }

  -- all levels are passed: it is the top node
  pub way_over : (i : ℕ) (x : PathNode) → i ≤ n → n ≤ i → OnWay nodes top n level i x → x.node ≡ nodes top 0
  way_over i x h k t =
      let none : n - i ≡ 0 = omega arith in
      let up : level + i + (n - i) ≡ top = t.in_tree.up in
      let among : x.position < 1 = subst (λ (m : ℕ). x.position < 2 ^ m) none t.in_tree.among in
      let l : level + i ≡ top = omega arith in
      let z : x.position ≡ 0 = omega arith in
      t.node_is ∙ (λ j. nodes (l j) (z j))
