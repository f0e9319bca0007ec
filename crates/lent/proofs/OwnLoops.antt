-- Turns of the loop that compares a path with a source's own pairs of nodes: i of n levels are passed.
use mathlib.Core.Path.{◌≡◌, sym, ap, ap₂, subst, ◌∙◌}
use Prim.Native.Nat.{ℕ, suc, ◌+◌, ◌-◌, ◌*◌, ◌/◌, ◌≤◌, ◌<◌}
use native.Mathlib.Omega.{arith}
use mathlib.Core.List.{List}
use lib.ListN.{take, drop}
use Rattle.octets.specs.Splice.{part}
use Rattle.node.specs.Node.{node_hash}
use Rattle.merkle.specs.NodeSource.{NodeSource}
use Rattle.paths.specs.Start.{path_start, InTree}
use Rattle.paths.specs.StartLaws.{turn_start, turn_above}
use Rattle.paths.specs.NodesSized.{NodesSized}
use Rattle.paths.specs.Path.{pair_of}
use Rattle.paths.specs.PathLaws.{drop_sibling}
use Rattle.paths.specs.Siblings.{siblings, pair_at}
use Rattle.paths.specs.SiblingsLaws.{step, rest}
use Rattle.paths.specs.Compare.{compared_above}
use Rattle.paths.specs.CompareOwn.{compared_with_own}
use Rattle.paths.specs.declared.Compared.{Compared}
use Rattle.lent.proofs.Ways.{parent_in}

-- at position p, where the node on the way is b, and what is left of the source's own path
pub record OwnTurn (nodes : NodeSource) (top : ℕ) (own : List ℕ) (n level i p : ℕ) (b : List ℕ) : Type 0 where
  pub in_tree : InTree top (path_start (n - i) (level + i) p)
  pub node_is : b ≡ nodes (level + i) p
  pub path_left : drop (i * 32) own ≡ siblings nodes (n - i) (level + i) p

module _ (nodes : NodeSource) (top : ℕ) (own : List ℕ) (n level : ℕ) where
  pub own_start : (q : ℕ) (b : List ℕ) → InTree top (path_start n level q) → own ≡ siblings nodes n level q
      → b ≡ nodes level q → OwnTurn nodes top own n level 0 q b
  own_start q b w e f =
      let m : n ≡ n - 0 = omega arith in
      let l : level ≡ level + 0 = omega arith in
      record {
        in_tree = turn_start n level q w;
        node_is = f ∙ ap (λ (k : ℕ). nodes k q) l;
        path_left = e ∙ (λ j. siblings nodes (m j) (l j) q);
      }

  module _ (i p : ℕ) (b : List ℕ) (h : i < n) (each : NodesSized nodes top)
      (t : OwnTurn nodes top own n level i p b) where
    one_more : n - i ≡ suc (n - (i + 1))
    one_more = omega arith

    here : InTree top (path_start (suc (n - (i + 1))) (level + i) p)
    here = subst (λ (k : ℕ). InTree top (path_start k (level + i) p)) one_more t.in_tree

    left : drop (i * 32) own ≡ siblings nodes (suc (n - (i + 1))) (level + i) p
    left = t.path_left ∙ ap (λ (k : ℕ). siblings nodes k (level + i) p) one_more

    -- the node on the way and the next sibling make the source's pair
    pub own_pair : pair_of p b (part own (i * 32) 32) ≡ pair_at nodes (level + i) p
    unfolding part
    own_pair =
        ap₂ (λ (x y : List ℕ). pair_of p x (take 32 y)) t.node_is left
        ∙ step nodes top each (n - (i + 1)) (level + i) p here

    -- the node above is one of the tree's
    pub own_above : InTree top (path_start (n - i - 1) (level + i + 1) (p / 2))
    own_above = parent_in n level i p h t.in_tree

    pub own_next : (b' : List ℕ) → b' ≡ nodes (level + i + 1) (p / 2)
        → OwnTurn nodes top own n level (i + 1) (p / 2) b'
    own_next b' e =
        let l : level + i + 1 ≡ level + (i + 1) = omega arith in
        let k : suc (level + i) ≡ level + (i + 1) = omega arith in
        record {
          in_tree = turn_above n level i p h t.in_tree;
          node_is = e ∙ ap (λ (m : ℕ). nodes m (p / 2)) l;
          path_left =
              sym (drop_sibling i own)
              ∙ ap (drop 32) left
              ∙ rest nodes top each (n - (i + 1)) (level + i) p here
              ∙ ap (λ (m : ℕ). siblings nodes (n - (i + 1)) m (p / 2)) k;
        }

-- the path compared
pub compared_start : (nodes : NodeSource) (n level p : ℕ) (x s : List ℕ) (seen : Compared)
    → compared_with_own nodes n level p x s seen ≡ compared_with_own nodes (n - 0) (level + 0) p x s seen
compared_start nodes n level p x s seen =
    let m : n ≡ n - 0 = omega arith in
    let l : level ≡ level + 0 = omega arith in
    (λ j. compared_with_own nodes (m j) (l j) p x s seen)

module _ (nodes : NodeSource) (n level i p : ℕ) (x s : List ℕ) (seen : Compared) where
  pub compared_next : i < n
      → let v = pair_of p x (part s (i * 32) 32) in
      compared_with_own nodes (n - i) (level + i) p x (drop (i * 32) s) seen
      ≡ compared_with_own nodes (n - (i + 1)) (level + (i + 1)) (p / 2) (node_hash v) (drop ((i + 1) * 32) s)
      (compared_above seen v (pair_at nodes (level + i) p))
  unfolding compared_with_own part
  compared_next h =
      let v = pair_of p x (part s (i * 32) 32) in
      let m : n - i ≡ suc (n - (i + 1)) = omega arith in
      let l : suc (level + i) ≡ level + (i + 1) = omega arith in
      ap (λ (k : ℕ). compared_with_own nodes k (level + i) p x (drop (i * 32) s) seen) m
      ∙ (λ j. compared_with_own nodes (n - (i + 1)) (l j) (p / 2) (node_hash v) (drop_sibling i s j)
      (compared_above seen v (pair_at nodes (level + i) p)))

  pub compared_over : n ≤ i → compared_with_own nodes (n - i) level p x s seen ≡ seen
  unfolding compared_with_own
  compared_over h =
      let none : n - i ≡ 0 = omega arith in
      ap (λ (k : ℕ). compared_with_own nodes k level p x s seen) none
