-- What is left by an update is known by its set of nodes, and two updates are one for both sets.
use Rattle.std.specs.Prelude.{◌≡◌, refl, Bool, true, false, ◌||◌, ℕ, zero, suc, ◌+◌, ◌*◌, ◌^◌, length}
use Rattle.std.proofs.Common.{sym, ap, ◌∙◌, arith}
use Rattle.std.proofs.Math.Path.{ap₂}
use mathlib.Core.List.{List, ◌++◌}
use Rattle.node.specs.Node.{node_hash}
use Rattle.tree.specs.Place.{NodeInTree}
use Rattle.tree.specs.PlaceLaws.{left_child, right_child}
use Rattle.tree.specs.TreeNodes.{tree_nodes, children}
use Rattle.tree.specs.TreeNodesLaws.{same_buffer}
use Rattle.tree.specs.Renewed.{RenewedBy}
use Rattle.tree.specs.RenewedNodeLaws.{same_children}
use Rattle.tree.specs.AboveLaws.{Upward}

leaf_same : (bytes x y : List ℕ) (q : ℕ) → tree_nodes bytes x 0 q ≡ tree_nodes bytes y 0 q
unfolding tree_nodes
leaf_same bytes x y q = refl

-- what is left is known by the set of nodes and the buffer as it was
module _ (set : ℕ → ℕ → Bool) (bytes tree x y : List ℕ) (rx : RenewedBy set bytes tree x)
    (ry : RenewedBy set bytes tree y) where
  over : (h q : ℕ) → NodeInTree (length bytes) (suc h) q
      → ((r : ℕ) → NodeInTree (length bytes) h r → tree_nodes bytes x h r ≡ tree_nodes bytes y h r)
      → (b : Bool) → set (suc h) q ≡ b → tree_nodes bytes x (suc h) q ≡ tree_nodes bytes y (suc h) q
  over h q t below true e = rx.anew h q t e ∙ ap node_hash (same_children bytes x y h q t below)
      ∙ sym (ry.anew h q t e)
  over h q t below false e = rx.stays h q t e ∙ sym (ry.stays h q t e)

  each : (h q : ℕ) → NodeInTree (length bytes) h q → tree_nodes bytes x h q ≡ tree_nodes bytes y h q
  each zero q t = leaf_same bytes x y q
  each (suc h) q t = over h q t (each h) (set (suc h) q) refl

  pub renewed_once : (top : ℕ) → length bytes ≡ 32 * 2 ^ top → length tree + 32 ≡ length bytes → x ≡ y
  renewed_once top e s =
      same_buffer bytes x y top e (omega (arith, rx.sized)) (omega (arith, ry.sized)) (λ h q t. each (suc h) q t)

-- one update after another is one update for both sets
module _ (one two : ℕ → ℕ → Bool) (upward : Upward two) (bytes tree first second : List ℕ)
    (a : RenewedBy one bytes tree first) (b : RenewedBy two bytes first second) where
  kept : (h q : ℕ) → NodeInTree (length bytes) h q → two h q ≡ false
      → tree_nodes bytes first h q ≡ tree_nodes bytes second h q
  kept zero q t e = leaf_same bytes first second q
  kept (suc h) q t e = sym (b.stays h q t e)

  -- below a node that the second leaves as it is
  children_kept : (h q : ℕ) → NodeInTree (length bytes) (suc h) q → two (suc h) q ≡ false
      → children bytes first h q ≡ children bytes second h q
  unfolding children
  children_kept h q t e =
      ap₂ (λ (x y : List ℕ). x ++ y)
      (kept h (q * 2) (left_child (length bytes) h q t) (upward h q e).0)
      (kept h (q * 2 + 1) (right_child (length bytes) h q t) (upward h q e).1)

  both_anew : (h q : ℕ) → NodeInTree (length bytes) (suc h) q → (x y : Bool) → one (suc h) q ≡ x → two (suc h) q ≡ y
      → (x || y) ≡ true
      → tree_nodes bytes second (suc h) q ≡ node_hash (children bytes second h q)
  both_anew h q t x true k l e = b.anew h q t l
  both_anew h q t true false k l e = b.stays h q t l ∙ a.anew h q t k ∙ ap node_hash (children_kept h q t l)
  both_anew h q t false false k l e = let z : ◌≡◌ {A = ℕ} 0 1 = cc in absurd (omega arith)

  both_stays : (h q : ℕ) → NodeInTree (length bytes) (suc h) q → (x y : Bool) → one (suc h) q ≡ x → two (suc h) q ≡ y
      → (x || y) ≡ false
      → tree_nodes bytes second (suc h) q ≡ tree_nodes bytes tree (suc h) q
  both_stays h q t false false k l e = b.stays h q t l ∙ a.stays h q t k
  both_stays h q t true y k l e = let z : ◌≡◌ {A = ℕ} 0 1 = cc in absurd (omega arith)
  both_stays h q t false true k l e = let z : ◌≡◌ {A = ℕ} 0 1 = cc in absurd (omega arith)

  pub renewed_both : RenewedBy (λ h q. one h q || two h q) bytes tree second
  renewed_both =
      record {
        sized = b.sized ∙ a.sized;
        anew = λ h q t e. both_anew h q t (one (suc h) q) (two (suc h) q) refl refl e;
        stays = λ h q t e. both_stays h q t (one (suc h) q) (two (suc h) q) refl refl e;
      }
