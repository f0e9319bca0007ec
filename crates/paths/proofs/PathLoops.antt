-- Turns of a loop up along a path: i of n siblings are passed.
use mathlib.Core.Path.{◌≡◌, ap, ◌∙◌}
use Prim.Native.Nat.{ℕ, suc, ◌+◌, ◌-◌, ◌*◌, ◌/◌, ◌≤◌, ◌<◌}
use native.Mathlib.Omega.{arith}
use mathlib.Core.List.{List}
use lib.ListN.{drop}
use Rattle.octets.specs.Splice.{part}
use Rattle.node.specs.Node.{node_hash}
use Rattle.paths.specs.Path.{pair_of, path_root}
use Rattle.paths.specs.PathLaws.{drop_sibling}
use Rattle.paths.specs.Compare.{compared_above, compared_up}
use Rattle.paths.specs.declared.Compared.{Compared}

pub one_left : (n i : ℕ) → i < n → n - i ≡ suc (n - (i + 1))
one_left n i h = omega arith

pub none_left : (n i : ℕ) → n ≤ i → n - i ≡ 0
none_left n i h = omega arith

-- one path
module _ (n i p : ℕ) (x path : List ℕ) where
  pub root_next : i < n
      → let v = pair_of p x (part path (i * 32) 32) in
      path_root (n - i) x p (drop (i * 32) path)
      ≡ path_root (n - (i + 1)) (node_hash v) (p / 2) (drop ((i + 1) * 32) path)
  unfolding path_root part
  root_next h =
      ap (λ (k : ℕ). path_root k x p (drop (i * 32) path)) (one_left n i h)
      ∙ ap (path_root (n - (i + 1)) (node_hash (pair_of p x (part path (i * 32) 32))) (p / 2)) (drop_sibling i path)

  pub root_over : n ≤ i → path_root (n - i) x p path ≡ x
  unfolding path_root
  root_over h = ap (λ (k : ℕ). path_root k x p path) (none_left n i h)

-- two paths compared
module _ (n i p : ℕ) (x s y t : List ℕ) (seen : Compared) where
  pub compare_next : i < n
      → let v = pair_of p x (part s (i * 32) 32) in
      let w = pair_of p y (part t (i * 32) 32) in
      compared_up (n - i) p x (drop (i * 32) s) y (drop (i * 32) t) seen
      ≡ compared_up (n - (i + 1)) (p / 2) (node_hash v) (drop ((i + 1) * 32) s) (node_hash w) (drop ((i + 1) * 32) t)
      (compared_above seen v w)
  unfolding compared_up part
  compare_next h =
      let v = pair_of p x (part s (i * 32) 32) in
      let w = pair_of p y (part t (i * 32) 32) in
      ap (λ (k : ℕ). compared_up k p x (drop (i * 32) s) y (drop (i * 32) t) seen) (one_left n i h)
      ∙ (λ j. compared_up (n - (i + 1)) (p / 2) (node_hash v) (drop_sibling i s j) (node_hash w) (drop_sibling i t j)
      (compared_above seen v w))

  pub compare_over : n ≤ i → compared_up (n - i) p x s y t seen ≡ seen
  unfolding compared_up
  compare_over h = ap (λ (k : ℕ). compared_up k p x s y t seen) (none_left n i h)
