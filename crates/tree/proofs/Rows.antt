-- A row is a part of it and then the rest: two parts, the last node.
use mathlib.Core.Path.{◌≡◌, ap, ap₂, ◌∙◌}
use Prim.Native.Nat.{ℕ, zero, suc, ◌+◌, ◌*◌, ◌/◌, ◌<◌}
use native.Mathlib.Omega.{arith}
use mathlib.Core.List.{List}
use Rattle.tree.specs.Renewed.{renewed_node, renewed_row}

-- the first of two parts of a row, where it has more than sixteen nodes
abbrev pub left_part : ℕ → ℕ
left_part count = (count / 16 + 1) / 2 * 16

pub left_part_lem : (count : ℕ) → 16 < count → (0 < left_part count) × (left_part count < count)
left_part_lem count h = (omega arith, omega arith)

module _ (bytes : List ℕ) (h : ℕ) where
  pub row_append : (k n q : ℕ) (tree : List ℕ)
      → renewed_row bytes tree h q (k + n) ≡ renewed_row bytes (renewed_row bytes tree h q k) h (q + k) n
  unfolding renewed_row
  row_append zero n q tree =
      let a : q ≡ q + 0 = omega arith in
      let b : 0 + n ≡ n = omega arith in
      ap₂ (renewed_row bytes tree h) a b
  row_append (suc k) n q tree =
      let e : suc k + n ≡ suc (k + n) = omega arith in
      let p : suc q + k ≡ q + suc k = omega arith in
      ap (renewed_row bytes tree h q) e
      ∙ row_append k n (suc q) (renewed_node bytes tree h q)
      ∙ ap (λ (r : ℕ). renewed_row bytes (renewed_row bytes (renewed_node bytes tree h q) h (suc q) k) h r n) p

  -- the last node after the others
  pub row_last : (n q : ℕ) (tree : List ℕ)
      → renewed_row bytes tree h q (suc n) ≡ renewed_node bytes (renewed_row bytes tree h q n) h (q + n)
  unfolding renewed_row
  row_last n q tree = let e : suc n ≡ n + 1 = omega arith in ap (renewed_row bytes tree h q) e ∙ row_append n 1 q tree
