-- Where a node stands when heights are laid one after the other.
use Rattle.std.specs.Prelude.{◌≡◌, List, ◌++◌, length, take, drop}
use Rattle.std.proofs.Math.Path.{refl, ap, ap₂}
use Rattle.std.proofs.Common.{◌∙◌, length-append, length-drop}
use Prim.Native.Nat.{ℕ, zero, suc, ◌+◌, ◌-◌, ◌*◌, ◌^◌, ◌≤◌, ◌<◌}
use Rattle.std.proofs.Math.Nat.{pow-suc}
use Rattle.std.proofs.Math.Pow.{pow_mono}
use native.Mathlib.Omega.{arith}
use Rattle.std.proofs.lemmas.List.{take-append-le, drop-append-le}
use Rattle.octets.specs.Splice.{part}
use Rattle.merkle.specs.NodeSource.{NodeSource}
use Rattle.merkle.specs.Parts.{node_row}
use Rattle.merkle.specs.NodeRowLaws.{part_second, row_length, row_node}
use Rattle.tree.specs.Filled.{node_rows}

-- a part of the first of two strings
part_first : (x y : List ℕ) (p n : ℕ) → p + n ≤ length x → part (x ++ y) p n ≡ part x p n
unfolding part
part_first x y p n h =
    ap (take n) (drop-append-le p x y (omega arith)) ∙ take-append-le n (drop p x) y (rw length-drop (omega arith))

module _ (nodes : NodeSource) (sized : (h q : ℕ) → length (nodes (suc h) q) ≡ 32) where
  row_sized : (n h q : ℕ) → length (node_row nodes (suc h) q n) ≡ 32 * n
  row_sized n h q = row_length nodes (suc h) n q (λ i l. sized h (q + i))

  -- n heights take 32 * 2 ^ n - 32 bytes
  pub rows_length : (n h : ℕ) → length (node_rows nodes (suc h) n) + 32 ≡ 32 * 2 ^ n
  unfolding node_rows
  rows_length zero h = refl
  rows_length (suc n) h =
      let w = pow-suc 2 n in
      let a = row_sized (2 ^ n) h 0 in
      let b = rows_length n (suc h) in
      ap (λ (l : ℕ). l + 32) (length-append (node_row nodes (suc h) 0 (2 ^ n)) (node_rows nodes (suc (suc h)) n))
      ∙ omega arith

  -- k heights below it and n above, a node starts 64 * 2 ^ n bytes before the end of 32 more
  pub rows_node : (k h n q at : ℕ) → q < 2 ^ n → at + 64 * 2 ^ n ≡ 32 * 2 ^ suc (k + n) + 32 * q
      → part (node_rows nodes (suc h) (suc (k + n))) at 32 ≡ nodes (suc (h + k)) q
  unfolding node_rows
  rows_node zero h n q at l e =
      let z : 0 + n ≡ n = omega arith in
      let w : 2 ^ (0 + n) ≡ 2 ^ n = ap (λ (m : ℕ). 2 ^ m) z in
      let v : 2 ^ suc (0 + n) ≡ 2 ^ (0 + n) * 2 = pow-suc 2 (0 + n) in
      let p : at ≡ 32 * q = omega arith in
      let a : 0 + q ≡ q = omega arith in
      let b : h ≡ h + 0 = omega arith in
      let row = node_row nodes (suc h) 0 (2 ^ (0 + n)) in
      part_first row (node_rows nodes (suc (suc h)) (0 + n)) at 32 (omega (arith, row_sized (2 ^ (0 + n)) h 0))
      ∙ ap (λ (m : ℕ). part row m 32) p
      ∙ row_node nodes (suc h) (2 ^ (0 + n)) 0 q (λ i g. sized h (0 + i)) (omega arith)
      ∙ ap₂ (λ (i r : ℕ). nodes (suc i) r) b a
  rows_node (suc k) h n q at l e =
      let z : suc k + n ≡ suc (k + n) = omega arith in
      let w : 2 ^ suc (suc k + n) ≡ 2 ^ (suc k + n) * 2 = pow-suc 2 (suc k + n) in
      let u : 2 ^ suc n ≤ 2 ^ (suc k + n) = pow_mono (omega arith) in
      let v = pow-suc 2 n in
      let p : ℕ = at - 32 * 2 ^ (suc k + n) in
      let f : p + 64 * 2 ^ n ≡ 32 * 2 ^ (suc k + n) + 32 * q = omega arith in
      let b : suc h + k ≡ h + suc k = omega arith in
      part_second (node_row nodes (suc h) 0 (2 ^ (suc k + n))) (node_rows nodes (suc (suc h)) (suc k + n))
      (32 * 2 ^ (suc k + n)) p 32 at (row_sized (2 ^ (suc k + n)) h 0) (omega arith)
      ∙ ap (λ (m : ℕ). part (node_rows nodes (suc (suc h)) m) p 32) z
      ∙ rows_node k (suc h) n q p l (f ∙ ap (λ (m : ℕ). 32 * 2 ^ m + 32 * q) z)
      ∙ ap (λ (m : ℕ). nodes (suc m) q) b
