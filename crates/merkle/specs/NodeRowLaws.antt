-- Rows of nodes: in two parts, their length, and their stray bits.
use Rattle.std.specs.Prelude.{◌≡◌, true, ◌&&◌, take, drop}
use Rattle.std.proofs.Math.Path.{refl, sym, ap, ap₂, subst}
use Rattle.std.proofs.Common.{◌∙◌, take_at, drop_at}
use Prim.Native.Nat.{ℕ, zero, suc, ◌+◌, ◌*◌, ◌/◌, ◌<◌}
use native.Mathlib.Omega.{arith}
use mathlib.Core.List.{List, ◌++◌, append_assoc}
use Rattle.std.proofs.Math.ListN.{length, get_or, length-append}
use Rattle.std.proofs.Math.Seq.{drop-append-add}
use Rattle.octets.specs.Splice.{part}
use Rattle.rules.specs.RefusalLaws.{and_both}
use Rattle.stray.specs.StrayBits.{clear_node, clear_nodes, no_stray_bits}
use Rattle.stray.specs.StrayBitsLaws.{clear_node_lem}
use Rattle.merkle.specs.NodeSource.{NodeSource}
use Rattle.merkle.specs.Parts.{node_row}

-- a part of the second of two strings
pub part_second : (x y : List ℕ) (k p n at : ℕ) → length x ≡ k → at ≡ k + p → part (x ++ y) at n ≡ part y p n
unfolding part
part_second x y k p n at e l =
    ap (take n) (ap (λ (m : ℕ). drop m (x ++ y)) (l ∙ ap (λ (m : ℕ). m + p) (sym e)) ∙ drop-append-add x y p)

first_node : (x y : List ℕ) → length x ≡ 32 → part (x ++ y) 0 32 ≡ x
unfolding part
first_node x y e = take_at x y 32 e

-- a row in two parts, its length and its nodes
module _ (nodes : NodeSource) (h : ℕ) where
  pub row_split : (a b q : ℕ) → node_row nodes h q (a + b) ≡ node_row nodes h q a ++ node_row nodes h (q + a) b
  unfolding node_row
  row_split zero b q =
      let z : 0 + b ≡ b = omega arith in
      let w : q ≡ q + 0 = omega arith in
      ap₂ (λ (p n : ℕ). node_row nodes h p n) w z
  row_split (suc a) b q =
      let z : suc a + b ≡ suc (a + b) = omega arith in
      let w : suc q + a ≡ q + suc a = omega arith in
      ap (node_row nodes h q) z
      ∙ ap (λ (l : List ℕ). nodes h q ++ l) (row_split a b (suc q))
      ∙ sym (append_assoc (nodes h q) (node_row nodes h (suc q) a) (node_row nodes h (suc q + a) b))
      ∙ ap (λ (p : ℕ). nodes h q ++ node_row nodes h (suc q) a ++ node_row nodes h p b) w

  pub row_length : (n q : ℕ) → ((i : ℕ) → i < n → length (nodes h (q + i)) ≡ 32)
      → length (node_row nodes h q n) ≡ 32 * n
  unfolding node_row
  row_length zero q sized = refl
  row_length (suc n) q sized =
      let e : q + 0 ≡ q = omega arith in
      let first : length (nodes h q) ≡ 32 = ap (λ (p : ℕ). length (nodes h p)) (sym e) ∙ sized 0 (omega arith) in
      let rest : length (node_row nodes h (suc q) n) ≡ 32 * n =
      row_length n (suc q) (λ i l.
      let w : suc q + i ≡ q + suc i = omega arith in
      ap (λ (p : ℕ). length (nodes h p)) w ∙ sized (suc i) (omega arith)) in
      length-append (nodes h q) (node_row nodes h (suc q) n) ∙ omega arith

  pub row_node : (n q r : ℕ) → ((i : ℕ) → i < n → length (nodes h (q + i)) ≡ 32) → r < n
      → part (node_row nodes h q n) (32 * r) 32 ≡ nodes h (q + r)
  unfolding node_row
  row_node zero q r sized l = absurd (omega arith)
  row_node (suc n) q zero sized l =
      let e : q ≡ q + 0 = omega arith in
      first_node (nodes h q) (node_row nodes h (suc q) n) (ap (λ (p : ℕ). length (nodes h p)) e ∙ sized 0 l)
      ∙ ap (nodes h) e
  row_node (suc n) q (suc r) sized l =
      let e : q ≡ q + 0 = omega arith in
      let w : (i : ℕ) → suc q + i ≡ q + suc i = λ i. omega arith in
      part_second (nodes h q) (node_row nodes h (suc q) n) 32 (32 * r) 32 (32 * suc r)
      (ap (λ (p : ℕ). length (nodes h p)) e ∙ sized 0 (omega arith)) (omega arith)
      ∙ row_node n (suc q) r (λ i g. ap (λ (p : ℕ). length (nodes h p)) (w i) ∙ sized (suc i) (omega arith))
      (omega arith)
      ∙ ap (nodes h) (w r)

  -- two sources with the same nodes
  pub same_row : (other : NodeSource) (n q : ℕ) → ((i : ℕ) → i < n → nodes h (q + i) ≡ other h (q + i))
      → node_row nodes h q n ≡ node_row other h q n
  unfolding node_row
  same_row other zero q same = refl
  same_row other (suc n) q same =
      let e : q + 0 ≡ q = omega arith in
      ap₂ (λ (x y : List ℕ). x ++ y)
      (ap (nodes h) (sym e) ∙ same 0 (omega arith) ∙ ap (other h) e)
      (same_row other n (suc q) (λ i l.
      let w : suc q + i ≡ q + suc i = omega arith in
      ap (nodes h) w ∙ same (suc i) (omega arith) ∙ ap (other h) (sym w)))

  -- nodes without stray bits
  clear_row : (n q : ℕ) → ((i : ℕ) → i < n → length (nodes h (q + i)) ≡ 32)
      → ((i : ℕ) → i < n → get_or (nodes h (q + i)) 31 0 < 64) → clear_nodes n (node_row nodes h q n) ≡ true
  unfolding node_row clear_nodes
  clear_row zero q sized clear = refl
  clear_row (suc n) q sized clear =
      let e : q + 0 ≡ q = omega arith in
      let w : (i : ℕ) → q + suc i ≡ suc q + i = λ i. omega arith in
      let l : length (nodes h q) ≡ 32 = ap (λ (p : ℕ). length (nodes h p)) (sym e) ∙ sized 0 (omega arith) in
      let c : get_or (nodes h q) 31 0 < 64 =
      subst (λ (p : ℕ). get_or (nodes h p) 31 0 < 64) e (clear 0 (omega arith)) in
      ap₂ (λ (x y : List ℕ). clear_node x && clear_nodes n y)
      (take_at (nodes h q) (node_row nodes h (suc q) n) 32 l) (drop_at (nodes h q) (node_row nodes h (suc q) n) 32 l)
      ∙ and_both (clear_node (nodes h q)) (clear_nodes n (node_row nodes h (suc q) n)) (clear_node_lem (nodes h q) c)
      (clear_row n (suc q)
      (λ i g. ap (λ (p : ℕ). length (nodes h p)) (sym (w i)) ∙ sized (suc i) (omega arith))
      (λ i g. subst (λ (p : ℕ). get_or (nodes h p) 31 0 < 64) (w i) (clear (suc i) (omega arith))))

  pub row_clear : (n q : ℕ) → ((i : ℕ) → i < n → length (nodes h (q + i)) ≡ 32)
      → ((i : ℕ) → i < n → get_or (nodes h (q + i)) 31 0 < 64) → no_stray_bits (node_row nodes h q n) ≡ true
  row_clear n q sized clear =
      let l = row_length n q sized in
      let e : length (node_row nodes h q n) / 32 ≡ n = omega arith in
      ap (λ (m : ℕ). clear_nodes m (node_row nodes h q n)) e ∙ clear_row n q sized clear
