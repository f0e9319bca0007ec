-- Filling by parts of rows: where the children of n nodes stand side by side, the nodes over them are the n nodes.
use Rattle.std.specs.Prelude.{◌≡◌, take, drop}
use Rattle.std.proofs.Math.Path.{refl, ap, ap₂}
use Rattle.std.proofs.Common.{sym, ◌∙◌, inl, length-append, take_at, drop_at, drop-drop}
use Prim.Native.Nat.{ℕ, zero, suc, ◌+◌, ◌-◌, ◌*◌, ◌/◌, ◌%◌, ◌^◌, ◌<◌}
use native.Mathlib.Omega.{arith}
use mathlib.Core.List.{List, ◌++◌, append_assoc}
use Rattle.std.proofs.Math.ListN.{length}
use borrow.Author.Tests.{eq-eqb, ne_eqb}
use Rattle.octets.specs.Splice.{part}
use Rattle.octets.specs.SpliceLaws.{part_append}
use Rattle.node.specs.Node.{node_hash, node_hash_length}
use Rattle.merkle.specs.NodeSource.{NodeSource}
use Rattle.merkle.specs.Parts.{node_row}
use Rattle.merkle.specs.NodeRowLaws.{row_node, same_row}
use Rattle.tree.specs.Place.{RowInTree, NodeInTree, node_place}
use Rattle.tree.specs.PlaceLaws.{row_part, row_children, below_top}
use Rattle.tree.specs.TreeNodes.{tree_nodes, children, SizedFor}
use Rattle.tree.specs.TreeNodesLaws.{node_of_deal, node_of_buffer, node_length, filled_tree_lem}
use Rattle.tree.specs.Filled.{filled}
use Rattle.tree.specs.FilledLaws.{filled_filled, filled_only}
use Rattle.tree.specs.KeepLaws.{filled_up}
use Rattle.tree.specs.RowAbove.{row_above, row_code, filled_row, OverChildren, InRange}

pub above_length : (n : ℕ) (below : List ℕ) → length (row_above n below) ≡ 32 * n
unfolding row_above
above_length zero below = refl
above_length (suc n) below =
    length-append (node_hash (take 64 below)) (row_above n (drop 64 below))
    ∙ omega (arith, node_hash_length (take 64 below), above_length n (drop 64 below))

-- in two parts
pub above_split : (a b : ℕ) (below : List ℕ)
    → row_above (a + b) below ≡ row_above a below ++ row_above b (drop (64 * a) below)
unfolding row_above
above_split zero b below = let z : 0 + b ≡ b = omega arith in ap (λ (n : ℕ). row_above n below) z
above_split (suc a) b below =
    let z : suc a + b ≡ suc (a + b) = omega arith in
    let w : 64 + 64 * a ≡ 64 * suc a = omega arith in
    let node = node_hash (take 64 below) in
    let rest = drop 64 below in
    ap (λ (n : ℕ). row_above n below) z
    ∙ ap (λ (l : List ℕ). node ++ l) (above_split a b rest)
    ∙ sym (append_assoc node (row_above a rest) (row_above b (drop (64 * a) rest)))
    ∙ ap (λ (l : List ℕ). node ++ row_above a rest ++ row_above b l)
    (drop-drop (64 * a) 64 below ∙ ap (λ (n : ℕ). drop n below) w)

-- the ways through the routine's answer
module _ (below above : List ℕ) where
  pub no_pairs : (length below % 64 ≡ 0 → ⊥) → (row_code below above ≡ 12) × (filled_row below above ≡ above)
  unfolding filled_row
  no_pairs h = let e = ne_eqb (length below % 64) 0 h in (rw e, rw e)

  pub not_half : length below % 64 ≡ 0 → (length above ≡ length below / 2 → ⊥)
      → (row_code below above ≡ 12) × (filled_row below above ≡ above)
  unfolding filled_row
  not_half h g =
      let e = eq-eqb (length below % 64) 0 h in
      let f = ne_eqb (length above) (length below / 2) g in
      (rw (e, f), rw (e, f))

  pub row_written : length below % 64 ≡ 0 → length above ≡ length below / 2
      → (row_code below above ≡ 0) × (filled_row below above ≡ row_above (length below / 64) below)
  unfolding filled_row
  row_written h g =
      let e = eq-eqb (length below % 64) 0 h in
      let f = eq-eqb (length above) (length below / 2) g in
      (rw (e, f), rw (e, f))

  -- for n pairs and n nodes
  pub row_of : (n : ℕ) → length below ≡ 64 * n → length above ≡ 32 * n
      → (row_code below above ≡ 0) × (filled_row below above ≡ row_above n below)
  row_of n h g =
      let w = row_written (omega arith) (omega arith) in
      let e : length below / 64 ≡ n = omega arith in
      (w.0, w.1 ∙ ap (λ (m : ℕ). row_above m below) e)

-- over a row: its nodes two by two
abbrev over_pairs : NodeSource → ℕ → NodeSource
over_pairs nodes h i q = node_hash (nodes h (q * 2) ++ nodes h (q * 2 + 1))

module _ (nodes : NodeSource) (h : ℕ) where
  first_pair : (x y rest : List ℕ) → length x ≡ 32 → length y ≡ 32
      → (take 64 (x ++ (y ++ rest)) ≡ x ++ y) × (drop 64 (x ++ (y ++ rest)) ≡ rest)
  first_pair x y rest a b =
      let e : length (x ++ y) ≡ 64 = length-append x y ∙ omega arith in (
        ap (take 64) (sym (append_assoc x y rest)) ∙ take_at (x ++ y) rest 64 e,
        ap (drop 64) (sym (append_assoc x y rest)) ∙ drop_at (x ++ y) rest 64 e,
      )

  above_row : (n q : ℕ) → ((i : ℕ) → i < n * 2 → length (nodes h (q * 2 + i)) ≡ 32)
      → row_above n (node_row nodes h (q * 2) (n * 2)) ≡ node_row (over_pairs nodes h) (suc h) q n
  unfolding row_above node_row
  above_row zero q sized = refl
  above_row (suc n) q sized =
      let e : suc n * 2 ≡ suc (suc (n * 2)) = omega arith in
      let w : suc (suc (q * 2)) ≡ suc q * 2 = omega arith in
      let v : (i : ℕ) → suc q * 2 + i ≡ q * 2 + suc (suc i) = λ i. omega arith in
      let one : suc (q * 2) ≡ q * 2 + 1 = omega arith in
      let none : q * 2 ≡ q * 2 + 0 = omega arith in
      let x = nodes h (q * 2) in
      let y = nodes h (suc (q * 2)) in
      let rest = node_row nodes h (suc (suc (q * 2))) (n * 2) in
      let p = first_pair x y rest (ap (λ (r : ℕ). length (nodes h r)) none ∙ sized 0 (omega arith))
      (ap (λ (r : ℕ). length (nodes h r)) one ∙ sized 1 (omega arith)) in
      ap (λ (m : ℕ). row_above (suc n) (node_row nodes h (q * 2) m)) e
      ∙ ap₂ (λ (a b : List ℕ). node_hash a ++ row_above n b) p.0 p.1
      ∙ ap₂ (λ (a : List ℕ) (r : ℕ). node_hash (x ++ a) ++ row_above n (node_row nodes h r (n * 2)))
      (ap (nodes h) one) w
      ∙ ap (λ (l : List ℕ). node_hash (x ++ nodes h (q * 2 + 1)) ++ l)
      (above_row n (suc q) (λ i l. ap (λ (r : ℕ). length (nodes h r)) (v i) ∙ sized (suc (suc i)) (omega arith)))

  -- so a row is the nodes over the row below it where each of its nodes is the node over its children, and only there
  module _ (n q : ℕ) (below : (i : ℕ) → i < n * 2 → length (nodes h (q * 2 + i)) ≡ 32) where
    row_over : ((i : ℕ) → i < n → nodes (suc h) (q + i) ≡ over_pairs nodes h (suc h) (q + i))
        → node_row nodes (suc h) q n ≡ row_above n (node_row nodes h (q * 2) (n * 2))
    row_over each = same_row nodes (suc h) (over_pairs nodes h) n q each ∙ sym (above_row n q below)

    node_over_lem : node_row nodes (suc h) q n ≡ row_above n (node_row nodes h (q * 2) (n * 2))
        → ((i : ℕ) → i < n → length (nodes (suc h) (q + i)) ≡ 32) → (i : ℕ) → i < n
        → nodes (suc h) (q + i) ≡ over_pairs nodes h (suc h) (q + i)
    node_over_lem e sized i l =
        sym (row_node nodes (suc h) n q i sized l)
        ∙ ap (λ (row : List ℕ). part row (32 * i) 32) (e ∙ above_row n q below)
        ∙ row_node (over_pairs nodes h) (suc h) n q i
        (λ j g. node_hash_length (nodes h ((q + j) * 2) ++ nodes h ((q + j) * 2 + 1))) l

-- where the nodes of a row stand: side by side, in the deal or in the buffer
module _ (bytes tree : List ℕ) where
  pub row_of_deal : (n q : ℕ) → node_row (tree_nodes bytes tree) 0 q n ≡ part bytes (q * 32) (n * 32)
  unfolding node_row part
  row_of_deal zero q = refl
  row_of_deal (suc n) q =
      let a : suc q * 32 ≡ q * 32 + 32 = omega arith in
      let b : 32 + n * 32 ≡ suc n * 32 = omega arith in
      ap₂ (λ (x y : List ℕ). x ++ y) (node_of_deal bytes tree 0 q refl)
      (row_of_deal n (suc q) ∙ ap (λ (at : ℕ). part bytes at (n * 32)) a)
      ∙ part_append bytes (q * 32) 32 (n * 32)
      ∙ ap (part bytes (q * 32)) b

  next_place_lem : (h q : ℕ) → node_place (length bytes) h (suc q) ≡ node_place (length bytes) h q + 32
  unfolding node_place
  next_place_lem h q = omega arith

  pub row_of_buffer : (h n q : ℕ)
      → node_row (tree_nodes bytes tree) (suc h) q n ≡ part tree (node_place (length bytes) (suc h) q) (n * 32)
  unfolding node_row part
  row_of_buffer h zero q = refl
  row_of_buffer h (suc n) q =
      let at = node_place (length bytes) (suc h) q in
      let b : 32 + n * 32 ≡ suc n * 32 = omega arith in
      ap₂ (λ (x y : List ℕ). x ++ y) (node_of_buffer bytes tree (suc h) q (omega arith))
      (row_of_buffer h n (suc q) ∙ ap (λ (p : ℕ). part tree p (n * 32)) (next_place_lem (suc h) q))
      ∙ part_append tree at 32 (n * 32)
      ∙ ap (part tree at) b

-- the children of a range are in the tree, and have 32 bytes each
module _ (bytes tree : List ℕ) (s : SizedFor bytes tree) (h q n : ℕ) (t : RowInTree (length bytes) (suc h) q n) where
  below_sized : (i : ℕ) → i < n * 2 → length (tree_nodes bytes tree h (q * 2 + i)) ≡ 32
  below_sized i l =
      node_length bytes tree s h (q * 2 + i)
      (row_part (length bytes) h (q * 2) (n * 2) (q * 2 + i) 1 (row_children (length bytes) h q n t) (omega arith)
      (omega arith))

  range_sized : (i : ℕ) → i < n → length (tree_nodes bytes tree (suc h) (q + i)) ≡ 32
  range_sized i l =
      node_length bytes tree s (suc h) (q + i)
      (row_part (length bytes) (suc h) q n (q + i) 1 t (omega arith) (omega arith))

-- a node in such a range is the node over its children
node_in_range : (bytes tree : List ℕ) → SizedFor bytes tree → (h q : ℕ) → InRange bytes tree h q
    → tree_nodes bytes tree (suc h) q ≡ node_hash (children bytes tree h q)
unfolding children
node_in_range bytes tree s h q r =
    let i : ℕ = q - r.first in
    let p : r.first + i ≡ q = omega (arith, r.starts) in
    ap (tree_nodes bytes tree (suc h)) (sym p)
    ∙ node_over_lem (tree_nodes bytes tree) h r.count r.first
    (below_sized bytes tree s h r.first r.count r.known) r.over
    (range_sized bytes tree s h r.first r.count r.known) i (omega (arith, r.starts, r.ends))
    ∙ ap (over_pairs (tree_nodes bytes tree) h (suc h)) p

module _ (bytes : List ℕ) (top : ℕ) (e : length bytes ≡ 32 * 2 ^ top) where
  -- every range of the filled buffer is the nodes over its children
  pub filled_range : (h q n : ℕ) → RowInTree (length bytes) (suc h) q n → OverChildren bytes (filled top bytes) h q n
  filled_range h q n t =
      let f = filled_filled bytes top e in
      row_over (tree_nodes bytes (filled top bytes)) h n q (below_sized bytes (filled top bytes) f.sized h q n t)
      (λ i l. (filled_tree_lem bytes (filled top bytes) top e f).split t.levels h (q + i)
      (below_top (length bytes) top (suc h) q n t e) (omega (arith, t.inside)))

  -- and a buffer in which every node is in such a range is the filled one, however the rows are cut
  pub filled_by_ranges : (tree : List ℕ) → SizedFor bytes tree
      → ((h q : ℕ) → NodeInTree (length bytes) (suc h) q → InRange bytes tree h q) → tree ≡ filled top bytes
  filled_by_ranges tree s ranges =
      filled_only bytes top e tree
      (filled_up bytes tree (λ h q t. inl (node_in_range bytes tree s h q (ranges h q t))) s)
