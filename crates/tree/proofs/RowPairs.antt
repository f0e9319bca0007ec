-- Nodes of a row at once: none of them is a child of another, so the order of the reads and the writes does not show.
use mathlib.Core.Path.{◌≡◌, sym, ap, ap₂, ◌∙◌}
use Prim.Native.Nat.{ℕ, zero, suc, ◌+◌, ◌-◌, ◌*◌, ◌^◌, ◌≤◌, ◌<◌}
use native.Mathlib.Nat.{pow-suc}
use lib.Pow.{pow_pos}
use Rattle.std.proofs.lemmas.List.{drop-take, take-take}
use native.Mathlib.Omega.{arith}
use mathlib.Core.List.{List, ◌++◌, append_assoc}
use lib.ListN.{length, take, drop}
use lib.Seq.{drop-drop}
use Rattle.octets.specs.Splice.{part, splice}
use Rattle.octets.specs.SpliceLaws.{part_part, splice_nothing, splice_append}
use Rattle.node.specs.Node.{node_hash}
use Rattle.tree.specs.Place.{RowInTree, node_place}
use Rattle.tree.specs.PlaceLaws.{row_part, row_inside, row_children, place_is}
use Rattle.tree.specs.TreeNodes.{children, SizedFor}
use Rattle.tree.specs.TreeNodesLaws.{node_of_deal, node_of_buffer}
use Rattle.tree.specs.RowAbove.{row_above}
use Rattle.tree.specs.RowAboveLaws.{above_length}
use Rattle.tree.specs.RowLanes.{pair_from}
use Rattle.tree.specs.Renewed.{renewed_node, renewed_row}
use Rattle.tree.specs.RenewedNodeLaws.{same_children, row_stays}
use Rattle.tree.proofs.LanesAbove.{pair_is, last_above}
use Rattle.tree.proofs.Rows.{row_last}

-- the two children of a node stand side by side
module _ (bytes tree : List ℕ) (h q l : ℕ) where
  pub children_in_deal : h ≡ 0 → children bytes tree h (q + l) ≡ pair_from bytes (q * 64) l
  unfolding children
  children_in_deal z =
      let a : (q + l) * 2 * 32 ≡ q * 64 + l * 64 = omega arith in
      let b : ((q + l) * 2 + 1) * 32 ≡ q * 64 + 32 + l * 64 = omega arith in
      ap₂ (λ (x y : List ℕ). x ++ y)
      (node_of_deal bytes tree h ((q + l) * 2) z ∙ ap (λ (at : ℕ). part bytes at 32) a)
      (node_of_deal bytes tree h ((q + l) * 2 + 1) z ∙ ap (λ (at : ℕ). part bytes at 32) b)

  place_child : (c r : ℕ) → r ≡ q * 2 + c → node_place (length bytes) h r ≡ node_place (length bytes) h (q * 2) + 32 * c
  unfolding node_place
  place_child c r e = omega arith

  pub children_in_buffer : (at : ℕ) → at ≡ node_place (length bytes) h (q * 2) → 0 < h
      → children bytes tree h (q + l) ≡ pair_from tree at l
  unfolding children
  children_in_buffer at e up =
      let a : node_place (length bytes) h ((q + l) * 2) ≡ at + l * 64 = place_child (l * 2) ((q + l) * 2) (omega arith)
      ∙ omega arith in
      let b : node_place (length bytes) h ((q + l) * 2 + 1) ≡ at + 32 + l * 64 = place_child (l * 2 + 1)
      ((q + l) * 2 + 1) (omega arith) ∙ omega arith in
      ap₂ (λ (x y : List ℕ). x ++ y)
      (node_of_buffer bytes tree h ((q + l) * 2) up ∙ ap (λ (p : ℕ). part tree p 32) a)
      (node_of_buffer bytes tree h ((q + l) * 2 + 1) up ∙ ap (λ (p : ℕ). part tree p 32) b)

-- the same children as a pair of the row that stands below: in the deal, or in the buffer
module _ (bytes tree : List ℕ) (h q n l : ℕ) (below : l < n) (run : List ℕ) where
  pub deal_pair : h ≡ 0 → run ≡ part bytes (64 * q) (64 * n) → 64 * (q + n) ≤ length bytes
      → part run (64 * l) 64 ≡ children bytes tree h (q + l)
  deal_pair z is inside =
      let e : 64 * q + 64 * l ≡ q * 64 + 64 * l = omega arith in
      ap (λ (r : List ℕ). part r (64 * l) 64) is
      ∙ part_part bytes (64 * q) (64 * n) (64 * l) 64 (omega arith) (omega arith)
      ∙ ap (λ (at : ℕ). part bytes at 64) e
      ∙ sym (children_in_deal bytes tree h q l z ∙ pair_is bytes (q * 64) l)

  place_first : node_place (length bytes) h (q * 2) ≡ node_place (length bytes) h 0 + 64 * q
  unfolding node_place
  place_first = omega arith

  pub buffer_pair : (at : ℕ) → 0 < h → at ≡ node_place (length bytes) h 0 + 64 * q → run ≡ part tree at (64 * n)
      → at + 64 * n ≤ length tree → part run (64 * l) 64 ≡ children bytes tree h (q + l)
  buffer_pair at up place is inside =
      let e : at ≡ node_place (length bytes) h (q * 2) = place ∙ sym place_first in
      ap (λ (r : List ℕ). part r (64 * l) 64) is
      ∙ part_part tree at (64 * n) (64 * l) 64 (omega arith) inside
      ∙ sym (children_in_buffer bytes tree h q l at e up ∙ pair_is tree at l)

module _ (bytes tree run : List ℕ) (s : SizedFor bytes tree) (h q : ℕ) where
  place_next : (at n : ℕ) → at ≡ node_place (length bytes) (suc h) q
      → at + 32 * n ≡ node_place (length bytes) (suc h) (q + n)
  unfolding node_place
  place_next at n e = omega arith

  -- the nodes over the pairs, written side by side, are the row worked out one node after the other
  module _ (at : ℕ) (place : at ≡ node_place (length bytes) (suc h) q) where
    abbrev Pairs : ℕ → Type 0
    Pairs n = (l : ℕ) → l < n → part run (64 * l) 64 ≡ children bytes tree h (q + l)

    next_node : (n : ℕ) → RowInTree (length bytes) (suc h) q (suc n) → Pairs (suc n)
        → node_hash (part run (0 + 64 * n) 64)
        ≡ node_hash (children bytes (renewed_row bytes tree h q n) h (q + n))
    next_node n t k =
        let here = row_part (length bytes) (suc h) q (suc n) (q + n) 1 t (omega arith) (omega arith) in
        let before = row_part (length bytes) (suc h) q (suc n) q n t (omega arith) (omega arith) in
        let e : 0 + 64 * n ≡ 64 * n = omega arith in
        ap node_hash (ap (λ (p : ℕ). part run p 64) e ∙ k n (omega arith)
        ∙ same_children bytes tree (renewed_row bytes tree h q n) h (q + n) here
        (λ r w. sym (row_stays bytes h n q tree s before h r w (λ a b c. omega arith))))

    pub pairs_written : (n : ℕ) → RowInTree (length bytes) (suc h) q n → Pairs n
        → splice tree at (row_above n run) ≡ renewed_row bytes tree h q n
    unfolding row_above renewed_node renewed_row
    pairs_written zero t k = splice_nothing tree at
    pairs_written (suc n) t k =
        let before = row_part (length bytes) (suc h) q (suc n) q n t (omega arith) (omega arith) in
        let written = pairs_written n before (λ l g. k l (omega arith)) in
        let l = above_length n run in
        let room = row_inside (length bytes) (suc h) q n before (omega arith) in
        ap (splice tree at) (last_above run 0 n)
        ∙ sym (splice_append tree at (at + 32 * n) (row_above n run) (node_hash (part run (0 + 64 * n) 64))
        (omega arith) (omega arith))
        ∙ (λ j. splice (written j) (place_next at n place j) (next_node n t k j))
        ∙ sym (row_last bytes h n q tree)

-- a part written between two others
pub splice_parts : (d rows rest tail s : List ℕ) (at : ℕ) → rows ≡ take at d → rest ≡ drop at d
    → tail ≡ drop (length s) rest → rows ++ (s ++ tail) ≡ splice d at s
unfolding splice
splice_parts d rows rest tail s at a b c =
    sym (append_assoc rows s tail)
    ∙ ap₂ (λ (x y : List ℕ). x ++ s ++ y) a (c ∙ ap (drop (length s)) b ∙ drop-drop (length s) at d)

-- where two rows stand, one above the other
module _ (D h q n : ℕ) (t : RowInTree D (suc h) q n) where
  pub row_begins : RowInTree D (suc h) 0 1
  row_begins = record { levels = t.levels; sized = t.sized; inside = omega (arith, pow_pos t.levels) }

  pub row_below_begins : RowInTree D h 0 1
  row_below_begins =
      let u = row_children D h q n t in
      record { levels = u.levels; sized = u.sized; inside = omega (arith, pow_pos u.levels) }

  -- the rows below it end before it, and the row below has 64 bytes for each of its nodes
  pub rows_apart : 0 < h → node_place D h 0 + 64 * (q + n) ≤ node_place D (suc h) 0
  rows_apart up =
      let top : suc h + t.levels ≡ h + suc t.levels = omega arith in
      let sized : D ≡ 32 * 2 ^ (h + suc t.levels) = t.sized ∙ ap (λ (m : ℕ). 32 * 2 ^ m) top in
      omega (
        arith,
        pow-suc 2 t.levels,
        t.inside,
        place_is D (suc h) 0 t.levels (omega arith) t.sized,
        place_is D h 0 (suc t.levels) up sized,
      )

  pub row_place : node_place D (suc h) 0 + 32 * q ≡ node_place D (suc h) q
  unfolding node_place
  row_place = omega arith

-- the row below as a part of the buffer
pub row_below_part : (tree rows rest run : List ℕ) (place cut n : ℕ) → place + n ≤ cut → rows ≡ take cut tree
    → rest ≡ drop place rows → run ≡ take n rest → run ≡ part tree place n
unfolding part
row_below_part tree rows rest run place cut n h er ed et =
    let e : cut ≡ place + (cut - place) = omega arith in
    et
    ∙ ap (take n) (ed ∙ ap (drop place) (er ∙ ap (λ (k : ℕ). take k tree) e) ∙ drop-take place (cut - place) tree)
    ∙ take-take n (cut - place) (drop place tree) (omega arith)
