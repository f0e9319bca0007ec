-- Lanes written side by side are the nodes over the pairs.
use mathlib.Core.Path.{◌≡◌, refl, sym, ap, ap₂, ◌∙◌}
use Prim.Native.Nat.{ℕ, zero, suc, ◌+◌, ◌*◌, ◌≤◌, ◌<◌}
use native.Mathlib.Omega.{arith}
use mathlib.Core.List.{List, ◌++◌, append-nil}
use lib.ListN.{length, take, drop}
use lib.Seq.{drop-drop}
use Rattle.std.proofs.lemmas.List.{take-take, drop-take}
use Rattle.octets.specs.Splice.{part, splice}
use Rattle.octets.specs.SpliceLaws.{part_append, splice_whole, splice_nothing, splice_append}
use Rattle.node.specs.Node.{node_hash}
use Rattle.lanes.specs.NodeWords.{lane_bytes, Holds}
use Rattle.lanes.specs.NodeWordsLaws.{held_hash}
use Rattle.tree.specs.RowLanes.{pair_from}
use Rattle.tree.specs.RowAbove.{row_above}
use Rattle.tree.specs.RowAboveLaws.{above_length, above_split}

module _ (below : List ℕ) (at : ℕ) where
  pub pair_is : (l : ℕ) → pair_from below at l ≡ part below (at + 64 * l) 64
  pair_is l =
      let a : at + l * 64 ≡ at + 64 * l = omega arith in
      let b : at + 32 + l * 64 ≡ at + 64 * l + 32 = omega arith in
      ap₂ (λ (p q : ℕ). part below p 32 ++ part below q 32) a b ∙ part_append below (at + 64 * l) 32 32

  -- the nodes over one more pair
  pub last_above : (n : ℕ) → row_above (suc n) (drop at below)
      ≡ row_above n (drop at below) ++ node_hash (part below (at + 64 * n) 64)
  unfolding row_above part
  last_above n =
      let e : suc n ≡ n + 1 = omega arith in
      ap (λ (m : ℕ). row_above m (drop at below)) e
      ∙ above_split n 1 (drop at below)
      ∙ ap (λ (l : List ℕ). row_above n (drop at below) ++ l)
      (append-nil (node_hash (take 64 (drop (64 * n) (drop at below))))
      ∙ ap (λ (l : List ℕ). node_hash (take 64 l)) (drop-drop (64 * n) at below))

  pub lanes_above : (nodes : List ℕ) (n : ℕ) → at + 64 * n ≤ length below
      → ((l : ℕ) → l < n → Holds nodes l (node_hash (pair_from below at l)))
      → lane_bytes nodes n ≡ row_above n (drop at below)
  unfolding lane_bytes row_above
  lanes_above nodes zero room held = refl
  lanes_above nodes (suc n) room held =
      ap₂ (λ (x y : List ℕ). x ++ y)
      (lanes_above nodes n (omega arith) (λ j g. held j (omega arith)))
      (held_hash nodes (pair_from below at n) n (held n (omega arith)) ∙ ap node_hash (pair_is n))
      ∙ sym (last_above n)

-- one more node written behind i of them
pub one_more : (below above : List ℕ) (i : ℕ) (now node : List ℕ) → 32 * i ≤ length above
    → now ≡ splice above 0 (row_above i below) → node ≡ node_hash (part below (64 * i) 64)
    → splice now (32 * i) node ≡ splice above 0 (row_above (i + 1) below)
one_more below above i now node room en ex =
    let e : 64 * i ≡ 0 + 64 * i = omega arith in
    let n : suc i ≡ i + 1 = omega arith in
    let l = above_length i below in
    ap₂ (λ (d x : List ℕ). splice d (32 * i) x) en (ex ∙ ap (λ (k : ℕ). node_hash (part below k 64)) e)
    ∙ splice_append above 0 (32 * i) (row_above i below) (node_hash (part below (0 + 64 * i) 64)) (omega arith)
    (omega arith)
    ∙ ap (splice above 0) (sym (last_above below 0 i) ∙ ap (λ (k : ℕ). row_above k below) n)

-- no node written
pub nothing_above : (below above : List ℕ) → above ≡ splice above 0 (row_above 0 below)
unfolding row_above
nothing_above below above = sym (splice_nothing above 0)

-- all of them written
pub all_above : (below above : List ℕ) (n : ℕ) → length above ≡ 32 * n
    → splice above 0 (row_above n below) ≡ row_above n below
all_above below above n e = splice_whole above (row_above n below) (e ∙ sym (above_length n below))

-- a row above does not depend on what follows its pairs
above_first : (n m : ℕ) (below : List ℕ) → m ≡ 64 * n → row_above n (take m below) ≡ row_above n below
unfolding row_above
above_first zero m below e = refl
above_first (suc n) m below e =
    let s : m ≡ 64 + 64 * n = omega arith in
    ap₂ (λ (x y : List ℕ). node_hash x ++ row_above n y) (take-take 64 m below (omega arith))
    (ap (λ (k : ℕ). drop 64 (take k below)) s ∙ drop-take 64 (64 * n) below)
    ∙ ap (λ (l : List ℕ). node_hash (take 64 below) ++ l) (above_first n (64 * n) (drop 64 below) refl)

-- a row in two parts
pub parts_above : (below left right : List ℕ) (a b n : ℕ) → n ≡ a + b → left ≡ take (64 * a) below
    → right ≡ drop (64 * a) below → row_above a left ++ row_above b right ≡ row_above n below
parts_above below left right a b n e el er =
    ap₂ (λ (x y : List ℕ). row_above a x ++ row_above b y) el er
    ∙ ap (λ (x : List ℕ). x ++ row_above b (drop (64 * a) below)) (above_first a (64 * a) below refl)
    ∙ sym (above_split a b below)
    ∙ ap (λ (k : ℕ). row_above k below) (sym e)
