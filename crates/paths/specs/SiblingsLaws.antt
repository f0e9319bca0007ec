-- A source whose nodes have 32 bytes each: its paths have 32 bytes for each level. A source that is a tree: its own
-- paths lead to its top node, their strings are its pairs, and no sibling above the lowest level has stray bits. Once
-- over the height.
use Rattle.std.specs.Prelude.{◌≡◌, Bool, true, length, get_or, take, drop, eqb}
use Rattle.std.proofs.Math.Path.{refl, ap, ap₂}
use Rattle.std.proofs.Common.{sym, subst, ◌∙◌, take_at, eq-eqb, ne_eqb}
use Prim.Native.Nat.{ℕ, zero, suc, ◌+◌, ◌*◌, ◌/◌, ◌%◌, ◌<◌}
use native.Mathlib.Omega.{arith}
use mathlib.Core.List.{List, ◌∷◌, ◌++◌}
use Rattle.std.proofs.Math.ListN.{length-append}
use Rattle.std.proofs.Math.Seq.{drop_at}
use Rattle.rules.specs.Choice.{choose}
use Rattle.rules.specs.RefusalLaws.{and_both}
use Rattle.node.specs.Node.{node_hash, node_hash_clear}
use Rattle.merkle.specs.NodeSource.{NodeSource, IsTree}
use Rattle.stray.specs.StrayBits.{clear_node, clear_nodes, no_stray_bits}
use Rattle.stray.specs.StrayBitsLaws.{clear_node_lem}
use Rattle.paths.specs.Start.{PathStart, path_start, InTree}
use Rattle.paths.specs.StartLaws.{above, sibling_in}
use Rattle.paths.specs.Path.{pair_of, path_root, root_from}
use Rattle.paths.specs.Strings.{path_strings, strings_from}
use Rattle.paths.specs.Chain.{sides_from, Chain}
use Rattle.paths.specs.PathLaws.{path_chain, SamePath, same_strings}
use Rattle.paths.specs.NodesSized.{NodesSized}
use Rattle.paths.specs.Siblings.{sibling_of, siblings, pair_at, node_pairs, node_from, siblings_from, pairs_from}

-- a node and its sibling, in order
pub pair_here : (nodes : NodeSource) (i q : ℕ)
    → pair_of q (nodes i q) (nodes i (sibling_of q)) ≡ pair_at nodes i q
unfolding pair_of
pair_here nodes i q = go (q % 2) refl
  where
    go : (b : ℕ) → q % 2 ≡ b
        → choose (eqb (q % 2) 0) (nodes i q ++ nodes i (sibling_of q)) (nodes i (sibling_of q) ++ nodes i q)
        ≡ pair_at nodes i q
    go zero z =
        let a : q ≡ q / 2 * 2 = omega arith in
        let b : sibling_of q ≡ q / 2 * 2 + 1 = omega arith in
        simp (eq-eqb (q % 2) 0 z) (ap₂ (λ (m n : ℕ). nodes i m ++ nodes i n) a b)
    go (suc k) z =
        let a : q ≡ q / 2 * 2 + 1 = omega arith in
        let b : sibling_of q ≡ q / 2 * 2 = omega arith in
        simp (ne_eqb (q % 2) 0 (λ e. omega arith)) (ap₂ (λ (m n : ℕ). nodes i m ++ nodes i n) b a)

-- there is a pair for each level, above what stands below
length_pairs : (nodes : NodeSource) (n i q : ℕ) (ws : List (List ℕ))
    → length (node_pairs nodes n i q ws) ≡ n + length ws
unfolding node_pairs
length_pairs nodes zero i q ws = omega arith
length_pairs nodes (suc n) i q ws =
    length_pairs nodes n (suc i) (q / 2) (pair_at nodes i q ∷ ws) ∙ omega arith

pub pairs_length : (nodes : NodeSource) (start : PathStart) (ws : List (List ℕ))
    → length (pairs_from nodes start ws) ≡ start.levels + length ws
pairs_length nodes start = length_pairs nodes start.levels start.level start.position

module _ (nodes : NodeSource) (top : ℕ) (t : NodesSized nodes top) where
  sibling_length : (n i q : ℕ) → InTree top (path_start (suc n) i q) → length (nodes i (sibling_of q)) ≡ 32
  sibling_length n i q w = t.sized (path_start (suc n) i (sibling_of q)) (sibling_in w)

  -- a path has 32 bytes for each level
  length_up : (n i q : ℕ) → InTree top (path_start n i q) → length (siblings nodes n i q) ≡ 32 * n
  unfolding siblings
  length_up zero i q w = refl
  length_up (suc n) i q w =
      let a = sibling_length n i q w in
      let r = length_up n (suc i) (q / 2) (above w) in
      length-append (nodes i (sibling_of q)) (siblings nodes n (suc i) (q / 2)) ∙ omega arith

  pub path_length : (start : PathStart) → InTree top start → length (siblings_from nodes start) ≡ 32 * start.levels
  path_length start = length_up start.levels start.level start.position

  -- one step along the source's own path
  pub step : (n i q : ℕ) → InTree top (path_start (suc n) i q)
      → pair_of q (nodes i q) (take 32 (siblings nodes (suc n) i q)) ≡ pair_at nodes i q
  unfolding siblings
  step n i q w =
      let a = nodes i (sibling_of q) in
      ap (pair_of q (nodes i q)) (take_at a (siblings nodes n (suc i) (q / 2)) 32 (sibling_length n i q w))
      ∙ pair_here nodes i q

  pub rest : (n i q : ℕ) → InTree top (path_start (suc n) i q)
      → drop 32 (siblings nodes (suc n) i q) ≡ siblings nodes n (suc i) (q / 2)
  unfolding siblings
  rest n i q w = drop_at (nodes i (sibling_of q)) (siblings nodes n (suc i) (q / 2)) 32 (sibling_length n i q w)

-- the nodes of a tree have 32 bytes each
pub tree_sized_lem : (nodes : NodeSource) (run : List ℕ) (top : ℕ) → IsTree nodes run top → NodesSized nodes top
tree_sized_lem nodes run top t =
    record { sized = λ start w. t.sized start.levels start.level start.position w.up w.among }

module _ (nodes : NodeSource) (run : List ℕ) (top : ℕ) (t : IsTree nodes run top) where
  abbrev each : NodesSized nodes top
  each = tree_sized_lem nodes run top t

  -- above the lowest level a sibling is a node hash, so that it has no stray bits
  sibling_clear : (n i q : ℕ) → InTree top (path_start (suc n) (suc i) q)
      → clear_node (nodes (suc i) (sibling_of q)) ≡ true
  sibling_clear n i q w =
      let s = sibling_of q in
      clear_node_lem (nodes (suc i) s)
      (subst (λ (x : List ℕ). get_or x 31 0 < 64) (sym (t.split (suc n) i s w.up (sibling_in w).among))
      (node_hash_clear (nodes i (s * 2) ++ nodes i (s * 2 + 1))))

  clear_up : (n i q : ℕ) → InTree top (path_start n (suc i) q) → clear_nodes n (siblings nodes n (suc i) q) ≡ true
  unfolding siblings clear_nodes
  clear_up zero i q w = refl
  clear_up (suc n) i q w =
      let a = nodes (suc i) (sibling_of q) in
      let r = siblings nodes n (suc (suc i)) (q / 2) in
      let l = sibling_length nodes top each n (suc i) q w in
      and_both (clear_node (take 32 (a ++ r))) (clear_nodes n (drop 32 (a ++ r)))
      (ap clear_node (take_at a r 32 l) ∙ sibling_clear n i q w)
      (ap (clear_nodes n) (drop_at a r 32 l) ∙ clear_up n (suc i) (q / 2) (above w))

  path_clear_at : (n i q : ℕ) → 0 < i → InTree top (path_start n i q) → no_stray_bits (siblings nodes n i q) ≡ true
  path_clear_at n zero q h w = absurd (omega arith)
  path_clear_at n (suc i) q h w =
      let l = length_up nodes top each n (suc i) q w in
      let k : length (siblings nodes n (suc i) q) / 32 ≡ n = omega arith in
      ap (λ (m : ℕ). clear_nodes m (siblings nodes n (suc i) q)) k ∙ clear_up n i q w

  pub path_clear : (start : PathStart) → 0 < start.level → InTree top start
      → no_stray_bits (siblings_from nodes start) ≡ true
  path_clear start = path_clear_at start.levels start.level start.position

  up_one : (n i q : ℕ) → InTree top (path_start (suc n) i q)
      → node_hash (pair_of q (nodes i q) (take 32 (siblings nodes (suc n) i q))) ≡ nodes (suc i) (q / 2)
  up_one n i q w = ap node_hash (step nodes top each n i q w) ∙ sym (t.split n i (q / 2) (above w).up (above w).among)

  leads_up : (n i q : ℕ) → InTree top (path_start n i q)
      → path_root n (nodes i q) q (siblings nodes n i q) ≡ nodes top 0
  unfolding path_root
  leads_up zero i q w =
      let e : i + 0 ≡ top = w.up in
      let h : q < 1 = w.among in
      ap₂ nodes (omega arith) (omega arith)
  leads_up (suc n) i q w =
      ap₂ (λ (x p : List ℕ). path_root n x (q / 2) p) (up_one n i q w) (rest nodes top each n i q w)
      ∙ leads_up n (suc i) (q / 2) (above w)

  strings_up : (n i q : ℕ) (ws : List (List ℕ)) → InTree top (path_start n i q)
      → path_strings n (nodes i q) q (siblings nodes n i q) ws ≡ node_pairs nodes n i q ws
  unfolding path_strings node_pairs
  strings_up zero i q ws w = refl
  strings_up (suc n) i q ws w =
      (λ j. path_strings n (up_one n i q w j) (q / 2) (rest nodes top each n i q w j)
      (step nodes top each n i q w j ∷ ws))
      ∙ strings_up n (suc i) (q / 2) (pair_at nodes i q ∷ ws) (above w)

  module _ (start : PathStart) (w : InTree top start) where
    node_length : length (node_from nodes start) ≡ 32
    node_length = each.sized start w

    -- the source's own path leads to its top node
    pub own_leads : root_from start (node_from nodes start) (siblings_from nodes start) ≡ nodes top 0
    own_leads = leads_up start.levels start.level start.position w

    -- its strings are the source's own pairs
    pub own_strings : (ws : List (List ℕ))
        → strings_from start (node_from nodes start) (siblings_from nodes start) ws ≡ pairs_from nodes start ws
    own_strings ws = strings_up start.levels start.level start.position ws w

    -- the pairs are a chain from the top node
    pub own_chain : (bs : List Bool) (ws : List (List ℕ)) → Chain (node_from nodes start) bs ws
        → Chain (nodes top 0) (sides_from start bs) (pairs_from nodes start ws)
    own_chain bs ws h =
        subst (Chain (nodes top 0) (sides_from start bs)) (own_strings ws)
        (path_chain start (node_from nodes start) (siblings_from nodes start) bs ws node_length
        (path_length nodes top each start w) own_leads h)

    -- a path whose strings are the pairs is the source's own
    pub own_path : (x s : List ℕ) (vs ws : List (List ℕ)) → length x ≡ 32 → length s ≡ 32 * start.levels
        → strings_from start x s vs ≡ pairs_from nodes start ws
        → SamePath start.levels x (node_from nodes start) s (siblings_from nodes start) vs ws
    own_path x s vs ws hx hs e =
        same_strings start x (node_from nodes start) s (siblings_from nodes start) vs ws hx node_length hs
        (path_length nodes top each start w) (e ∙ sym (own_strings ws))
