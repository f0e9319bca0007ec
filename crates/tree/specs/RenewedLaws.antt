-- The buffer brought up to date: every node above the bytes written is worked out from its children as they then stand,
-- each other node stands as it did.
use Rattle.std.specs.Prelude.{◌≡◌, Bool, true, false, eqb}
use Rattle.std.proofs.Math.Path.{refl, ap}
use Rattle.std.proofs.Common.{sym, subst, ◌∙◌, mul_assoc, mul_comm, div-lt_iff_lt-mul, arith, pow-add, eqb-true}
use Prim.Native.Nat.{ℕ, zero, suc, ◌+◌, ◌-◌, ◌*◌, ◌/◌, ◌^◌, ◌≤◌, ◌<◌}
use mathlib.Core.List.{List}
use Rattle.std.proofs.Math.ListN.{length}
use Rattle.std.proofs.lemmas.Bool.{eqb-false}
use Rattle.node.specs.Node.{node_hash}
use Rattle.tree.specs.Place.{RowInTree, NodeInTree}
use Rattle.tree.specs.PlaceLaws.{below_top}
use Rattle.tree.specs.TreeNodes.{tree_nodes, children}
use Rattle.tree.specs.Renewed.{renewed_row, first_above, count_above}
use Rattle.tree.specs.Renewed.{renewed_up, renewed, above, RenewedBy}
use Rattle.tree.specs.RenewedNodeLaws.{same_children, row_sized, row_stays, row_anew}
use Rattle.tree.specs.AboveLaws.{span_pos, above_row, not_above}

module _ (bytes : List ℕ) (from len : ℕ) (some : 0 < len) (written : from + len ≤ length bytes) where
  -- the nodes of a height that are above the bytes written
  pub level_row : (h m : ℕ) → length bytes ≡ 32 * 2 ^ (h + m)
      → RowInTree (length bytes) h (first_above from h) (count_above from len h)
  level_row h m e =
      let s : ℕ = 32 * 2 ^ h in
      let d : 2 ^ m * s ≡ length bytes =
      mul_comm (2 ^ m) s ∙ mul_assoc 32 (2 ^ h) (2 ^ m) ∙ ap (λ (n : ℕ). 32 * n) (sym (pow-add 2 h m)) ∙ sym e in
      let a : from / s < 2 ^ m = (div-lt_iff_lt-mul (span_pos h)).1 (omega arith) in
      let b : (from + len - 1) / s < 2 ^ m = (div-lt_iff_lt-mul (span_pos h)).1 (omega arith) in
      record { levels = m; sized = e; inside = omega arith }

  module _ (h n : ℕ) (e : length bytes ≡ 32 * 2 ^ (h + suc n)) (tree : List ℕ)
      (s : length tree + 32 ≡ length bytes) where
    -- the buffer after one height
    abbrev step : List ℕ
    step = renewed_row bytes tree h (first_above from (suc h)) (count_above from len (suc h))

    left : length bytes ≡ 32 * 2 ^ (suc h + n)
    left = e ∙ ap (λ (m : ℕ). 32 * 2 ^ m) (omega arith)

    step_sized : length step ≡ length tree
    step_sized = row_sized bytes h (count_above from len (suc h)) (first_above from (suc h)) tree s
        (level_row (suc h) n left)

    step_stays : (k r : ℕ) → NodeInTree (length bytes) k r → (k ≡ suc h → above from len k r ≡ false)
        → tree_nodes bytes step k r ≡ tree_nodes bytes tree k r
    step_stays k r t f =
        row_stays bytes h (count_above from len (suc h)) (first_above from (suc h)) tree s
        (level_row (suc h) n left) k r t
        (λ a l g. not_above from len (suc h) r some (ap (λ (i : ℕ). above from len i r) (sym a) ∙ f a) l g)

    step_anew : (r : ℕ) → NodeInTree (length bytes) (suc h) r → above from len (suc h) r ≡ true
        → tree_nodes bytes step (suc h) r ≡ node_hash (children bytes tree h r)
    step_anew r t a =
        let k = above_row from len (suc h) r a in
        row_anew bytes h (count_above from len (suc h)) (first_above from (suc h)) tree s (level_row (suc h) n left) r t
        k.0 k.1

  pub up_sized : (n h : ℕ) (tree : List ℕ) → length bytes ≡ 32 * 2 ^ (h + n) → length tree + 32 ≡ length bytes
      → length (renewed_up bytes tree from len h n) ≡ length tree
  unfolding renewed_up
  up_sized zero h tree e s = refl
  up_sized (suc n) h tree e s =
      let k = step_sized h n e tree s in
      up_sized n (suc h) (step h n e tree s) (left h n e tree s) (omega arith) ∙ k

  -- a node up to the height where it starts, and any node not above the bytes written, stays
  pub up_stays : (n h : ℕ) (tree : List ℕ) → length bytes ≡ 32 * 2 ^ (h + n) → length tree + 32 ≡ length bytes
      → (k r : ℕ) → NodeInTree (length bytes) k r → (h < k → above from len k r ≡ false)
      → tree_nodes bytes (renewed_up bytes tree from len h n) k r ≡ tree_nodes bytes tree k r
  unfolding renewed_up
  up_stays zero h tree e s k r t f = refl
  up_stays (suc n) h tree e s k r t f =
      let i = step_sized h n e tree s in
      up_stays n (suc h) (step h n e tree s) (left h n e tree s) (omega arith) k r t (λ l. f (omega arith))
      ∙ step_stays h n e tree s k r t (λ l. f (omega arith))

  -- each other is worked out from its children as they then stand
  pub up_anew : (n h : ℕ) (tree : List ℕ) → length bytes ≡ 32 * 2 ^ (h + n) → length tree + 32 ≡ length bytes
      → (k r : ℕ) → NodeInTree (length bytes) (suc k) r → h ≤ k → k < h + n → above from len (suc k) r ≡ true
      → tree_nodes bytes (renewed_up bytes tree from len h n) (suc k) r ≡ node_hash
      (children bytes (renewed_up bytes tree from len h n) k r)
  unfolding renewed_up
  up_anew zero h tree e s k r t l g a = absurd (omega arith)
  up_anew (suc n) h tree e s k r t l g a =
      let i = step_sized h n e tree s in
      by_height (λ after. up_anew n (suc h) (step h n e tree s) (left h n e tree s) (omega arith) k r t after
      (omega arith) a) (eqb h k) refl
    where
      new : List ℕ
      new = renewed_up bytes (step h n e tree s) from len (suc h) n

      kept : (j p : ℕ) → NodeInTree (length bytes) j p → j ≤ suc h
          → tree_nodes bytes new j p ≡ tree_nodes bytes (step h n e tree s) j p
      kept j p u b =
          let i = step_sized h n e tree s in
          up_stays n (suc h) (step h n e tree s) (left h n e tree s) (omega arith) j p u (λ c. absurd (omega arith))

      at_height : (p : ℕ) → NodeInTree (length bytes) (suc h) p → above from len (suc h) p ≡ true
          → tree_nodes bytes new (suc h) p ≡ node_hash (children bytes new h p)
      at_height p u b =
          kept (suc h) p u (omega arith)
          ∙ step_anew h n e tree s p u b
          ∙ ap node_hash (same_children bytes tree new h p u
          (λ o w. sym (kept h o w (omega arith) ∙ step_stays h n e tree s h o w (λ c. absurd (omega arith)))))

      by_height : (suc h ≤ k → tree_nodes bytes new (suc k) r ≡ node_hash (children bytes new k r)) → (b : Bool)
          → eqb h k ≡ b
          → tree_nodes bytes new (suc k) r ≡ node_hash (children bytes new k r)
      by_height later false z = let ne = eqb-false h k z in later (omega arith)
      by_height later true z =
          subst (λ (i : ℕ). NodeInTree (length bytes) (suc i) r → above from len (suc i) r ≡ true
          → tree_nodes bytes new (suc i) r ≡ node_hash (children bytes new i r))
          (eqb-true h k z) (at_height r) t a

  pub renewed_by : (top : ℕ) (tree : List ℕ) → length bytes ≡ 32 * 2 ^ top → length tree + 32 ≡ length bytes
      → RenewedBy (above from len) bytes tree (renewed top bytes tree from len)
  unfolding renewed
  renewed_by top tree e s =
      let d : length bytes ≡ 32 * 2 ^ (0 + top) = e ∙ ap (λ (m : ℕ). 32 * 2 ^ m) (omega arith) in
      record {
        sized = up_sized top 0 tree d s;
        anew = λ h q t a. let k = below_top (length bytes) top (suc h) q 1 t e in up_anew top 0 tree d s h q t
            (omega arith) (omega arith) a;
        stays = λ h q t a. up_stays top 0 tree d s (suc h) q t (λ l. a);
      }
