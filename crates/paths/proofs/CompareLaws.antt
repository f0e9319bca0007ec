-- Comparing from the bottom up gives the first difference from the top.
use Rattle.std.specs.Prelude.{◌≡◌, refl, Bool, true, false, ℕ, zero, suc, ◌*◌, ◌/◌, List, [], ◌∷◌, length, take, drop}
use Rattle.std.proofs.Common.{sym, ap, ap₂, ◌∙◌, true≢false, arith}
use Rattle.rules.specs.Choice.{choose}
use Rattle.octets.specs.Equality.{same_bytes}
use Rattle.octets.specs.EqualityLaws.{same_true}
use Rattle.node.specs.Node.{node_hash}
use Rattle.paths.specs.Start.{PathStart}
use Rattle.paths.specs.Path.{pair_of}
use Rattle.paths.specs.Strings.{path_strings, strings_from}
use Rattle.paths.specs.Difference.{Difference, differ, first_difference}
use Rattle.paths.specs.Compare.{compared, unequal, compared_above, compared_up, paths_compared}

choose_compared : (b : Bool) (d : Difference) (v w : List ℕ)
    → compared (choose b d (differ v w)) ≡ choose b (compared d) (unequal v w)
choose_compared true d v w = refl
choose_compared false d v w = refl

-- one more string on each side
pub compared_more : (v w : List ℕ) (vs ws : List (List ℕ))
    → compared (first_difference (v ∷ vs) (w ∷ ws)) ≡ compared_above (compared (first_difference vs ws)) v w
unfolding first_difference
compared_more v w vs ws = choose_compared (same_bytes v w) (first_difference vs ws) v w

compared_up_lem : (n p : ℕ) (x s y t : List ℕ) (vs ws : List (List ℕ))
    → compared (first_difference (path_strings n x p s vs) (path_strings n y p t ws))
    ≡ compared_up n p x s y t (compared (first_difference vs ws))
unfolding path_strings compared_up
compared_up_lem zero p x s y t vs ws = refl
compared_up_lem (suc n) p x s y t vs ws =
    let v = pair_of p x (take 32 s) in
    let w = pair_of p y (take 32 t) in
    compared_up_lem n (p / 2) (node_hash v) (drop 32 s) (node_hash w) (drop 32 t) (v ∷ vs) (w ∷ ws)
    ∙ ap (compared_up n (p / 2) (node_hash v) (drop 32 s) (node_hash w) (drop 32 t)) (compared_more v w vs ws)

module _ (x s : List ℕ) (vs : List (List ℕ)) (y t : List ℕ) (ws : List (List ℕ)) where
  -- paths of one length
  pub paths_up : (p : ℕ) → length s ≡ length t
      → compared_up (length s / 32) p x s y t (compared (first_difference vs ws)) ≡ paths_compared p x s vs y t ws
  paths_up p l =
      let vs' = path_strings (length s / 32) x p s vs in
      sym (compared_up_lem (length s / 32) p x s y t vs ws)
      ∙ ap (λ (n : ℕ). compared (first_difference vs' (path_strings (n / 32) y p t ws))) l

  -- paths from one start
  pub paths_compared_lem : (start : PathStart) → length s ≡ 32 * start.levels → length t ≡ 32 * start.levels
      → paths_compared start.position x s vs y t ws
      ≡ compared (first_difference (strings_from start x s vs) (strings_from start y t ws))
  paths_compared_lem start ls lt =
      let p = start.position in
      let m : length s / 32 ≡ start.levels = omega arith in
      let n : length t / 32 ≡ start.levels = omega arith in
      ap₂ (λ (i j : ℕ). compared (first_difference (path_strings i x p s vs) (path_strings j y p t ws))) m n

-- no difference in two lists of one length: they are the same
pub no_difference_same : (vs ws : List (List ℕ)) → length vs ≡ length ws
    → (compared (first_difference vs ws)).differs ≡ false → vs ≡ ws
unfolding first_difference
no_difference_same [] [] l e = refl
no_difference_same [] (w ∷ ws) l e = absurd (omega arith)
no_difference_same (v ∷ vs) [] l e = absurd (omega arith)
no_difference_same (v ∷ vs) (w ∷ ws) l e = go (no_difference_same vs ws (omega arith)) (same_bytes v w) refl e
  where
    go : ((compared (first_difference vs ws)).differs ≡ false → vs ≡ ws) → (b : Bool) → same_bytes v w ≡ b
        → (compared (choose b (first_difference vs ws) (differ v w))).differs ≡ false → v ∷ vs ≡ w ∷ ws
    go rest true q f = ap₂ ◌∷◌ (same_true v w q) (rest f)
    go rest false q f = absurd (true≢false f)
