-- Paths and their strings: the strings form a chain, and tell the siblings.
use Rattle.std.specs.Prelude.{◌≡◌, refl, Bool, true, false, ℕ, zero, suc, ◌+◌, ◌*◌, ◌/◌, ◌%◌, ◌<◌, List, [], ◌∷◌, ◌++◌}
use Rattle.std.specs.Prelude.{eqb, length, take, drop}
use Rattle.std.proofs.Common.{sym, ap, ap₂, ◌∙◌, subst, arith, length-drop, length-append, take-append-drop, take_at}
use Rattle.std.proofs.Common.{drop_at, drop-drop, length-take-le}
use Rattle.rules.specs.Choice.{choose}
use Rattle.node.specs.Node.{node_hash, node_hash_length}
use Rattle.paths.specs.Start.{PathStart}
use Rattle.paths.specs.Path.{pair_of, path_root, root_from}
use Rattle.paths.specs.Strings.{path_strings, strings_from}
use Rattle.paths.specs.Chain.{sides, sides_from, half, Chain}

-- a path with one more sibling passed
pub drop_sibling : (i : ℕ) (path : List ℕ) → drop 32 (drop (i * 32) path) ≡ drop ((i + 1) * 32) path
drop_sibling i path =
    let e : i * 32 + 32 ≡ (i + 1) * 32 = omega arith in
    drop-drop 32 (i * 32) path ∙ ap (λ (k : ℕ). drop k path) e

module _ (x s : List ℕ) (hx : length x ≡ 32) (hs : length s ≡ 32) where
  half_choose : (b : Bool) → half b (choose b (x ++ s) (s ++ x)) ≡ x
  half_choose true = take_at x s 32 hx
  half_choose false = drop_at s x 32 hs

  other_choose : (b : Bool)
      → choose b (drop 32 (choose b (x ++ s) (s ++ x))) (take 32 (choose b (x ++ s) (s ++ x))) ≡ s
  other_choose true = drop_at x s 32 hx
  other_choose false = take_at s x 32 hs

  length_choose : (b : Bool) → length (choose b (x ++ s) (s ++ x)) ≡ 64
  length_choose true = simp length-append (omega arith)
  length_choose false = simp length-append (omega arith)

  pair_half : (p : ℕ) → half (eqb (p % 2) 0) (pair_of p x s) ≡ x
  unfolding pair_of
  pair_half p = half_choose (eqb (p % 2) 0)

  pair_other : (p : ℕ) → choose (eqb (p % 2) 0) (drop 32 (pair_of p x s)) (take 32 (pair_of p x s)) ≡ s
  unfolding pair_of
  pair_other p = other_choose (eqb (p % 2) 0)

  pair_length : (p : ℕ) → length (pair_of p x s) ≡ 64
  unfolding pair_of
  pair_length p = length_choose (eqb (p % 2) 0)

-- a path's strings are a chain from the node that it leads to, onto what stands below
strings_chain : (n p : ℕ) (x s : List ℕ) (bs : List Bool) (ws : List (List ℕ)) → length x ≡ 32 → length s ≡ 32 * n
    → Chain x bs ws → Chain (path_root n x p s) (sides n p bs) (path_strings n x p s ws)
unfolding path_root path_strings sides
strings_chain zero p x s bs ws hx hs h = h
strings_chain (suc n) p x s bs ws hx hs h =
    let t : length (take 32 s) ≡ 32 = length-take-le 32 s (omega arith) in
    let v : List ℕ = pair_of p x (take 32 s) in
    strings_chain n (p / 2) (node_hash v) (drop 32 s) (eqb (p % 2) 0 ∷ bs) (v ∷ ws) (node_hash_length v)
    (simp length-drop (omega arith)) (
      pair_length x (take 32 s) hx t p,
      refl,
      subst (λ (z : List ℕ). Chain z bs ws) (sym (pair_half x (take 32 s) hx t p)) h,
    )

pub path_chain : (start : PathStart) {c : List ℕ} (x s : List ℕ) (bs : List Bool) (ws : List (List ℕ))
    → length x ≡ 32 → length s ≡ 32 * start.levels → root_from start x s ≡ c → Chain x bs ws
    → Chain c (sides_from start bs) (strings_from start x s ws)
path_chain start x s bs ws hx hs e h =
    subst (λ (z : List ℕ). Chain z (sides_from start bs) (strings_from start x s ws)) e
    (strings_chain start.levels start.position x s bs ws hx hs h)

-- the number of strings
length_strings : (n p : ℕ) (x s : List ℕ) (ws : List (List ℕ)) → length (path_strings n x p s ws) ≡ n + length ws
unfolding path_strings
length_strings zero p x s ws = omega arith
length_strings (suc n) p x s ws = length_strings n _ _ _ _ ∙ omega arith

pub strings_length : (start : PathStart) (x s : List ℕ) (ws : List (List ℕ))
    → length (strings_from start x s ws) ≡ start.levels + length ws
strings_length start x s ws = length_strings start.levels start.position x s ws

-- what two paths with the same strings have in common: the siblings, what stands below, and, where there is a level,
-- the node
pub record SamePath (levels : ℕ) (x y s t : List ℕ) (vs ws : List (List ℕ)) : Type 0 where
  pub same_siblings : s ≡ t
  pub same_below : vs ≡ ws
  pub same_node : 0 < levels → x ≡ y

cut : (s t : List ℕ) → take 32 s ≡ take 32 t → drop 32 s ≡ drop 32 t → s ≡ t
cut s t h k = sym (take-append-drop 32 s) ∙ ap₂ ◌++◌ h k ∙ take-append-drop 32 t

strings_tell : (n p : ℕ) (x y s t : List ℕ) (vs ws : List (List ℕ)) → length x ≡ 32 → length y ≡ 32
    → length s ≡ 32 * n → length t ≡ 32 * n → path_strings n x p s vs ≡ path_strings n y p t ws
    → SamePath n x y s t vs ws
unfolding path_strings
strings_tell zero p x y [] [] vs ws hx hy hs ht e =
    record { same_siblings = refl; same_below = e; same_node = λ h. absurd (omega arith) }
strings_tell zero p x y [] (b ∷ t) vs ws hx hy hs ht e = absurd (omega arith)
strings_tell zero p x y (a ∷ s) t vs ws hx hy hs ht e = absurd (omega arith)
strings_tell (suc n) p x y s t vs ws hx hy hs ht e =
    let a : length (take 32 s) ≡ 32 = length-take-le 32 s (omega arith) in
    let b : length (take 32 t) ≡ 32 = length-take-le 32 t (omega arith) in
    let v = pair_of p x (take 32 s) in
    let w = pair_of p y (take 32 t) in
    let r = strings_tell n (p / 2) (node_hash v) (node_hash w) (drop 32 s) (drop 32 t) (v ∷ vs) (w ∷ ws)
    (node_hash_length v) (node_hash_length w) (simp length-drop (omega arith)) (simp length-drop (omega arith)) e in
    let q : v ∷ vs ≡ w ∷ ws = r.same_below in
    let i : v ≡ w = cc in
    let j : vs ≡ ws = cc in
    let other : List ℕ → List ℕ = λ z. choose (eqb (p % 2) 0) (drop 32 z) (take 32 z) in
    let k : take 32 s ≡ take 32 t =
    sym (pair_other x (take 32 s) hx a p) ∙ ap other i ∙ pair_other y (take 32 t) hy b p in
    record {
      same_siblings = cut s t k r.same_siblings;
      same_below = j;
      same_node = λ h.
          sym (pair_half x (take 32 s) hx a p) ∙ ap (half (eqb (p % 2) 0)) i ∙ pair_half y (take 32 t) hy b p;
    }

pub same_strings : (start : PathStart) (x y s t : List ℕ) (vs ws : List (List ℕ)) → length x ≡ 32 → length y ≡ 32
    → length s ≡ 32 * start.levels → length t ≡ 32 * start.levels
    → strings_from start x s vs ≡ strings_from start y t ws → SamePath start.levels x y s t vs ws
same_strings start = strings_tell start.levels start.position
