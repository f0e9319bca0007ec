-- The path of a part's last node: over the halves of the part, over nodes in many lanes, and over equal parts of it.
use mathlib.Core.Path.{◌≡◌, refl, sym, ap, ap₂, ◌∙◌}
use mathlib.Core.List.{List, ◌++◌, append_assoc, append-nil}
use Prim.Native.Nat.{ℕ, zero, suc, ◌+◌, ◌-◌, ◌*◌, ◌/◌, ◌^◌, ◌≤◌, ◌<◌}
use native.Mathlib.Nat.{pow-suc}
use native.Mathlib.Omega.{arith}
use lib.ListN.{length}
use lib.Pow.{pow_pos, pow_mono}
use Rattle.octets.specs.Splice.{part, splice}
use Rattle.octets.specs.SpliceLaws.{part_length, splice_nothing, splice_append}
use Rattle.node.specs.Node.{node_hash}
use Rattle.merkle.specs.Tree.{commitment_of, pairs_of, node_over}
use Rattle.merkle.specs.TreeLaws.{double, halves}
use Rattle.merkle.specs.LastPath.{last_path, path_over}
use Rattle.merkle.specs.LastPathLaws.{last_path_length, path_halves}
use Rattle.merkle.proofs.Cuts.{below, half_sized, two_halves}
use Rattle.merkle.proofs.Parts.{first_start, second_start}

-- one node has none
pub path_of_one : (path run : List ℕ) (h : ℕ) → h ≡ 0 → path ≡ splice path 0 (last_path h run)
unfolding last_path
path_of_one path run h e = rw e (sym (splice_nothing path 0))

-- the right half's, written first, and then the left half's commitment
pub path_of_halves : (h size : ℕ) → size ≡ 32 * 2 ^ h → (h ≡ 0 → ⊥)
    → (run path lower whole node : List ℕ) (at middle : ℕ) → at + size ≤ length run → 32 * h ≤ length path
    → middle ≡ at + size / 2
    → lower ≡ splice path 0 (last_path (h - 1) (part run middle (size / 2)))
    → node ≡ commitment_of (h - 1) (part run at (size / 2))
    → whole ≡ splice lower (32 * (h - 1)) node
    → whole ≡ splice path 0 (last_path h (part run at size))
path_of_halves h size sized tall run path lower whole node at middle fits room m low is all =
    let half : ℕ = size / 2 in
    let s : size ≡ half + half = two_halves h size sized tall in
    let right : List ℕ = part run (at + half) half in
    let l : length (last_path (h - 1) right) ≡ 32 * (h - 1) =
    last_path_length (h - 1) right
    (omega (arith, part_length run (at + half) half (omega arith), half_sized h size sized tall)) in
    all
    ∙ ap₂ (λ (v w : List ℕ). splice v (32 * (h - 1)) w)
    (low ∙ ap (λ (n : ℕ). splice path 0 (last_path (h - 1) (part run n half))) m) is
    ∙ splice_append path 0 (32 * (h - 1)) (last_path (h - 1) right) (commitment_of (h - 1) (part run at half))
    (omega arith) (omega arith)
    ∙ ap (splice path 0)
    (sym (path_halves run (h - 1) at half (half_sized h size sized tall))
    ∙ ap (λ (n : ℕ). last_path n (part run at (half + half))) (sym (below h size sized tall))
    ∙ ap (λ (n : ℕ). last_path h (part run at n)) (sym s))

-- 2 ^ levels nodes in lanes, with nodes above them
pub lanes_above : (count levels : ℕ) → count ≡ 2 ^ levels → levels ≤ 4 → (levels ≡ 0 → ⊥)
    → (2 ≤ count) × (count ≤ 16) × (count / 2 ≡ 2 ^ (levels - 1)) × (count ≡ 2 * (count / 2))
lanes_above count levels e few tall =
    let s : suc (levels - 1) ≡ levels = omega arith in
    let p : 2 ^ levels ≡ 2 ^ (levels - 1) * 2 = ap (λ (n : ℕ). 2 ^ n) (sym s) ∙ pow-suc 2 (levels - 1) in
    let q : 0 < 2 ^ (levels - 1) = pow_pos (levels - 1) in
    let r : 2 ^ (levels - 1) ≤ 2 ^ 3 = pow_mono {i = levels - 1} {j = 3} (omega arith) in
    (omega arith, omega arith, omega arith, omega arith)

-- the nodes in lanes: one, or those above them
pub over_one : (x : ℕ → List ℕ) (path : List ℕ) (levels at : ℕ) → levels ≡ 0
    → (x 0 ≡ node_over levels x) × (path ≡ splice path at (path_over levels x))
unfolding node_over path_over
over_one x path levels at e = rw e (refl, sym (splice_nothing path at))

pub over_more : (x : ℕ → List ℕ) (path lower whole node root : List ℕ) (levels height : ℕ) → (levels ≡ 0 → ⊥)
    → 32 * (height + levels) ≤ length path → length node ≡ 32
    → node ≡ x (2 ^ levels - 2)
    → lower ≡ splice path (32 * height) node
    → (root ≡ node_over (levels - 1) (pairs_of x))
    × (whole ≡ splice lower (32 * (height + 1)) (path_over (levels - 1) (pairs_of x)))
    → (root ≡ node_over levels x) × (whole ≡ splice path (32 * height) (path_over levels x))
unfolding node_over path_over
over_more x path lower whole node root levels height tall room sized is low up =
    let e : suc (levels - 1) ≡ levels = omega arith in (
      up.0 ∙ ap (λ (n : ℕ). node_over n x) e,
      up.1
          ∙ ap (λ (v : List ℕ). splice v (32 * (height + 1)) (path_over (levels - 1) (pairs_of x))) low
          ∙ splice_append path (32 * height) (32 * (height + 1)) node (path_over (levels - 1) (pairs_of x))
          (omega arith) (omega arith)
          ∙ ap (λ (v : List ℕ). splice path (32 * height) (v ++ path_over (levels - 1) (pairs_of x)))
          (is ∙ ap (λ (n : ℕ). x (2 ^ n - 2)) (sym e))
          ∙ ap (λ (n : ℕ). splice path (32 * height) (path_over n x)) e,
    )

path_ext : (k : ℕ) (x y : ℕ → List ℕ) → ((l : ℕ) → x l ≡ y l) → path_over k x ≡ path_over k y
unfolding path_over
path_ext zero x y e = refl
path_ext (suc k) x y e =
    ap₂ ◌++◌ (e (2 ^ suc k - 2))
    (path_ext k (pairs_of x) (pairs_of y) (λ l. ap₂ (λ (a b : List ℕ). node_hash (a ++ b)) (e (2 * l)) (e (2 * l + 1))))

-- the last of 2 ^ k parts, one after the other, and the nodes over all of them
pub path_of_parts : (k h height step size at : ℕ) (run : List ℕ) → step ≡ 32 * 2 ^ h → height ≡ h + k
    → size ≡ 32 * 2 ^ height
    → last_path h (part run (at + (2 ^ k - 1) * step) step)
    ++ path_over k (λ l. commitment_of h (part run (at + l * step) step)) ≡ last_path height (part run at size)
unfolding path_over
path_of_parts zero h height step size at run e eh es =
    let a : height ≡ h = omega arith in
    let b : size ≡ step = es ∙ ap (λ (n : ℕ). 32 * 2 ^ n) a ∙ sym e in
    let c : at + 0 * step ≡ at = omega arith in
    append-nil (last_path h (part run (at + 0 * step) step)) ∙ rw (a, b, c)
path_of_parts (suc k) h height step size at run e eh es =
    let n : ℕ = 2 ^ k - 1 in
    let p : 2 ^ suc k ≡ 2 ^ k * 2 = pow-suc 2 k in
    let q : 0 < 2 ^ k = pow_pos k in
    let x : ℕ → List ℕ = λ l. commitment_of h (part run (at + l * step) step) in
    let y : ℕ → List ℕ = λ l. commitment_of (suc h) (part run (at + l * (step + step)) (step + step)) in
    let first : 2 ^ suc k - 2 ≡ 2 * n = omega arith in
    let second : 2 ^ suc k - 1 ≡ 2 * n + 1 = omega arith in
    ap₂ (λ (v w : List ℕ). v ++ (w ++ path_over k (pairs_of x)))
    (ap (λ (m : ℕ). last_path h (part run (at + m * step) step)) second
    ∙ ap (λ (m : ℕ). last_path h (part run m step)) (second_start at n step))
    (ap (λ (m : ℕ). commitment_of h (part run (at + m * step) step)) first
    ∙ ap (λ (m : ℕ). commitment_of h (part run m step)) (first_start at n step))
    ∙ sym (append_assoc (last_path h (part run (at + n * (step + step) + step) step))
    (commitment_of h (part run (at + n * (step + step)) step)) (path_over k (pairs_of x)))
    ∙ ap₂ ◌++◌ (sym (path_halves run h (at + n * (step + step)) step e))
    (path_ext k (pairs_of x) y
    (λ l.
    ap₂ (λ (a b : ℕ). node_hash (commitment_of h (part run a step) ++ commitment_of h (part run b step)))
    (first_start at l step) (second_start at l step)
    ∙ sym (halves run h (at + l * (step + step)) step e)))
    ∙ path_of_parts k (suc h) height (step + step) size at run (omega (arith, double h)) (omega arith) es
