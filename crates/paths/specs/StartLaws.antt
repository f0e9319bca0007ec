-- Along a Merkle path: the sibling and the node above are nodes of the tree too.
use Rattle.std.specs.Prelude.{◌≡◌, ℕ, suc, ◌+◌, ◌-◌, ◌*◌, ◌/◌, ◌^◌, ◌<◌}
use Rattle.std.proofs.Common.{ap, ◌∙◌, pow-suc, arith}
use Rattle.std.proofs.Math.Nat.{sub-zero}
use Rattle.paths.specs.Start.{path_start, InTree}
use Rattle.paths.specs.Siblings.{sibling_of}

-- one level up
pub above : {top n i q : ℕ} → InTree top (path_start (suc n) i q) → InTree top (path_start n (suc i) (q / 2))
above {top} {n} {i} {q} w =
    let e : i + suc n ≡ top = w.up in
    let h : q < 2 ^ suc n = w.among in
    let p = pow-suc 2 n in
    record { up = omega arith; among = omega arith }

-- another node of the pair: m is q or its sibling
pub beside : {top n i q : ℕ} (m : ℕ) → m / 2 ≡ q / 2 → InTree top (path_start (suc n) i q)
    → InTree top (path_start (suc n) i m)
beside {top} {n} {i} {q} m same w =
    let h : q < 2 ^ suc n = w.among in
    let p = pow-suc 2 n in
    record { up = w.up; among = omega arith }

pub sibling_in : {top n i q : ℕ} → InTree top (path_start (suc n) i q)
    → InTree top (path_start (suc n) i (sibling_of q))
sibling_in {top} {n} {i} {q} w = beside (sibling_of q) (omega arith) w

-- the turns of a loop up along a path: i of n levels are passed
pub turn_start : {top : ℕ} (n level q : ℕ) → InTree top (path_start n level q)
    → InTree top (path_start (n - 0) (level + 0) q)
turn_start {top} n level q w =
    let e : level + n ≡ top = w.up in
    let g : q < 2 ^ n = w.among in
    record { up = omega arith; among = simp sub-zero g }

module _ {top : ℕ} (n level i q : ℕ) (h : i < n) (w : InTree top (path_start (n - i) (level + i) q)) where
  pairs : 2 ^ (n - i) ≡ 2 ^ (n - (i + 1)) * 2
  pairs =
      let e : n - i ≡ suc (n - (i + 1)) = omega arith in
      ap (λ (k : ℕ). 2 ^ k) e ∙ pow-suc 2 (n - (i + 1))

  pub turn_above : InTree top (path_start (n - (i + 1)) (level + (i + 1)) (q / 2))
  turn_above =
      let e : level + i + (n - i) ≡ top = w.up in
      let g : q < 2 ^ (n - i) = w.among in
      let p = pairs in
      record { up = omega arith; among = omega arith }

  pub turn_sibling : InTree top (path_start (n - i) (level + i) (sibling_of q))
  turn_sibling =
      let g : q < 2 ^ (n - i) = w.among in
      let p = pairs in
      record { up = w.up; among = omega arith }
