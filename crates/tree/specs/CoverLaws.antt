-- The places of the inner nodes are all of the buffer's D - 32 bytes.
use Rattle.std.specs.Prelude.{◌≡◌, refl, Bool, true, false, ℕ, zero, suc, ◌+◌, ◌-◌, ◌*◌, ◌/◌, ◌^◌, ◌≤◌, ◌<◌, ltb}
use Rattle.std.proofs.Common.{ap, ◌∙◌, pow-suc, arith, ltb-true, ltb-false}
use Rattle.tree.specs.Place.{NodeInTree, node_place}
use Rattle.tree.specs.PlaceLaws.{place_is}

-- the node that byte j is of
pub record NodeOver (D j : ℕ) : Type 0 where
  pub height : ℕ
  pub position : ℕ
  pub inner : 0 < height
  pub known : NodeInTree D height position
  pub starts : node_place D height position ≤ j
  pub ends : j < node_place D height position + 32

module _ (D top j : ℕ) (sized : D ≡ 32 * 2 ^ top) (within : j + 32 < D) where
  -- the height with n levels above it has byte j
  here : (n : ℕ) → n < top → D ≤ j + 64 * 2 ^ n → j + 32 * 2 ^ n < D → NodeOver D j
  here n l low high =
      let e : D ≡ 32 * 2 ^ (top - n + n) = sized ∙ ap (λ (m : ℕ). 32 * 2 ^ m) (omega arith) in
      let p = place_is D (top - n) ((j + 64 * 2 ^ n - D) / 32) n (omega arith) e in
      record {
        height = top - n;
        position = (j + 64 * 2 ^ n - D) / 32;
        inner = omega arith;
        known = record { levels = n; sized = e; inside = omega arith };
        starts = omega arith;
        ends = omega arith;
      }

  search_down : (n : ℕ) → n ≤ top → D ≤ j + 32 * 2 ^ n → NodeOver D j
  search_down zero l h = absurd (omega arith)
  search_down (suc n) l h = by_height (λ low. search_down n (omega arith) low) (ltb (j + 32 * 2 ^ n) D) refl
    where
      by_height : (D ≤ j + 32 * 2 ^ n → NodeOver D j) → (b : Bool) → ltb (j + 32 * 2 ^ n) D ≡ b → NodeOver D j
      by_height lower true g = here n (omega arith) (omega (arith, pow-suc 2 n)) (ltb-true (j + 32 * 2 ^ n) D g)
      by_height lower false g = lower (ltb-false (j + 32 * 2 ^ n) D g)

  pub node_over_lem : NodeOver D j
  node_over_lem = search_down top (omega arith) (omega arith)
