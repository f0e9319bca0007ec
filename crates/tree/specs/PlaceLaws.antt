-- The places of the inner nodes: in order, side by side, inside the buffer.
use Rattle.std.specs.Prelude.{◌≡◌, refl, Bool, true, false, ◌⊎◌, ℕ, suc, ◌+◌, ◌-◌, ◌*◌, ◌/◌, ◌^◌, ◌≤◌, ◌<◌, ltb}
use Rattle.std.proofs.Common.{sym, ap, ◌∙◌, inl, inr, pow-suc, mul_assoc, lt_of_not-le, arith, pow_pos, pow-add}
use Rattle.std.proofs.Common.{pow_mono, ltb-true, ltb-false}
use Rattle.std.proofs.Math.Nat.{div-eq_of_eq-mul_left}
use Rattle.std.proofs.Math.Pow.{pow-lt}
use Rattle.tree.specs.Place.{RowInTree, NodeInTree, node_place}

quotient : (D h n : ℕ) → 0 < h → D ≡ 32 * 2 ^ (h + n) → D / 2 ^ (h - 1) ≡ 64 * 2 ^ n
quotient D h n up e =
    let split : h + n ≡ suc n + (h - 1) = omega arith in
    let twice : 32 * 2 ^ suc n ≡ 64 * 2 ^ n = omega (arith, pow-suc 2 n) in
    div-eq_of_eq-mul_left (pow_pos (h - 1))
    (e ∙ ap (λ (m : ℕ). 32 * 2 ^ m) split ∙ ap (λ (m : ℕ). 32 * m) (pow-add 2 (suc n) (h - 1))
    ∙ sym (mul_assoc 32 (2 ^ suc n) (2 ^ (h - 1))) ∙ ap (λ (m : ℕ). m * 2 ^ (h - 1)) twice)

large : (D h n : ℕ) → 0 < h → D ≡ 32 * 2 ^ (h + n) → 64 * 2 ^ n ≤ D
large D h n up e =
    let p : 2 ^ suc n ≤ 2 ^ (h + n) = pow_mono (omega arith) in
    omega (arith, pow-suc 2 n)

-- counted from the end: a height with n levels above it starts 64 * 2 ^ n bytes before D
pub place_is : (D h q n : ℕ) → 0 < h → D ≡ 32 * 2 ^ (h + n) → node_place D h q + 64 * 2 ^ n ≡ D + 32 * q
unfolding node_place
place_is D h q n up e = omega (arith, quotient D h n up e, large D h n up e)

exponent : (a b : ℕ) → 2 ^ a ≡ 2 ^ b → a ≡ b
exponent a b e = by_order (ltb a b) (ltb b a) refl refl
  where
    by_order : (x y : Bool) → ltb a b ≡ x → ltb b a ≡ y → a ≡ b
    by_order true y l g = let k = pow-lt {i = a} {j = b} (ltb-true a b l) in absurd (omega arith)
    by_order false true l g = let k = pow-lt {i = b} {j = a} (ltb-true b a g) in absurd (omega arith)
    by_order false false l g = omega (arith, ltb-false a b l, ltb-false b a g)

-- a height and the levels above it make up the tree's height
pub same_top : (D h q n k r m : ℕ) (s : RowInTree D h q n) (t : RowInTree D k r m) → h + s.levels ≡ k + t.levels
same_top D h q n k r m s t = exponent (h + s.levels) (k + t.levels) (omega (arith, s.sized, t.sized))

pub below_top : (D top h q n : ℕ) (t : RowInTree D h q n) → D ≡ 32 * 2 ^ top → h + t.levels ≡ top
below_top D top h q n t e = exponent (h + t.levels) top (omega (arith, t.sized))

-- a node of a tree of 2 ^ top nodes, with n levels above it
pub node_in_tree : (D top n i q : ℕ) → D ≡ 32 * 2 ^ top → i + n ≡ top → q < 2 ^ n → NodeInTree D i q
node_in_tree D top n i q e k h =
    record { levels = n; sized = e ∙ ap (λ (m : ℕ). 32 * 2 ^ m) (sym k); inside = omega arith }

-- the root stands in the buffer's last 32 bytes
pub root_place : (D top : ℕ) → 0 < top → D ≡ 32 * 2 ^ top → node_place D top 0 + 64 ≡ D
root_place D top up e =
    let t : D ≡ 32 * 2 ^ (top + 0) = e ∙ ap (λ (m : ℕ). 32 * 2 ^ m) (omega arith) in
    omega (arith, place_is D top 0 0 up t)

-- within a height from left to right
pub place_left : (D h q r : ℕ) → q < r → node_place D h q + 32 ≤ node_place D h r
unfolding node_place
place_left D h q r l = omega arith

-- a height after those below it
pub place_below : (D h q k r : ℕ) → NodeInTree D h q → NodeInTree D k r → 0 < h → h < k
    → node_place D h q + 32 ≤ node_place D k r
place_below D h q k r s t up l =
    let e = same_top D h q 1 k r 1 s t in
    let p : 2 ^ suc t.levels ≤ 2 ^ s.levels = pow_mono (omega arith) in
    let w = pow-suc 2 t.levels in
    omega (
      arith,
      place_is D h q s.levels up s.sized,
      place_is D k r t.levels (omega arith)
          t.sized,
      s.inside,
      t.inside,
    )

-- inside the buffer, which is 32 bytes shorter than the deal
pub row_inside : (D h q n : ℕ) → RowInTree D h q n → 0 < h → node_place D h q + 32 * n + 32 ≤ D
row_inside D h q n s up =
    let p = pow_pos s.levels in
    omega (arith, place_is D h q s.levels up s.sized, s.inside, large D h s.levels up s.sized)

pub place_inside : (D h q : ℕ) → NodeInTree D h q → 0 < h → node_place D h q + 64 ≤ D
place_inside D h q s up = omega (arith, row_inside D h q 1 s up)

-- positions and heights are small numbers
pub row_small : (D h q n : ℕ) → RowInTree D h q n → 32 * (q + n) ≤ D
row_small D h q n s =
    let p : 2 ^ s.levels ≤ 2 ^ (h + s.levels) = pow_mono (omega arith) in
    omega (arith, s.inside, s.sized)

pub height_small : (D h q n : ℕ) → RowInTree D h q n → D < 2 ^ 64 → h < 64
height_small D h q n s fits =
    lt_of_not-le
    (λ (g : 64 ≤ h). let k : 2 ^ 64 ≤ 2 ^ (h + s.levels) = pow_mono {i = 64} {j = h + s.levels}
    (omega arith) in omega (arith, s.sized))

-- a node of the lowest level is inside the deal
pub leaf_inside : (D h q : ℕ) → NodeInTree D h q → h ≡ 0 → q * 32 + 32 ≤ D
leaf_inside D h q s z = omega (arith, row_small D h q 1 s)

-- the places of two nodes do not overlap
pub apart : (D h q k r : ℕ) → NodeInTree D h q → NodeInTree D k r → 0 < h → 0 < k → (h ≡ k → q ≡ r → ⊥)
    → (node_place D h q + 32 ≤ node_place D k r) ⊎ (node_place D k r + 32 ≤ node_place D h q)
apart D h q k r s t up up' ne = by_height (ltb h k) (ltb k h) refl refl
  where
    by_side : (x y : Bool) → h ≡ k → ltb q r ≡ x → ltb r q ≡ y
        → (node_place D h q + 32 ≤ node_place D k r) ⊎ (node_place D k r + 32 ≤ node_place D h q)
    by_side true y e l g = inl (rw (← e) (place_left D h q r (ltb-true q r l)))
    by_side false true e l g = inr (rw (← e) (place_left D h r q (ltb-true r q g)))
    by_side false false e l g = absurd (ne e (omega (arith, ltb-false q r l, ltb-false r q g)))

    by_height : (x y : Bool) → ltb h k ≡ x → ltb k h ≡ y
        → (node_place D h q + 32 ≤ node_place D k r) ⊎ (node_place D k r + 32 ≤ node_place D h q)
    by_height true y l g = inl (place_below D h q k r s t up (ltb-true h k l))
    by_height false true l g = inr (place_below D k r h q t s up' (ltb-true k h g))
    by_height false false l g = by_side (ltb q r) (ltb r q) (omega (arith, ltb-false h k l, ltb-false k h g)) refl refl

-- the children of a row of inner nodes
pub row_children : (D h q n : ℕ) → RowInTree D (suc h) q n → RowInTree D h (q * 2) (n * 2)
row_children D h q n t =
    record {
      levels = suc t.levels;
      sized = t.sized ∙ ap (λ (m : ℕ). 32 * 2 ^ m) (omega arith);
      inside = omega (arith, pow-suc 2 t.levels, t.inside);
    }

pub children_small : (D h q n : ℕ) → RowInTree D (suc h) q n → 64 * (q + n) ≤ D
children_small D h q n t = omega (arith, row_small D h (q * 2) (n * 2) (row_children D h q n t))

-- a part of a row
pub row_part : (D h q n r m : ℕ) → RowInTree D h q n → q ≤ r → r + m ≤ q + n → RowInTree D h r m
row_part D h q n r m t l g = record { levels = t.levels; sized = t.sized; inside = omega (arith, t.inside) }

pub left_child : (D h q : ℕ) → NodeInTree D (suc h) q → NodeInTree D h (q * 2)
left_child D h q t = row_part D h (q * 2) 2 (q * 2) 1 (row_children D h q 1 t) (omega arith) (omega arith)

pub right_child : (D h q : ℕ) → NodeInTree D (suc h) q → NodeInTree D h (q * 2 + 1)
right_child D h q t = row_part D h (q * 2) 2 (q * 2 + 1) 1 (row_children D h q 1 t) (omega arith) (omega arith)
