-- A number of w bits with one bit set is 2 ^ k, with k the zeros below that bit.
use Rattle.std.specs.Prelude.{◌≡◌, refl, Bool, true, false, ℕ, zero, suc, ◌+◌, ◌*◌, ◌/◌, ◌%◌, ◌^◌, ◌≤◌, ◌<◌, leb}
use Rattle.std.proofs.Common.{sym, ap, ◌∙◌, pow-suc, add-zero, one-mul, arith, pow_pos, eq-eqb, eqb-true, le-leb, leb-true}
use Rattle.std.specs.Int.Count.{ones, ones_step, count_trailing_zeros, under}
use Rattle.std.proofs.lemmas.Nat.{ones_cat}
use Rattle.std.proofs.lemmas.Bool.{lt-leb}
use Rattle.pow2.specs.Power.{is_power, height, power_between}

-- a power of two has one bit set
pub ones_pow : (k : ℕ) → ones (2 ^ k) ≡ 1
unfolding ones
ones_pow k = ap ones (sym (add-zero (1 * 2 ^ k) ∙ one-mul (2 ^ k))) ∙ ones_cat k 1 0 (pow_pos k)

ones_zero : ones 0 ≡ 0
unfolding ones
ones_zero = refl

-- no bit set: zero
none : (w n : ℕ) → n < 2 ^ w → ones n ≡ 0 → n ≡ 0
none zero n h e = omega arith
none (suc w) n h e =
    let p : 2 ^ suc w ≡ 2 ^ w * 2 = pow-suc 2 w in
    let s : ones n ≡ n % 2 + ones (n / 2) = ones_step n in
    let r : n / 2 ≡ 0 = none w (n / 2) (omega arith) (omega arith) in
    omega arith

-- one bit set: the power of two at its place, which is below the width
pub one : (w n : ℕ) → n < 2 ^ w → ones n ≡ 1 → (n ≡ 2 ^ count_trailing_zeros w n) × (count_trailing_zeros w n < w)
unfolding count_trailing_zeros
one zero n h e =
    let z : n ≡ 0 = omega arith in
    let o : ones n ≡ 0 = ap ones z ∙ ones_zero in
    omega arith
one (suc w) n h e = go (λ lt eq. one w (n / 2) lt eq) (n % 2) refl
  where
    go : (n / 2 < 2 ^ w → ones (n / 2) ≡ 1 → (n / 2 ≡ 2 ^ count_trailing_zeros w (n / 2)) × (count_trailing_zeros w (n / 2) < w))
        → (d : ℕ)
        → n % 2 ≡ d → (n ≡ 2 ^ under d (count_trailing_zeros w (n / 2))) × (under d (count_trailing_zeros w (n / 2)) < suc w)
    go rest zero z =
        let p : 2 ^ suc w ≡ 2 ^ w * 2 = pow-suc 2 w in
        let s : ones n ≡ n % 2 + ones (n / 2) = ones_step n in
        let r = rest (omega arith) (omega arith) in
        let q = pow-suc 2 (count_trailing_zeros w (n / 2)) in
        (omega (arith, r.0), omega (arith, r.1))
    go rest (suc d) z =
        let p : 2 ^ suc w ≡ 2 ^ w * 2 = pow-suc 2 w in
        let s : ones n ≡ n % 2 + ones (n / 2) = ones_step n in
        let r : n / 2 ≡ 0 = none w (n / 2) (omega arith) (omega arith) in
        (omega arith, omega arith)

-- the zeros below the one bit of a power of two
pub trailing_pow : (w k : ℕ) → k < w → count_trailing_zeros w (2 ^ k) ≡ k
unfolding count_trailing_zeros
trailing_pow zero k h = omega arith
trailing_pow (suc w) zero h = refl
trailing_pow (suc w) (suc k) h =
    let p : 2 ^ suc k ≡ 2 ^ k * 2 = pow-suc 2 k in
    let even : 2 ^ suc k % 2 ≡ 0 = omega arith in
    let half : 2 ^ suc k / 2 ≡ 2 ^ k = omega arith in
    ap (λ (d : ℕ). under d (count_trailing_zeros w (2 ^ suc k / 2))) even
    ∙ ap (λ (n : ℕ). suc (count_trailing_zeros w n)) half
    ∙ ap suc (trailing_pow w k (omega arith))

-- at 64 bits: what the test says where it is passed, that each power of two passes it, and its height
pub power_is : (n : ℕ) → n < 2 ^ 64 → is_power n ≡ true → (n ≡ 2 ^ height n) × (height n < 64)
power_is n h e = one 64 n h (eqb-true (ones n) 1 e)

pub is_power_lem : (k : ℕ) → is_power (2 ^ k) ≡ true
is_power_lem k = eq-eqb (ones (2 ^ k)) 1 (ones_pow k)

pub height_pow : (k : ℕ) → k < 64 → height (2 ^ k) ≡ k
height_pow k h = trailing_pow 64 k h

-- a power of two between bounds: the ways out of the test, and what it says where it is passed
module _ (low high n : ℕ) where
  pub below_bound : n < low → power_between low high n ≡ false
  below_bound h = rw (lt-leb low n h)

  pub above_bound : low ≤ n → high < n → power_between low high n ≡ false
  above_bound h k = rw (le-leb low n h, lt-leb n high k)

  pub in_bounds_lem : low ≤ n → n ≤ high → power_between low high n ≡ is_power n
  in_bounds_lem h k = rw (le-leb low n h, le-leb n high k)

  pub power_bounds : power_between low high n ≡ true → (low ≤ n) × (n ≤ high) × (is_power n ≡ true)
  power_bounds e = by_low (leb low n) refl
    where
      by_high : (b : Bool) → leb n high ≡ b → leb low n ≡ true → (low ≤ n) × (n ≤ high) × (is_power n ≡ true)
      by_high true k h = (leb-true low n h, leb-true n high k, sym (rw (h, k)) ∙ e)
      by_high false k h =
          let z : ◌≡◌ {A = Bool} true false = sym e ∙ rw (h, k) in let y : ◌≡◌ {A = ℕ} 0 1 = cc in absurd (omega arith)

      by_low : (b : Bool) → leb low n ≡ b → (low ≤ n) × (n ≤ high) × (is_power n ≡ true)
      by_low true h = by_high (leb n high) refl h
      by_low false h =
          let z : ◌≡◌ {A = Bool} true false = sym e ∙ rw h in let y : ◌≡◌ {A = ℕ} 0 1 = cc in absurd (omega arith)
