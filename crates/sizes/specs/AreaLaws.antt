-- The area of a segment: the smallest power of two at or above both its size and 128. Other laws cite these, and do not
-- open `area`.
use Rattle.std.specs.Prelude.{◌≡◌, refl, Bool, true, false, ℕ, zero, suc, ◌+◌, ◌*◌, ◌^◌, ◌≤◌, ◌<◌, leb}
use Rattle.std.proofs.Common.{ap, ◌∙◌, pow-suc, add-zero, arith, pow_pos, pow_mono, leb-true, leb-false}
use Rattle.rules.specs.Choice.{choose}
use Rattle.sizes.specs.Sizes.{doubled_to, area}

-- powers of two stand in the order of their exponents
pub exponent_le : (m h : ℕ) → 2 ^ m ≤ 2 ^ h → m ≤ h
exponent_le m h k = go (leb m h) refl
  where
    go : (t : Bool) → leb m h ≡ t → m ≤ h
    go true e = leb-true m h e
    go false e =
        let l : suc h ≤ m = leb-false m h e in
        let a : 2 ^ suc h ≤ 2 ^ m = pow_mono l in
        let b = pow-suc 2 h in
        let c = pow_pos h in
        absurd (omega arith)

-- 2 ^ k doubled at most n times: the lowest power from there on that reaches the size, or else the last
pub record Doubled (n k size : ℕ) : Type 0 where
  pub exponent : ℕ
  pub is_power_lem : doubled_to n (2 ^ k) size ≡ 2 ^ exponent
  pub low : k ≤ exponent
  pub high : exponent ≤ k + n
  pub reaches : size ≤ 2 ^ (k + n) → size ≤ 2 ^ exponent
  pub least : (m : ℕ) → k ≤ m → size ≤ 2 ^ m → exponent ≤ m

doubled : (n k size : ℕ) → Doubled n k size
unfolding doubled_to
doubled zero k size =
    record {
      exponent = k;
      is_power_lem = refl;
      low = omega arith;
      high = omega arith;
      reaches = λ h. rw (add-zero k) at h;
      least = λ m a b. a;
    }
doubled (suc n) k size = go (leb size (2 ^ k)) refl (doubled n (suc k) size)
  where
    go : (t : Bool) → leb size (2 ^ k) ≡ t → Doubled n (suc k) size → Doubled (suc n) k size
    go true e r =
        record {
          exponent = k;
          is_power_lem = ap (λ (b : Bool). choose b (2 ^ k) (doubled_to n (2 * 2 ^ k) size)) e;
          low = omega arith;
          high = omega arith;
          reaches = λ h. leb-true size (2 ^ k) e;
          least = λ m a b. a;
        }
    go false e r =
        let twice : 2 * 2 ^ k ≡ 2 ^ suc k = omega (arith, pow-suc 2 k) in
        let last : k + suc n ≡ suc k + n = omega arith in
        record {
          exponent = r.exponent;
          is_power_lem =
              ap (λ (b : Bool). choose b (2 ^ k) (doubled_to n (2 * 2 ^ k) size)) e
              ∙ ap (λ (a : ℕ). doubled_to n a size) twice
              ∙ r.is_power_lem;
          low = omega (arith, r.low);
          high = omega (arith, r.high);
          reaches = λ h. r.reaches (rw last at h);
          least = λ m a b. r.least m (above m a b) b;
        }
      where
        above : (m : ℕ) → k ≤ m → size ≤ 2 ^ m → suc k ≤ m
        above m a b = by_test (leb m k) refl
          where
            by_test : (t : Bool) → leb m k ≡ t → suc k ≤ m
            by_test true q =
                let p : 2 ^ m ≤ 2 ^ k = pow_mono (leb-true m k q) in
                let g : 2 ^ k < size = leb-false size (2 ^ k) e in
                absurd (omega arith)
            by_test false q = leb-false m k q

-- 128 is 2 ^ 7
pub area_doubled : (size : ℕ) → Doubled 28 7 size
area_doubled size = doubled 28 7 size

pub area_is_doubled : (size : ℕ) → area size ≡ 2 ^ (area_doubled size).exponent
unfolding area
area_is_doubled size = (area_doubled size).is_power_lem

-- what the area of a size is: for every size up to half of the largest deal the smallest power of two at or above both
-- the size and 128
pub record IsArea (size a : ℕ) : Type 0 where
  pub power : (j : ℕ) × (a ≡ 2 ^ j)
  pub holds_size : size ≤ a
  pub holds_128 : 128 ≤ a
  pub smallest : (m : ℕ) → size ≤ 2 ^ m → 128 ≤ 2 ^ m → a ≤ 2 ^ m

pub area_least : (size : ℕ) → size ≤ 2 ^ 35 → IsArea size (area size)
area_least size h =
    let d = area_doubled size in
    let e = area_is_doubled size in
    record {
      power = (d.exponent, e);
      holds_size = omega (arith, e, d.reaches h);
      holds_128 = let p : 2 ^ 7 ≤ 2 ^ d.exponent = pow_mono d.low in omega arith;
      smallest = λ m a b.
          let p : 2 ^ d.exponent ≤ 2 ^ m = pow_mono (d.least m (exponent_le 7 m b) a) in
          omega arith;
    }
