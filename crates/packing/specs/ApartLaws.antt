-- Ranges apart are together no longer than what they lie in.
use Rattle.std.specs.Prelude.{◌≡◌, refl, Bool, true, false, ◌≢◌, ℕ, zero, suc, ◌+◌, ◌-◌, ◌≤◌, ◌<◌, min}
use Rattle.std.proofs.Common.{inl, inr, ⊎_elim, arith}
use Rattle.std.proofs.Math.Decide.{dec_lt, ℕ_discrete}
use Rattle.rules.specs.Choice.{choose}
use Rattle.rules.specs.Search.{one}
use Rattle.packing.specs.Apart.{Beside, Apart}
use Rattle.packing.specs.Total.{total}
use Rattle.packing.specs.TotalLaws.{total_le, total_zero, total_step}

-- how many numbers of the range o, a are below a limit
abbrev below : ℕ → ℕ → ℕ → ℕ
below limit o a = min (o + a) limit - min o limit

-- one more below the next limit only if the range holds the limit
below_next : (l o a : ℕ) → below (suc l) o a ≤ below l o a + 1
below_next l o a = omega arith

below_holds : (l o a : ℕ) → below l o a < below (suc l) o a → (o ≤ l) × (l < o + a)
below_holds l o a h = (omega arith, omega arith)

below_all : (l o a : ℕ) → o + a ≤ l → a ≤ below l o a
below_all l o a h = omega arith

module _ (o a : ℕ → ℕ) (n : ℕ) (apart : Apart o a n) where
  -- no number is in two ranges
  one_holds : (x i j : ℕ) → i < n → j < n → (o i ≤ x) × (x < o i + a i) → (o j ≤ x) × (x < o j + a j) → i ≡ j
  one_holds x i j hi hj p q =
      elim (ℕ_discrete i j) [
        | yes e ↦ e
        | no ne ↦ absurd (⊎_elim (λ after. omega arith) (λ before. omega arith) (apart i j hi hj ne))
      ]

  next : (l : ℕ) → total (λ k. below (suc l) (o k) (a k)) n ≤ total (λ k. below l (o k) (a k)) n + 1
  next l =
      total_step (λ k. below l (o k) (a k)) (λ k. below (suc l) (o k) (a k)) n (λ k h. below_next l (o k) (a k))
      (λ i j hi hj p q. one_holds l i j hi hj (below_holds l (o i) (a i) p) (below_holds l (o j) (a j) q))

  inside : (l : ℕ) → total (λ k. below l (o k) (a k)) n ≤ l
  inside zero = omega (arith, total_zero (λ k. below 0 (o k) (a k)) n (λ k h. omega arith))
  inside (suc l) = omega (arith, next l, inside l)

  -- the key law: ranges that end by a limit are together no longer than it
  pub apart_total : (l : ℕ) → ((k : ℕ) → k < n → o k + a k ≤ l) → total a n ≤ l
  apart_total l h =
      omega (arith, total_le a (λ k. below l (o k) (a k)) n (λ k b. below_all l (o k) (a k) (h k b)), inside l)

  -- and shorter, where a number below the limit is in none of them
  module _ (x : ℕ) (out : (k : ℕ) → k < n → (o k ≤ x) × (x < o k + a k) → ⊥) where
    inside_gap : (l : ℕ) → x < l → total (λ k. below l (o k) (a k)) n < l
    inside_gap zero h = absurd (omega arith)
    inside_gap (suc l) h =
        elim (ℕ_discrete x l) [
          | yes e ↦ omega
              (arith, total_le (λ k. below (suc l) (o k) (a k)) (λ k. below l (o k) (a k)) n (stays l e), inside l)
          | no ne ↦ omega (arith, next l, inside_gap l (omega arith))
        ]
      where
        stays : (m : ℕ) → x ≡ m → (k : ℕ) → k < n → below (suc m) (o k) (a k) ≤ below m (o k) (a k)
        stays m e k b =
            elim (dec_lt (below m (o k) (a k)) (below (suc m) (o k) (a k))) [
              | yes t ↦ let p = below_holds m (o k) (a k) t in absurd (out k b (omega arith, omega arith))
              | no f ↦ omega arith
            ]

    pub gap_total : (l : ℕ) → x < l → ((k : ℕ) → k < n → o k + a k ≤ l) → total a n < l
    gap_total l h ends =
        omega
        (arith, total_le a (λ k. below l (o k) (a k)) n (λ k b. below_all l (o k) (a k) (ends k b)), inside_gap l h)

-- the same for numbers: different ones below a limit are no more than it
pub distinct_count : (p : ℕ → Bool) (f : ℕ → ℕ) (n l : ℕ)
    → ((i k : ℕ) → i < n → k < n → i ≢ k → p i ≡ true → p k ≡ true → f i ≢ f k)
    → ((k : ℕ) → k < n → p k ≡ true → f k < l) → total (λ k. one (p k)) n ≤ l
distinct_count p f n l ne below-l =
    apart_total (λ k. choose (p k) (f k) 0) (λ k. one (p k)) n
    (λ i k hi hk d. sides (p i) (p k) (f i) (f k) (ne i k hi hk d))
    l (λ k h. ends (p k) (f k) (below-l k h))
  where
    sides : (b c : Bool) (x y : ℕ) → (b ≡ true → c ≡ true → x ≢ y)
        → Beside (choose b x 0) (one b) (choose c y 0) (one c)
    sides false c x y d = inr (omega arith)
    sides true false x y d = inl (omega arith)
    sides true true x y d =
        elim (dec_lt x y) [
          | yes l ↦ inr (omega arith)
          | no m ↦ elim (ℕ_discrete x y) [ yes e ↦ absurd (d refl refl e) | no u ↦ inl (omega arith) ]
        ]

    ends : (b : Bool) (x : ℕ) → (b ≡ true → x < l) → choose b x 0 + one b ≤ l
    ends true x h = omega (arith, h refl)
    ends false x h = omega arith
