-- Laws of a sum over the first n numbers: how it grows with its terms.
use Rattle.std.specs.Prelude.{◌≡◌, refl, Bool, true, false, ℕ, zero, suc, ◌+◌, ◌*◌, ◌%◌, ◌≤◌, ◌<◌}
use Rattle.std.proofs.Common.{ap, ap₂, ◌∙◌, suc-mul, add-one, arith}
use Rattle.std.proofs.Math.Nat.{add-mod, zero-mod}
use Rattle.std.proofs.Math.Decide.{dec_le, ℕ_discrete}
use Rattle.rules.specs.Choice.{choose}
use Rattle.packing.specs.Total.{total}

pub total_le : (f g : ℕ → ℕ) (n : ℕ) → ((i : ℕ) → i < n → f i ≤ g i) → total f n ≤ total g n
unfolding total
total_le f g zero h = omega arith
total_le f g (suc n) h = omega (arith, total_le f g n (λ i l. h i (omega arith)), h n (omega arith))

pub total_cong : (f g : ℕ → ℕ) (n : ℕ) → ((i : ℕ) → i < n → f i ≡ g i) → total f n ≡ total g n
unfolding total
total_cong f g zero h = refl
total_cong f g (suc n) h = ap₂ ◌+◌ (total_cong f g n (λ i l. h i (omega arith))) (h n (omega arith))

pub total_next : (f : ℕ → ℕ) (n : ℕ) → total f (n + 1) ≡ total f n + f n
unfolding total
total_next f n = ap (total f) (add-one n)

pub total_zero : (f : ℕ → ℕ) (n : ℕ) → ((i : ℕ) → i < n → f i ≡ 0) → total f n ≡ 0
unfolding total
total_zero f zero h = refl
total_zero f (suc n) h = omega (arith, total_zero f n (λ i l. h i (omega arith)), h n (omega arith))

-- terms of at most m
pub total_most : (f : ℕ → ℕ) (n m : ℕ) → ((i : ℕ) → i < n → f i ≤ m) → total f n ≤ n * m
unfolding total
total_most f zero m h = omega arith
total_most f (suc n) m h = omega (arith, total_most f n m (λ i l. h i (omega arith)), h n (omega arith), suc-mul n m)

-- terms at least as large, and one of them larger by c
pub total_more : (f g : ℕ → ℕ) (n i c : ℕ) → ((k : ℕ) → k < n → f k ≤ g k) → i < n → f i + c ≤ g i
    → total f n + c ≤ total g n
unfolding total
total_more f g zero i c h l m = absurd (omega arith)
total_more f g (suc n) i c h l m =
    elim (ℕ_discrete i n) [
      | yes e ↦ omega (arith, total_le f g n (λ k b. h k (omega arith)), ap f e, ap g e)
      | no ne ↦ omega (arith, total_more f g n i c (λ k b. h k (omega arith)) (omega arith) m, h n (omega arith))
    ]

-- terms larger by 1 at most, and no two of them larger
pub total_step : (f g : ℕ → ℕ) (n : ℕ) → ((i : ℕ) → i < n → g i ≤ f i + 1)
    → ((i j : ℕ) → i < n → j < n → f i < g i → f j < g j → i ≡ j) → total g n ≤ total f n + 1
unfolding total
total_step f g zero h u = omega arith
total_step f g (suc n) h u =
    elim (dec_le (g n) (f n)) [
      | yes e ↦ omega
          (arith, total_step f g n (λ i l. h i (omega arith)) (λ i j a b. u i j (omega arith) (omega arith)))
      | no m ↦ omega (arith, total_le g f n (others (omega arith)), h n (omega arith))
    ]
  where
    others : f n < g n → (i : ℕ) → i < n → g i ≤ f i
    others m i l =
        elim (dec_le (g i) (f i)) [
          | yes e ↦ e
          | no k ↦ absurd (omega (arith, u i n (omega arith) (omega arith) (omega arith) m))
        ]

-- a sum in two parts, by a test
pub total_split : (p : ℕ → Bool) (f : ℕ → ℕ) (n : ℕ)
    → total (λ i. choose (p i) (f i) 0) n + total (λ i. choose (p i) 0 (f i)) n ≡ total f n
unfolding total
total_split p f zero = refl
total_split p f (suc n) = omega (arith, total_split p f n, by_test (p n) (f n))
  where
    by_test : (b : Bool) (m : ℕ) → choose b m 0 + choose b 0 m ≡ m
    by_test true m = omega arith
    by_test false m = omega arith

-- a sum of multiples is a multiple
pub total_multiple : (f : ℕ → ℕ) (n m : ℕ) → ((i : ℕ) → i < n → f i % m ≡ 0) → total f n % m ≡ 0
unfolding total
total_multiple f zero m h = zero-mod m
total_multiple f (suc n) m h =
    add-mod (total f n) (f n) m
    ∙ ap₂ (λ (x y : ℕ). (x + y) % m) (total_multiple f n m (λ i l. h i (omega arith))) (h n (omega arith))
    ∙ zero-mod m
