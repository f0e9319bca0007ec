-- Sums of sums, and a sum with one term.
use Rattle.std.specs.Prelude.{◌≡◌, refl, ◌≢◌, ℕ, zero, suc, ◌+◌, ◌<◌}
use Rattle.std.proofs.Common.{sym, ap, ◌∙◌, arith}
use Rattle.std.proofs.Math.Decide.{ℕ_discrete}
use Rattle.packing.specs.Total.{total}
use Rattle.packing.specs.TotalLaws.{total_zero}

total_add : (f g : ℕ → ℕ) (n : ℕ) → total (λ i. f i + g i) n ≡ total f n + total g n
unfolding total
total_add f g zero = refl
total_add f g (suc n) = omega (arith, total_add f g n)

pub total_swap : (f : ℕ → ℕ → ℕ) (n m : ℕ) → total (λ i. total (f i) m) n ≡ total (λ k. total (λ i. f i k) n) m
unfolding total
total_swap f zero m = sym (total_zero (λ k. 0) m (λ k h. refl))
total_swap f (suc n) m =
    ap (λ (s : ℕ). s + total (f n) m) (total_swap f n m) ∙ sym (total_add (λ k. total (λ i. f i k) n) (f n) m)

pub total_only : (f : ℕ → ℕ) (n i : ℕ) → i < n → ((k : ℕ) → k < n → k ≢ i → f k ≡ 0) → total f n ≡ f i
unfolding total
total_only f zero i h z = absurd (omega arith)
total_only f (suc n) i h z =
    elim (ℕ_discrete i n) [
      | yes e ↦ omega (arith, total_zero f n (λ k l. z k (omega arith) (λ q. omega arith)), ap f e)
      | no ne ↦
          omega
          (arith, total_only f n i (omega arith) (λ k l d. z k (omega arith) d), z n (omega arith) (λ q. ne (sym q)))
    ]
