-- Two sums over the first n numbers whose terms differ at one number at most differ by that term alone.
use Rattle.std.specs.Prelude.{◌≡◌, ◌≢◌, ℕ, zero, suc, ◌+◌, ◌<◌}
use Rattle.std.proofs.Common.{sym, ap, arith}
use Rattle.std.proofs.Math.Decide.{ℕ_discrete}
use Rattle.packing.specs.Total.{total}
use Rattle.packing.specs.TotalLaws.{total_cong}

pub total_put : (f g : ℕ → ℕ) (n i : ℕ) → i < n → ((k : ℕ) → k < n → k ≢ i → g k ≡ f k)
    → total g n + f i ≡ total f n + g i
unfolding total
total_put f g zero i h same = absurd (omega arith)
total_put f g (suc n) i h same =
    elim (ℕ_discrete i n) [
      | yes e ↦
          let rest = total_cong g f n (λ k l. same k (omega arith) (λ q. omega arith)) in
          omega (arith, rest, ap f e, ap g e)
      | no ne ↦
          let rest = total_put f g n i (omega arith) (λ k l d. same k (omega arith) d) in
          omega (arith, rest, same n (omega arith) (λ q. ne (sym q)))
    ]
