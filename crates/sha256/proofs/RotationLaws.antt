-- Two rotations at once: a rotation of the exclusive or of a word and that word rotated.
use Rattle.std.proofs.Common.{◌≡◌, ℕ, ◌+◌, ◌*◌, ◌/◌, ◌%◌, ◌^◌, ◌<◌, sym, ap, arith}
use lib.Bits.{bit_or, or_shifted_r, xor_shr, xor_mod, xor_block, xor_lt}
use Rattle.sha256.specs.Fips.{◌⊕◌, shr, rotr, σ0, σ1}

-- a rotation by n of n + m bits: the lowest n go above the m others
abbrev turned : ℕ → ℕ → ℕ → ℕ
turned n m x = x % 2 ^ n * 2 ^ m + x / 2 ^ n

as_turned : (n m x : ℕ) → x * 2 ^ m % 2 ^ 32 ≡ x % 2 ^ n * 2 ^ m → x / 2 ^ n < 2 ^ m
    → bit_or (x / 2 ^ n) (x * 2 ^ m % 2 ^ 32) ≡ turned n m x
as_turned n m x e b = rw e (or_shifted_r (x % 2 ^ n) m (x / 2 ^ n) b)

turned_xor : (n m x y : ℕ) → x / 2 ^ n < 2 ^ m → y / 2 ^ n < 2 ^ m
    → turned n m (x ⊕ y) ≡ turned n m x ⊕ turned n m y
turned_xor n m x y bx by =
    rw (xor_mod x y n, xor_shr x y n) (sym (xor_block m (x % 2 ^ n) (y % 2 ^ n) (x / 2 ^ n) (y / 2 ^ n) bx by))

-- a word rotated by k and then by n is rotated by s, which is both together
module _ (n m k l s t : ℕ)
    (by_n : (x : ℕ) → x < 2 ^ 32 → rotr n x ≡ turned n m x)
    (by_k : (x : ℕ) → x < 2 ^ 32 → rotr k x ≡ turned k l x)
    (by_s : (x : ℕ) → x < 2 ^ 32 → rotr s x ≡ turned s t x)
    (within : (x : ℕ) → x < 2 ^ 32 → (x / 2 ^ n < 2 ^ m) × (turned k l x < 2 ^ 32))
    (lowest : (a b : ℕ) → (a * 2 ^ l + b) % 2 ^ n ≡ b % 2 ^ n)
    (above : (a b : ℕ) → (a * 2 ^ l + b) / 2 ^ n ≡ a * 2 ^ t + b / 2 ^ n)
    (lowest_both : (x : ℕ) → x % 2 ^ s ≡ x / 2 ^ k % 2 ^ n * 2 ^ k + x % 2 ^ k)
    (above_both : (x : ℕ) → x / 2 ^ k / 2 ^ n ≡ x / 2 ^ s)
    (put : (a b c : ℕ) → a * 2 ^ m + (b * 2 ^ t + c) ≡ (a * 2 ^ k + b) * 2 ^ t + c) where
  turned_twice : (x : ℕ) → turned n m (turned k l x) ≡ turned s t x
  turned_twice x =
      rw (lowest (x % 2 ^ k) (x / 2 ^ k), above (x % 2 ^ k) (x / 2 ^ k), above_both x, lowest_both x)
      (put (x / 2 ^ k % 2 ^ n) (x % 2 ^ k) (x / 2 ^ s))

  -- so that the exclusive or of a word's rotations by n and by s is one rotation by n
  both_at_once : (x : ℕ) → x < 2 ^ 32 → rotr n (x ⊕ rotr k x) ≡ rotr n x ⊕ rotr s x
  both_at_once x h =
      let y : ℕ = turned k l x in
      let hy : y < 2 ^ 32 = (within x h).1 in
      rw (
        by_k x h,
        by_n (x ⊕ y) (xor_lt 32 x y h hy),
        turned_xor n m x y (within x h).0 (within y hy).0,
        turned_twice x,
        by_n x h,
        by_s x h,
      )

-- rotations by 7 and by 18
pub σ0_nested : (x : ℕ) → x < 2 ^ 32 → rotr 7 (x ⊕ rotr 11 x) ⊕ shr 3 x ≡ σ0 x
unfolding σ0
σ0_nested x h =
    ap (λ (w : ℕ). w ⊕ shr 3 x)
    (both_at_once 7 25 11 21 18 14
    (λ y b. as_turned 7 25 y (omega arith) (omega arith))
    (λ y b. as_turned 11 21 y (omega arith) (omega arith))
    (λ y b. as_turned 18 14 y (omega arith) (omega arith))
    (λ y b. (omega arith, omega arith))
    (λ a b. omega arith)
    (λ a b. omega arith)
    (λ y. omega arith)
    (λ y. omega arith)
    (λ a b c. omega arith)
    x h)

-- rotations by 17 and by 19
pub σ1_nested : (x : ℕ) → x < 2 ^ 32 → rotr 17 (x ⊕ rotr 2 x) ⊕ shr 10 x ≡ σ1 x
unfolding σ1
σ1_nested x h =
    ap (λ (w : ℕ). w ⊕ shr 10 x)
    (both_at_once 17 15 2 30 19 13
    (λ y b. as_turned 17 15 y (omega arith) (omega arith))
    (λ y b. as_turned 2 30 y (omega arith) (omega arith))
    (λ y b. as_turned 19 13 y (omega arith) (omega arith))
    (λ y b. (omega arith, omega arith))
    (λ a b. omega arith)
    (λ a b. omega arith)
    (λ y. omega arith)
    (λ y. omega arith)
    (λ a b c. omega arith)
    x h)
