-- Blocks of bytes: one of sixteen nodes, one twice as long, and the numbers that go with a block.
use mathlib.Core.Path.{◌≡◌, refl, sym, ap, ◌∙◌}
use Prim.Native.Nat.{ℕ, suc, ◌+◌, ◌-◌, ◌*◌, ◌/◌, ◌%◌, ◌^◌, ◌≤◌, ◌<◌}
use native.Mathlib.Nat.{pow-suc, add-zero, mul_comm, mul_assoc, div-add-mod', lt_of_not-le, mul-le-mul_right}
use native.Mathlib.Omega.{arith}
use lib.Pow.{pow-add, pow_mono}
use Rattle.pow2.specs.Power.{height}
use Rattle.pow2.specs.PowerLaws.{height_pow}
use Rattle.stream.specs.Stream.{largest}
use Rattle.stream.specs.Parts.{Block, Part}

pub block_first : (count : ℕ) → count % 512 ≡ 0 → Block count 512
block_first count e = record { height = 4; sixteen = omega arith; sized = refl; starts = e }

pub block_twice : (count n : ℕ) → Block count n → count % (2 * n) ≡ 0 → Block count (2 * n)
block_twice count n b e =
    record {
      height = suc b.height;
      sixteen = omega (arith, b.sixteen);
      sized = omega (arith, b.sized, pow-suc 2 b.height);
      starts = e;
    }

module _ (count n : ℕ) (b : Block count n) where
  at_least_sixteen : 2 ^ 4 ≤ 2 ^ b.height
  at_least_sixteen = pow_mono {i = 4} {j = b.height} b.sixteen

  pub block_some : 512 ≤ n
  block_some = omega (arith, b.sized, at_least_sixteen)

  -- what is taken at once
  pub part_of_block : count + n ≤ largest → Part count n
  part_of_block few =
      record {
        some = omega (arith, block_some);
        allowed = few;
        within = λ h. absurd (omega (arith, block_some));
        block = λ h. b;
      }

  -- the blocks before it
  pub blocks_before : count ≡ count / n * (32 * 2 ^ b.height)
  blocks_before =
      sym (div-add-mod' count n)
      ∙ ap (λ (m : ℕ). count / n * n + m) b.starts
      ∙ add-zero (count / n * n)
      ∙ ap (λ (m : ℕ). count / n * m) b.sized

  pub nodes_before : count % 32 ≡ 0
  nodes_before =
      let p : ℕ = 2 ^ b.height in
      let e : count ≡ 32 * (p * (count / n)) =
      blocks_before ∙ mul_comm (count / n) (32 * p) ∙ mul_assoc 32 p (count / n) in
      omega arith

  module _ (few : count + n ≤ largest) where
    pub height_low : b.height ≤ 31
    height_low =
        let h : b.height < 32 =
        lt_of_not-le
        (λ (g : 32 ≤ b.height).
        let p : 2 ^ 32 ≤ 2 ^ b.height = pow_mono {i = 32} {j = b.height} g in
        omega (arith, b.sized)) in
        omega arith

    power : n ≡ 2 ^ (b.height + 5)
    power = b.sized ∙ omega (arith, pow-add 2 b.height 5)

    pub height_is : height n - 5 ≡ b.height
    height_is =
        let e : height n ≡ b.height + 5 = ap height power ∙ height_pow (b.height + 5) (omega (arith, height_low)) in
        omega arith

    pub height_five : 5 ≤ height n
    height_five =
        let e : height n ≡ b.height + 5 = ap height power ∙ height_pow (b.height + 5) (omega (arith, height_low)) in
        omega arith

    -- as many nodes of the block's height as the tree can have
    pub before_few : count / n < 2 ^ (31 - b.height)
    before_few =
        lt_of_not-le
        (λ (g : 2 ^ (31 - b.height) ≤ count / n).
        let s : 31 - b.height + (b.height + 5) ≡ 36 = omega (arith, height_low) in
        let all : 2 ^ 36 ≡ 2 ^ (31 - b.height) * n =
        ap (λ (m : ℕ). 2 ^ m) (sym s) ∙ pow-add 2 (31 - b.height) (b.height + 5)
        ∙ ap (λ (m : ℕ). 2 ^ (31 - b.height) * m) (sym power) in
        let over : 2 ^ (31 - b.height) * n ≤ count / n * n = mul-le-mul_right n g in
        let here : count ≡ count / n * n =
        sym (div-add-mod' count n)
        ∙ ap (λ (m : ℕ). count / n * n + m) b.starts
        ∙ add-zero (count / n * n) in
        omega (arith, block_some))

-- the bytes up to the end of a node, or fewer
pub part_of_node : (count n : ℕ) → count < largest → 0 < n → n ≤ 32 - count % 32 → Part count n
part_of_node count n few some fits =
    record {
      some = some;
      allowed = omega arith;
      within = λ h. omega arith;
      block = λ h. absurd (omega arith);
    }
