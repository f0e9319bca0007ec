-- `take_block`: stray bits, or the path of the last node, the block's commitment as one more node, and the last node.
use mathlib.Core.Path.{◌≡◌, sym, ap, subst, ◌∙◌}
use mathlib.Core.List.{List}
use Prim.Native.Nat.{ℕ, ◌+◌, ◌-◌, ◌*◌, ◌/◌, ◌^◌, ◌≤◌, ◌<◌}
use native.Mathlib.Omega.{arith}
use lib.ListN.{length}
use borrow.Author.Rules.{rules}
use Rattle.pow2.specs.Power.{height}
use Rattle.stream.specs.Stream.{largest, failed_with}
use Rattle.stream.specs.Parts.{Block}
use Rattle.stream.specs.StreamLaws.{running}
use Rattle.stream.proofs.BlockSizes.{height_low, height_is, height_five, before_few}
use Rattle.stream.proofs.Blocks.{stray_block, clear_block}
use Rattle.stream.proofs.RunningLaws.{taken_from, taken_with}
use Rattle.stream.proofs.Stream.take_block.Goals as goal

pub returns-then-not-no_stray_bits-clause-state_after : goal.returns-then-not-no_stray_bits-clause-state_after
returns-then-not-no_stray_bits-clause-state_after c =
    let s = c.args.self.now in
    let block = c.args.block.now in
    let l : length s.partial ≡ 32 = search rules in
    taken_from s c.requires.no_code.0 block (failed_with 11)
    (stray_block block s.partial s.waiting s.count c.requires.block c.requires.no_code.1 l
    (sym c.no_stray_bits.ensures ∙ c.if-not-no_stray_bits.true))

-- the height that the code works out
height_here : (count n log : ℕ) (b : Block count n) → count + n ≤ largest → log ≡ height n → log - 5 ≡ b.height
height_here count n log b h e = ap (λ (m : ℕ). m - 5) e ∙ height_is count n b h

pub overflow_sub-height : goal.overflow_sub-height
overflow_sub-height c =
    simp c.log2.ensures
    (height_five c.args.self.now.count (length c.args.block.now) c.requires.block c.requires.no_code.1)

pub root_with_last_path-root-requires : goal.root_with_last_path-root-requires
root_with_last_path-root-requires c =
    let s = c.args.self.now in
    let b = c.requires.block in
    let n = length c.args.block.now in
    let l : length s.waiting ≡ 1024 = search rules in
    let h = height_here s.count n c.log2.result b c.requires.no_code.1 c.log2.ensures in (
      b.sized ∙ ap (λ (m : ℕ). 32 * 2 ^ m) (sym h),
      omega (arith, b.sixteen, h),
      omega (arith, h, height_low s.count n b c.requires.no_code.1),
    )

pub add_node-requires : goal.add_node-requires
add_node-requires c =
    let s = c.args.self.now in
    let b = c.requires.block in
    let n = length c.args.block.now in
    let l : length s.waiting ≡ 1024 = search rules in
    let h = height_here s.count n c.log2.result b c.requires.no_code.1 c.log2.ensures in (
      omega (arith, c.root_with_last_path-root.auto.path),
      omega (arith, h, height_low s.count n b c.requires.no_code.1),
      subst (λ (m : ℕ). s.count / n < 2 ^ (31 - m)) (sym h) (before_few s.count n b c.requires.no_code.1),
    )

pub returns-clause-state_after : goal.returns-clause-state_after
returns-clause-state_after c =
    let s = c.args.self.now in
    let block = c.args.block.now in
    let b = c.requires.block in
    let lp : length s.partial ≡ 32 = search rules in
    let lw : length s.waiting ≡ 1024 = search rules in
    let h = height_here s.count (length block) c.log2.result b c.requires.no_code.1 c.log2.ensures in
    let clear = sym c.no_stray_bits.ensures ∙ c.if-not-no_stray_bits.false in
    taken_with s c.requires.no_code.0 block (s.count + length block) c.array_at-self.result c.add_node.new.waiting
    (clear_block block s.partial s.waiting s.count b c.requires.no_code.1 lp lw clear (c.log2.result - 5)
    c.root_with_last_path-root.result c.root_with_last_path-root.new.path c.add_node.new.waiting h
    c.root_with_last_path-root.ensures.0 c.root_with_last_path-root.ensures.1 c.add_node.ensures
    ∙ ap (λ (v : List ℕ). running (s.count + length block) v c.add_node.new.waiting) (sym c.array_at-self.ensures))
