-- The size itself where it passes the test, else 1.
use mathlib.Core.Path.{◌≡◌, refl, sym, ◌∙◌}
use mathlib.Core.Bool.{true, true≢false}
use Prim.Native.Nat.{ℕ, ◌/◌, ◌≤◌}
use native.Mathlib.Omega.{arith}
use borrow.Author.Tests.{le-leb}
use Rattle.sizes.specs.Sizes.{segment_size_allowed}
use Rattle.sizes.specs.SizesLaws.{DealSize, deal_size_lem}
use Rattle.settle.proofs.with_deal.allowed_size.Goals as goal

one_allowed : (d : ℕ) → DealSize d → segment_size_allowed d 1 ≡ true
unfolding segment_size_allowed
one_allowed d t =
    let l : 512 ≤ d = t.size_low in
    rw (le-leb 1 1 (omega arith), le-leb 1 (d / 2) (omega arith))

pub returns-then-segment_size_allowed : goal.returns-then-segment_size_allowed
returns-then-segment_size_allowed c = (sym c.segment_size_allowed.ensures ∙ c.if-segment_size_allowed.true, λ h. refl)

pub returns : goal.returns
returns c = (
  one_allowed c.args.d (deal_size_lem c.args.d c.requires),
  λ h. absurd (true≢false (sym h ∙ sym c.segment_size_allowed.ensures ∙ c.if-segment_size_allowed.false)),
)
