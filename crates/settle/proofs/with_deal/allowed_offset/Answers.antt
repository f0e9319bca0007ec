-- The offset itself where it passes the test, else 0, from where on half of the deal lies below its index.
use mathlib.Core.Path.{◌≡◌, refl, sym, ◌∙◌}
use mathlib.Core.Bool.{true, true≢false}
use Prim.Native.Nat.{ℕ, ◌+◌, ◌/◌, ◌%◌, ◌≤◌}
use native.Mathlib.Nat.{zero-mod}
use native.Mathlib.Omega.{arith}
use borrow.Author.Tests.{eq-eqb, le-leb}
use Rattle.sizes.specs.Sizes.{area, index_start, segment_size_allowed, offset_allowed}
use Rattle.sizes.specs.SizesLaws.{DealSize, deal_size_lem, segment_size, index_area}
use Rattle.settle.proofs.with_deal.allowed_offset.Goals as goal

zero_allowed : (d size : ℕ) → DealSize d → segment_size_allowed d size ≡ true → offset_allowed d 0 size ≡ true
unfolding offset_allowed
zero_allowed d size t e =
    let half : area size ≤ d / 2 = (segment_size d size t e).area_half in
    let start : d / 2 ≤ index_start d = (index_area d t).start_half in
    rw (eq-eqb (0 % area size) 0 (zero-mod (area size)), le-leb (0 + area size) (index_start d) (omega arith))

pub returns-then-offset_allowed : goal.returns-then-offset_allowed
returns-then-offset_allowed c = (sym c.offset_allowed.ensures ∙ c.if-offset_allowed.true, λ h. refl)

pub returns : goal.returns
returns c =
    let d = c.args.d in (
      zero_allowed d c.args.size (deal_size_lem d c.requires.0) c.requires.1,
      λ h. absurd (true≢false (sym h ∙ sym c.offset_allowed.ensures ∙ c.if-offset_allowed.false)),
    )
