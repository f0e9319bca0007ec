-- The place itself where it passes the test, else the place of slot 0.
use mathlib.Core.Path.{refl, sym, ap, ◌∙◌}
use mathlib.Core.Bool.{true≢false}
use Prim.Native.Nat.{ℕ, ◌≤◌, ◌<◌}
use native.Mathlib.Omega.{arith}
use Rattle.sizes.specs.Sizes.{entry_count, place_allowed}
use Rattle.sizes.specs.SizesLaws.{DealSize, deal_size_lem, index_area, slot_allowed}
use Rattle.settle.proofs.with_deal.allowed_place.Goals as goal

-- there is a slot 0
some_slot : (d : ℕ) → DealSize d → 0 < entry_count d
some_slot d t = let n : 4 ≤ entry_count d = (index_area d t).count_low in omega arith

pub slot_place-first-requires : goal.slot_place-first-requires
slot_place-first-requires c = (c.requires, some_slot c.args.size (deal_size_lem c.args.size c.requires))

pub returns-then-place_allowed : goal.returns-then-place_allowed
returns-then-place_allowed c = (sym c.place_allowed.ensures ∙ c.if-place_allowed.true, λ h. refl)

pub returns : goal.returns
returns c =
    let d = c.args.size in
    let t = deal_size_lem d c.requires in (
      ap (place_allowed d) c.slot_place-first.ensures ∙ slot_allowed d 0 t (some_slot d t),
      λ h. absurd (true≢false (sym h ∙ sym c.place_allowed.ensures ∙ c.if-place_allowed.false)),
    )
