use mathlib.Core.Path.{◌≡◌, ap₂, ◌∙◌}
use mathlib.Core.Bool.{true}
use Prim.Native.Nat.{ℕ}
use native.Mathlib.Omega.{arith}
use Rattle.sizes.specs.Sizes.{segment_size_allowed, offset_allowed}
use Rattle.sizes.specs.SizesLaws.{SegmentSize, SegmentPlace, segment_size, segment_place}
use Rattle.paths.specs.DealStartsLaws.{segment_in}
use Rattle.lent.specs.LentDeal.{LentDeal, deal_size}
use Rattle.lent.specs.Seen.{seen}
use Rattle.lent.specs.Usable.{Usable}
use Rattle.lent.specs.UsableLaws.{usable_size}
use Rattle.index.proofs.slots.segment_node.Goals as goal

-- size and place of the segment
sized : {deal : LentDeal} (size : ℕ) → Usable deal → segment_size_allowed (deal_size deal) size ≡ true
    → SegmentSize (deal_size deal) size
sized {deal = deal} size u e = segment_size (deal_size deal) size (usable_size u).deal e

placed : {deal : LentDeal} (offset size : ℕ) → Usable deal → segment_size_allowed (deal_size deal) size ≡ true
    → offset_allowed (deal_size deal) offset size ≡ true → SegmentPlace (deal_size deal) offset size
placed {deal = deal} offset size u e f =
    segment_place (deal_size deal) offset size (usable_size u).deal (sized size u e) f

pub segment_level-level-requires : goal.segment_level-level-requires
segment_level-level-requires c = (sized c.args.size c.args.deal.now.usable c.requires.size_allowed).level_low

pub deal_level-requires : goal.deal_level-requires
deal_level-requires c = (usable_size c.args.deal.now.usable).allowed

pub overflow_sub-levels : goal.overflow_sub-levels
overflow_sub-levels c = omega (arith, (sized c.args.size c.args.deal.now.usable c.requires.size_allowed).below_deal)

pub segment_position-position-requires : goal.segment_position-position-requires
segment_position-position-requires c =
    omega (arith, (sized c.args.size c.args.deal.now.usable c.requires.size_allowed).area_low)

pub node_in-requires : goal.node_in-requires
node_in-requires c =
    let r = c.requires in
    let usable = c.args.deal.now.usable in
    simp (c.segment_level-level.ensures, c.deal_level.ensures, c.segment_position-position.ensures)
    (segment_in (sized c.args.size usable r.size_allowed)
    (placed c.args.offset c.args.size usable r.size_allowed r.offset_allowed))

pub returns : goal.returns
returns c =
    let nodes = (seen c.args.deal.now).nodes in
    c.node_in.ensures ∙ ap₂ nodes c.segment_level-level.ensures c.segment_position-position.ensures
