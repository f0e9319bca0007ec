use Rattle.std.proofs.Common.{sym, ap, ◌∙◌, not, ℕ, length, arith}
use Rattle.std.specs.Prelude.{Option}
use Rattle.lent.specs.LentDeal.{LentDeal}
use Rattle.index.specs.Slots.{entry_at, kept_row}
use Rattle.room.specs.Room.{is_missing}
use Rattle.audit.specs.SlotStateLaws.{state_3, state_4, state_5}
use Rattle.audit.proofs.Judged.{few, slot_in, ends, lower_bounded, overlaps_same, found_some, read_kept, read_not_kept}
use Rattle.audit.proofs.standing_state.Goals as goal

pub shared_ref_as_front-lowest_overlap : goal.shared_ref_as_front-lowest_overlap
shared_ref_as_front-lowest_overlap c = omega (arith, few c.requires.gathered.0 c.args.i c.requires.gathered.1)

pub bounds-ranges-i : goal.bounds-ranges-i
bounds-ranges-i c = few c.requires.gathered.0 c.args.i c.requires.gathered.1

pub lowest_overlap-requires : goal.lowest_overlap-requires
lowest_overlap-requires c =
    let g = c.requires.gathered in
    (ends g.0 c.args.i g.1 c.args.i (omega arith), lower_bounded g.0 c.args.i g.1 c.told-ranges)

-- the search among the lower slots
pub returns-then-is_some : goal.returns-then-is_some
returns-then-is_some c =
    let g = c.requires.gathered in
    let overlaps = sym (overlaps_same g.0 c.args.i g.1 c.told-ranges)
    ∙ ap (λ (f : Option ℕ). not (is_missing f)) (sym c.lowest_overlap.ensures)
    ∙ sym (found_some c.lowest_overlap.result)
    ∙ sym c.is_some.ensures
    ∙ c.if-is_some.true in
    sym ((state_3 c.args.deal.now.bytes.now c.args.i).1 (c.requires.place_value.1, overlaps))

pub kept_at-requires : goal.kept_at-requires
kept_at-requires c =
    let g = c.requires.gathered in
    omega (arith, slot_in g.0 c.args.i g.1, c.requires.place_value.0)

-- no lower one overlaps, and the commitment decides
pub returns-in-Some : goal.returns-in-Some
returns-in-Some c =
    let g = c.requires.gathered in
    let bytes = c.args.deal.now.bytes.now in
    let overlaps = sym (overlaps_same g.0 c.args.i g.1 c.told-ranges)
    ∙ ap (λ (f : Option ℕ). not (is_missing f)) (sym c.lowest_overlap.ensures)
    ∙ sym (found_some c.lowest_overlap.result)
    ∙ sym c.is_some.ensures
    ∙ c.if-is_some.false in
    let kept = c.kept_at.ensures
    ∙ ap (λ (x : LentDeal). kept_row x.nodes (length bytes) (entry_at bytes c.args.place)) g.0.alone in
    sym ((state_5 bytes c.args.i).1 (
      read_kept bytes c.args.i c.args.place c.kept_at.result c.requires.place_value.0 kept c.in-Some.field-0
          c.in-Some.is,
      overlaps,
    ))

pub returns-in-None : goal.returns-in-None
returns-in-None c =
    let g = c.requires.gathered in
    let p = c.requires.place_value in
    let bytes = c.args.deal.now.bytes.now in
    let overlaps = sym (overlaps_same g.0 c.args.i g.1 c.told-ranges)
    ∙ ap (λ (f : Option ℕ). not (is_missing f)) (sym c.lowest_overlap.ensures)
    ∙ sym (found_some c.lowest_overlap.result)
    ∙ sym c.is_some.ensures
    ∙ c.if-is_some.false in
    let kept = c.kept_at.ensures
    ∙ ap (λ (x : LentDeal). kept_row x.nodes (length bytes) (entry_at bytes c.args.place)) g.0.alone in
    sym ((state_4 bytes c.args.i).1 (
      p.1,
      overlaps,
      read_not_kept bytes c.args.i c.args.place c.kept_at.result p.0 kept c.in-None.is,
    ))
