use Rattle.std.proofs.Common.{sym, ◌∙◌, length}
use Rattle.std.specs.Prelude.{option_map}
use Rattle.rules.specs.AnswerLaws.{code_passed_on}
use Rattle.lent.specs.UsableLaws.{usable_size}
use Rattle.index.specs.Slots.{entry_at}
use Rattle.cancel.proofs.Outcome.{read_free, read_stands, house_refused, deal_refused, deal_fits, table_fits}
use Rattle.cancel.proofs.Outcome.{place_refused, place_within, free_refused, other_refused, none_refuses}
use Rattle.cancel.proofs.refusal.Goals as goal
use Rattle.cancel.proofs.refusal.Goals.{then-is_none-via-then-is_none, then-is_none-via-else-is_none+then-not-owns}

pub returns-in_err-refusal : goal.returns-in_err-refusal
returns-in_err-refusal c =
    code_passed_on c.from_residual.result c.in_err-refusal.field-0.0 c.from_residual.ensures.1
    ∙ house_refused _ c.args.table.now c.args.house c.args.place c.in_err-refusal.field-0.0 c.in_err-refusal.ensures

pub returns-in_err-new : goal.returns-in_err-new
returns-in_err-new c =
    code_passed_on c.from_residual-in_err-new.result c.in_err-new.field-0.0 c.from_residual-in_err-new.ensures.1
    ∙ deal_refused _ c.args.table.now c.args.house c.args.place c.in_ok-refusal.ensures c.in_err-new.field-0.0
    c.in_err-new.ensures.code

pub place_allowed-requires : goal.place_allowed-requires
place_allowed-requires c =
    (usable_size (deal_fits _ c.args.table.now c.args.house c.args.place c.in_ok-refusal.ensures
    c.in_ok-new.ensures.code)).allowed

pub returns-then-not-place_allowed : goal.returns-then-not-place_allowed
returns-then-not-place_allowed c =
    place_refused _ c.args.table.now c.args.house c.args.place c.in_ok-refusal.ensures c.in_ok-new.ensures.code
    (sym c.place_allowed.ensures ∙ c.if-not-place_allowed.true)

pub standing_at-requires : goal.standing_at-requires
standing_at-requires c =
    let a = c.args in (
      (deal_fits _ a.table.now a.house a.place c.in_ok-refusal.ensures c.in_ok-new.ensures.code).size_allowed,
      place_within _ a.table.now a.house a.place c.in_ok-refusal.ensures c.in_ok-new.ensures.code
          (sym c.place_allowed.ensures ∙ c.if-not-place_allowed.false),
    )

pub returns-then-is_none : goal.returns-then-is_none
returns-then-is_none c =
    let a = c.args in
    let d = length a.deal.now in
    let entry = entry_at a.deal.now a.place in
    let allowed = sym c.place_allowed.ensures ∙ c.if-not-place_allowed.false in
    elim c.then-is_none.branch [
      | then-is_none-via-then-is_none w ↦ free_refused _ a.table.now a.house a.place c.in_ok-refusal.ensures
          c.in_ok-new.ensures.code allowed
          (read_free d entry c.standing_at.result c.is_none.result c.standing_at.ensures c.is_none.ensures
          w.if-is_none.true)
      | then-is_none-via-else-is_none+then-not-owns w ↦ other_refused _ a.table.now a.house a.place
          c.in_ok-refusal.ensures c.in_ok-new.ensures.code allowed
          (read_stands d entry c.standing_at.result c.is_none.result c.standing_at.ensures c.is_none.ensures
          w.if-is_none.false)
          (sym w.owns.ensures ∙ w.if-not-owns.true)
    ]

pub returns : goal.returns
returns c =
    let a = c.args in
    none_refuses _ a.table.now a.house a.place c.in_ok-refusal.ensures c.in_ok-new.ensures.code
    (sym c.place_allowed.ensures ∙ c.if-not-place_allowed.false)
    (read_stands (length a.deal.now) (entry_at a.deal.now a.place) c.standing_at.result c.is_none.result
    c.standing_at.ensures c.is_none.ensures c.if-is_none.false)
    (sym c.owns.ensures ∙ c.if-not-owns.false)
