use Rattle.std.proofs.Common.{sym, ap, ◌∙◌, Bool}
use Rattle.std.specs.Prelude.{option_map}
use Rattle.rules.specs.Answers.{number}
use Rattle.rules.specs.AnswerLaws.{code_passed_on, number_some}
use Rattle.rules.specs.Refusals.{first_of}
use Rattle.lent.specs.LentDeal.{lent_of}
use Rattle.booking.proofs.FirstRefusal.{size_fits, by_alone, by_11, by_tree}
use Rattle.booking.proofs.refusing.open.Goals as goal

pub returns-in_err-new-clause-code : goal.returns-in_err-new-clause-code
returns-in_err-new-clause-code c =
    code_passed_on c.from_residual-in_err-new.result c.in_err-new.field-0.0 c.from_residual-in_err-new.ensures.1
    ∙ by_alone (lent_of c.args.deal.now (option_map (λ t. t.now) c.args.tree)) c.args.table.now c.args.house
    c.args.segment.now (sym c.in_ok-refusal.ensures)
    (sym c.segment_size_allowed.ensures ∙ c.if-not-segment_size_allowed.false)
    (number c.in_err-new.field-0.0) (number_some c.in_err-new.field-0.0) c.in_err-new.ensures.code

pub returns-then-not-no_stray_bits-clause-code : goal.returns-then-not-no_stray_bits-clause-code
returns-then-not-no_stray_bits-clause-code c =
    by_11 (lent_of c.args.deal.now (option_map (λ t. t.now) c.args.tree)) c.args.table.now c.args.house
    c.args.segment.now (sym c.in_ok-refusal.ensures)
    (sym c.segment_size_allowed.ensures ∙ c.if-not-segment_size_allowed.false)
    (sym c.no_stray_bits.ensures ∙ c.if-not-no_stray_bits.true)

pub tree_sized-requires : goal.tree_sized-requires
tree_sized-requires c =
    size_fits (lent_of c.args.deal.now (option_map (λ t. t.now) c.args.tree)) c.args.table.now c.args.house
    c.args.segment.now (sym c.in_ok-refusal.ensures)

pub returns-then-not-tree_sized-clause-code : goal.returns-then-not-tree_sized-clause-code
returns-then-not-tree_sized-clause-code c =
    ap (λ (x : Bool). first_of x 12 0) (sym c.if-not-tree_sized.true ∙ c.tree_sized.ensures)
    ∙ by_tree (lent_of c.args.deal.now (option_map (λ t. t.now) c.args.tree)) c.args.table.now c.args.house
    c.args.segment.now (sym c.in_ok-refusal.ensures)
    (sym c.segment_size_allowed.ensures ∙ c.if-not-segment_size_allowed.false)
    c.in_ok-new.ensures.code
    (sym c.no_stray_bits.ensures ∙ c.if-not-no_stray_bits.false)

pub returns-clause-code : goal.returns-clause-code
returns-clause-code c =
    ap (λ (x : Bool). first_of x 12 0) (sym c.if-not-tree_sized.false ∙ c.tree_sized.ensures)
    ∙ by_tree (lent_of c.args.deal.now (option_map (λ t. t.now) c.args.tree)) c.args.table.now c.args.house
    c.args.segment.now (sym c.in_ok-refusal.ensures)
    (sym c.segment_size_allowed.ensures ∙ c.if-not-segment_size_allowed.false)
    c.in_ok-new.ensures.code
    (sym c.no_stray_bits.ensures ∙ c.if-not-no_stray_bits.false)
