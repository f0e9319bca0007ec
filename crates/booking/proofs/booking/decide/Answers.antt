use Rattle.std.proofs.Common.{◌∙◌}
use Rattle.std.specs.Prelude.{option_map}
use Rattle.lent.specs.LentDeal.{lent_of}
use Rattle.booking.proofs.Outcome.{refusal_passed_on, refused_by}
use Rattle.booking.proofs.booking.decide.Goals as goal

pub returns-in_err-deal-clause-answer : goal.returns-in_err-deal-clause-answer
returns-in_err-deal-clause-answer c =
    refusal_passed_on c.from_residual.result c.in_err-deal.field-0.0 c.from_residual.ensures.1
    ∙ refused_by (lent_of c.args.deal.now (option_map (λ t. t.now) c.args.tree)) c.args.table.now c.args.house
    c.args.segment.now c.in_err-deal.field-0.0 c.in_err-deal.ensures.code
