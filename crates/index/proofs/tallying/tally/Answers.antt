use Rattle.std.specs.Prelude.{[], ◌<◌}
use Rattle.std.proofs.Common.{sym, ap, ◌∙◌, arith}
use Rattle.rules.specs.Answers.{number}
use Rattle.rules.specs.AnswerLaws.{number_some, answer_passed_on}
use Rattle.lent.specs.LentDeal.{LentDeal, lent_deal}
use Rattle.lent.specs.LentDealLaws.{refused_answer, passed_answer}
use Rattle.index.specs.Tally.{refused, counts_of, tally_answer}
use Rattle.index.proofs.tallying.tally.Goals as goal

pub returns-in_err-new : goal.returns-in_err-new
unfolding tally_answer
returns-in_err-new c =
    let deal = c.args.deal.now in
    let refusal = c.in_err-new.field-0.0 in
    let some : 0 < number refusal = number_some refusal in
    answer_passed_on c.from_residual.result refusal _ refused c.from_residual.ensures.1
    ∙ refused_answer (lent_deal deal) [] refused (counts_of deal) (number refusal) c.in_err-new.ensures.code
    (omega arith)

pub returns : goal.returns
unfolding tally_answer
returns c =
    let deal = c.args.deal.now in
    c.counts_of.ensures
    ∙ ap (λ (d : LentDeal). counts_of d.bytes) c.in_ok-new.ensures.deal
    ∙ passed_answer (lent_deal deal) [] refused (counts_of deal) (sym c.in_ok-new.ensures.code)
