use Rattle.std.proofs.Common.{sym, ap, ◌∙◌, arith}
use Rattle.std.specs.Prelude.{◌<◌}
use Rattle.rules.specs.Answers.{number}
use Rattle.rules.specs.AnswerLaws.{number_some, answer_passed_on}
use Rattle.lent.specs.LentDeal.{LentDeal, lent_deal}
use Rattle.lent.specs.LentDealLaws.{refusal_none}
use Rattle.index.specs.Find.{refused, found_in, lowest_with_commitment}
use Rattle.index.specs.FindLaws.{commitment_refused, deal_refused, searched_is}
use Rattle.index.proofs.finding.find_numbers.Goals as goal

pub returns-then-commitment-ne32 : goal.returns-then-commitment-ne32
returns-then-commitment-ne32 c =
    commitment_refused (lent_deal c.args.deal.now) c.args.commitment.now c.if-commitment-ne32.true

pub returns-in_err-lent : goal.returns-in_err-lent
returns-in_err-lent c =
    let refusal = c.in_err-lent.field-0.0 in
    let some : 0 < number refusal = number_some refusal in
    answer_passed_on c.from_residual.result refusal _ refused c.from_residual.ensures.1
    ∙ deal_refused (lent_deal c.args.deal.now) c.args.commitment.now c.if-commitment-ne32.false (number refusal)
    c.in_err-lent.ensures.code (omega arith)

pub returns : goal.returns
returns c =
    let deal = c.args.deal.now in
    let commitment = c.args.commitment.now in
    let fine = refusal_none (lent_deal deal) (sym c.in_ok-lent.ensures.code) in
    c.lowest_with_commitment.ensures
    ∙ ap (λ (d : LentDeal). found_in d.bytes (lowest_with_commitment d commitment)) c.in_ok-lent.ensures.deal
    ∙ sym (searched_is (lent_deal deal) commitment
    (record {
      commitment_length = c.if-commitment-ne32.false;
      size_allowed = fine.0;
      clear = fine.1;
      tree_sized_lem = fine.2;
    }))
