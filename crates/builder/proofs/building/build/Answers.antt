-- The deal's refusal, or else what building over it answers.
use mathlib.Core.Path.{ap, ◌∙◌}
use native.Mathlib.Omega.{arith}
use Rattle.rules.specs.AnswerLaws.{passed_on, number_some}
use Rattle.lent.specs.LentDeal.{LentDeal, lent_deal}
use Rattle.builder.specs.Build.{length_answer, build_answer, build_output}
use Rattle.builder.proofs.Answers.{Asked, deal_refused}
use Rattle.builder.proofs.building.build.Goals as goal

pub returns-in_err-new : goal.returns-in_err-new
returns-in_err-new c =
    let a = c.args in
    let asked : Asked = record { deal = lent_deal a.deal.now; number = a.number; place = a.place; out = a.out.now } in
    deal_refused asked (ap length_answer (passed_on _ _ c.from_residual.ensures.1)) c.in_err-new.ensures.code
    (λ z. let s = number_some c.in_err-new.field-0.0 in absurd (omega arith))

pub returns : goal.returns
returns c =
    let a = c.args in
    let e = c.in_ok-new.ensures.deal in (
      c.build_in.ensures.0 ∙ ap (λ (deal : LentDeal). build_answer deal a.number a.place a.out.now) e,
      c.build_in.ensures.1 ∙ ap (λ (deal : LentDeal). build_output deal a.number a.place a.out.now) e,
    )
