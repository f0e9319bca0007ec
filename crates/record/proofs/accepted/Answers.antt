-- The refusals 1 to 3, then the judgement over the fields where the record has them.
use mathlib.Core.Path.{sym, ◌∙◌}
use Rattle.rules.specs.AnswerLaws.{code_passed_on}
use Rattle.record.proofs.Tests.{passed, failed}
use Rattle.record.proofs.CheckCases.{wrong_commitment, wrong_deal_size, malformed, well_formed_lem}
use Rattle.record.proofs.accepted.Goals as goal

pub returns-then-commitment-ne32-clause-code : goal.returns-then-commitment-ne32-clause-code
returns-then-commitment-ne32-clause-code c = let a = c.args in
    wrong_commitment a.commitment.now a.size a.number a.record.now c.if-commitment-ne32.true

pub returns-then-not-deal_size_allowed-clause-code : goal.returns-then-not-deal_size_allowed-clause-code
returns-then-not-deal_size_allowed-clause-code c =
    let a = c.args in
    wrong_deal_size a.commitment.now a.size a.number a.record.now c.if-commitment-ne32.false
    (failed c.deal_size_allowed.ensures c.if-not-deal_size_allowed.true)

pub returns-in_default-clause-code : goal.returns-in_default-clause-code
returns-in_default-clause-code c =
    let a = c.args in
    malformed a.commitment.now a.size a.number a.record.now c.if-commitment-ne32.false
    (passed c.deal_size_allowed.ensures c.if-not-deal_size_allowed.false) c.in_default.ensures.contents

pub judge-requires : goal.judge-requires
judge-requires c = passed c.deal_size_allowed.ensures c.if-not-deal_size_allowed.false

pub returns-clause-code : goal.returns-clause-code
returns-clause-code c =
    let a = c.args in
    well_formed_lem a.commitment.now a.size a.number a.record.now c.if-commitment-ne32.false
    (passed c.deal_size_allowed.ensures c.if-not-deal_size_allowed.false) c.in-Ok.ensures.contents c.in_ok-judge.ensures

pub returns-in_err-judge-clause-code : goal.returns-in_err-judge-clause-code
returns-in_err-judge-clause-code c =
    let a = c.args in
    well_formed_lem a.commitment.now a.size a.number a.record.now c.if-commitment-ne32.false
    (passed c.deal_size_allowed.ensures c.if-not-deal_size_allowed.false) c.in-Ok.ensures.contents
    (code_passed_on _ _ c.from_residual.ensures.1 ∙ c.in_err-judge.ensures)

pub returns-clause-fields : goal.returns-clause-fields
returns-clause-fields c = sym c.in-Ok.ensures.contents
