-- The code alone is compared; with code 0 the row is one of the index, and goes.
use Rattle.std.specs.Prelude.{◌≡◌, true, ℕ, set, eqb}
use Rattle.std.proofs.Common.{sym, ap₂, ◌∙◌, eq-eqb, ne_eqb}
use Rattle.clerk_log.specs.declared.Line.TheVariants.{Cancelling as cancelling}
use Rattle.playback.specs.declared.LedgerRow.{LedgerRow}
use Rattle.playback.specs.Ledger.{ledger_cancel_code}
use Rattle.playback.proofs.CancelCode.{done_allowed, after_refused, after_done}
use Rattle.playback.proofs.SlotRow.{slot_below}
use Rattle.playback.proofs.PlayedLine.{outcome_other, left_other, outcome_same, left_same, ruled_code, confirms_code}
use Rattle.playback.proofs.ledger.Ledger.cancel.Goals as goal

pub returns-then-code-line-clause-answer : goal.returns-then-code-line-clause-answer
returns-then-code-line-clause-answer c =
    let l = c.args.self.now in
    let line = c.args.line.now in
    let code = c.code_of-code.result in
    let is : code ≡ ledger_cancel_code l.size l.rows line = c.code_of-code.ensures ∙ c.cancelling.ensures in
    outcome_other l.size l.rows (cancelling line) _ (ruled_code l.size l.rows line code is)
    (confirms_code l.size l.rows line code is ∙ ne_eqb code line.code c.if-code-line.true)

pub returns-then-code-line-clause-rows : goal.returns-then-code-line-clause-rows
returns-then-code-line-clause-rows c =
    let l = c.args.self.now in
    let line = c.args.line.now in
    let code = c.code_of-code.result in
    let is : code ≡ ledger_cancel_code l.size l.rows line = c.code_of-code.ensures ∙ c.cancelling.ensures in
    left_other l.size l.rows (cancelling line)
    (confirms_code l.size l.rows line code is ∙ ne_eqb code line.code c.if-code-line.true)

pub slot_at-requires : goal.slot_at-requires
slot_at-requires c =
    let l = c.args.self.now in
    let line = c.args.line.now in
    let is : c.code_of-code.result ≡ ledger_cancel_code l.size l.rows line =
    c.code_of-code.ensures ∙ c.cancelling.ensures in
    (l.size_allowed, done_allowed l.size l.rows line (sym is ∙ c.if-code-eq0.true))

pub bounds-self-slot_at : goal.bounds-self-slot_at
bounds-self-slot_at c =
    let l = c.args.self.now in
    let line = c.args.line.now in
    let is : c.code_of-code.result ≡ ledger_cancel_code l.size l.rows line =
    c.code_of-code.ensures ∙ c.cancelling.ensures in
    slot_below l.size line.place c.slot_at.result l.size_allowed
    (done_allowed l.size l.rows line (sym is ∙ c.if-code-eq0.true)) c.slot_at.ensures

pub returns-then-code-eq0-clause-answer : goal.returns-then-code-eq0-clause-answer
returns-then-code-eq0-clause-answer c =
    let l = c.args.self.now in
    let line = c.args.line.now in
    let code = c.code_of-code.result in
    let is : code ≡ ledger_cancel_code l.size l.rows line = c.code_of-code.ensures ∙ c.cancelling.ensures in
    outcome_same l.size l.rows (cancelling line)
    (confirms_code l.size l.rows line code is ∙ eq-eqb code line.code c.if-code-line.false)

pub returns-then-code-eq0-clause-rows : goal.returns-then-code-eq0-clause-rows
returns-then-code-eq0-clause-rows c =
    let l = c.args.self.now in
    let line = c.args.line.now in
    let code = c.code_of-code.result in
    let is : code ≡ ledger_cancel_code l.size l.rows line = c.code_of-code.ensures ∙ c.cancelling.ensures in
    left_same l.size l.rows (cancelling line) _
    (ap₂ (λ (i : ℕ) (row : LedgerRow). set l.rows i row) c.slot_at.ensures c.vacant.ensures
    ∙ after_done l.size l.rows line (sym is ∙ c.if-code-eq0.true))
    (confirms_code l.size l.rows line code is ∙ eq-eqb code line.code c.if-code-line.false)

pub returns-else-code-eq0-clause-answer : goal.returns-else-code-eq0-clause-answer
returns-else-code-eq0-clause-answer c =
    let l = c.args.self.now in
    let line = c.args.line.now in
    let code = c.code_of-code.result in
    let is : code ≡ ledger_cancel_code l.size l.rows line = c.code_of-code.ensures ∙ c.cancelling.ensures in
    outcome_same l.size l.rows (cancelling line)
    (confirms_code l.size l.rows line code is ∙ eq-eqb code line.code c.if-code-line.false)

pub returns-else-code-eq0-clause-rows : goal.returns-else-code-eq0-clause-rows
returns-else-code-eq0-clause-rows c =
    let l = c.args.self.now in
    let line = c.args.line.now in
    let code = c.code_of-code.result in
    let is : code ≡ ledger_cancel_code l.size l.rows line = c.code_of-code.ensures ∙ c.cancelling.ensures in
    left_same l.size l.rows (cancelling line) l.rows
    (after_refused l.size l.rows line (λ e. c.if-code-eq0.false (is ∙ e)))
    (confirms_code l.size l.rows line code is ∙ eq-eqb code line.code c.if-code-line.false)
