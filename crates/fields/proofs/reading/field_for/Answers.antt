-- The field that was read, held against the row.
use Rattle.std.proofs.Common.{sym, ap, ◌∙◌}
use Rattle.rules.specs.AnswerLaws.{passed_on}
use Rattle.fields.specs.FieldAt.{field_code}
use Rattle.fields.specs.FieldAtLaws.{field_code_lem}
use Rattle.fields.proofs.FieldCases.{none_there, other_tag, other_length, asked_for}
use Rattle.fields.proofs.reading.field_for.Goals as goal
use Rattle.fields.proofs.reading.field_for.Goals.{then-field-row-via-then-field-row, then-field-row-via-else-field-row+then-not-length_allowed}

pub returns-in_err-field : goal.returns-in_err-field
returns-in_err-field c =
    let a = c.args in
    let e = c.in_err-field.ensures in
    let none = none_there a.row a.bytes.now a.place (sym e.0) in
    rw (passed_on c.from_residual.result c.in_err-field.field-0.0 c.from_residual.ensures.1)
    (none.0, e.1 ∙ sym (field_code_lem a.bytes.now a.place) ∙ ap field_code (sym e.0) ∙ none.1)

pub returns-then-field-row : goal.returns-then-field-row
returns-then-field-row c =
    let a = c.args in
    let e = sym c.in_ok-field.ensures.0 in
    elim c.then-field-row.branch [
      | then-field-row-via-then-field-row w ↦ other_tag a.row a.bytes.now a.place e w.if-field-row.true
      | then-field-row-via-else-field-row+then-not-length_allowed w ↦
          other_length a.row a.bytes.now a.place e w.if-field-row.false (sym w.length_allowed.ensures ∙ w.if-not-length_allowed.true)
    ]

pub returns : goal.returns
returns c =
    let a = c.args in
    asked_for a.row a.bytes.now a.place (sym c.in_ok-field.ensures.0) c.if-field-row.false
    (sym c.length_allowed.ensures ∙ c.if-not-length_allowed.false)
