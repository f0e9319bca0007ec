-- The field of a booking where it is there, else that of a cancellation.
use Rattle.std.specs.Prelude.{refl}
use Rattle.std.proofs.Common.{sym, ap, ◌∙◌}
use Rattle.fields.specs.FieldAt.{field_answer}
use Rattle.fields.specs.FieldAtLaws.{row_code_lem}
use Rattle.clerk_log.specs.Log.{cancelling_field}
use Rattle.clerk_log.specs.LineAt.{line_field}
use Rattle.clerk_log.proofs.reading.line_field.Goals as goal

pub returns-in-Ok : goal.returns-in-Ok
unfolding line_field
returns-in-Ok c = rw (sym c.in-Ok.ensures.0) (refl, refl)

pub returns : goal.returns
unfolding line_field
returns c =
    let e = c.field_for.ensures in
    rw (sym e.0 ∙ ap field_answer c.in_default.is) (
      c.field_for-2.ensures.0,
      c.field_for-2.ensures.1 ∙ sym (row_code_lem cancelling_field c.args.log.now c.args.at),
    )
