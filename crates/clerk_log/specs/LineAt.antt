-- Lines of a log by their places, and what the reading of the first one gives.
use Rattle.std.specs.Prelude.{Bool, true, false, ℕ, List, Option, Some, None, eqb}
use Rattle.std.specs.Borrow.{Bor}
use Rattle.rules.specs.Choice.{choose}
use Rattle.octets.specs.Splice.{part}
use Rattle.fields.specs.FieldAt.{field_for}
use Rattle.fields.specs.FieldAt.{Field}
use Rattle.fields.specs.FieldAt.{Content, Refused}
use Rattle.clerk_log.specs.Log.{booking_field, cancelling_field, booking_in, cancelling_in}
use Rattle.clerk_log.specs.declared.Line.{Line}
use Rattle.clerk_log.specs.declared.Line.TheVariants.{Booking as booking, Cancelling as cancelling}
use Rattle.clerk_log.specs.Log.{FirstLine, first, no_line, Lines, lines, malformed}

-- the field of a line: that of a booking, else that of a cancellation
abbrev pub or_field : Field → Field → Field
or_field (Content tag start n next) other = Content tag start n next
or_field Refused other = other

unfoldable pub line_field : List ℕ → ℕ → Field
line_field log at = or_field (field_for booking_field log at) (field_for cancelling_field log at)

-- the line of a field with a tag and a content that starts at a place
abbrev pub line_of : List ℕ → ℕ → ℕ → Line
line_of log tag start =
    choose (eqb tag 1) (booking (booking_in (part log start 58))) (cancelling (cancelling_in (part log start 10)))

-- a log, which is not malformed
abbrev pub is_log : Lines → Bool
is_log (lines ls) = true
is_log malformed = false

-- the line that was read at the front of a log, and the log after it
abbrev pub first_seen : Option (Line × Bor (List ℕ)) → FirstLine
first_seen (Some p) = first p.0 p.1.now
first_seen None = no_line
