-- The line at the front of a log, by the field that stands there.
use Rattle.std.specs.Prelude.{◌≡◌, ℕ, ◌+◌, ◌-◌, ◌≤◌, List, length, take, drop}
use Rattle.std.proofs.Common.{sym, ap, ap₂, ◌∙◌, arith, eqb-true, eq-eqb, ne_eqb, take_all, length-drop}
use Rattle.octets.specs.Splice.{part}
use Rattle.fields.specs.FieldAt.{field_for, Content, Refused}
use Rattle.fields.specs.FieldAtLaws.{IsField, is_field}
use Rattle.clerk_log.specs.Log.{booking_field, cancelling_field, booking_in, cancelling_in, first, no_line, first_line}
use Rattle.clerk_log.specs.LineAt.{line_field}
use Rattle.clerk_log.specs.LineAtLaws.{first_at, line_at}
use Rattle.clerk_log.specs.declared.Line.TheVariants.{Booking as booking, Cancelling as cancelling}
use Rattle.clerk_log.specs.declared.BookingLine.{BookingLine}
use Rattle.clerk_log.specs.declared.CancellingLine.{CancellingLine}

-- n bytes of content end where the next line starts, within the log
pub record Lies (log : List ℕ) (start next n : ℕ) : Type 0 where
  pub ends : next ≡ start + n
  pub within : next ≤ length log

module _ (log : List ℕ) where
  by_field : first_line log ≡ first_at log (line_field log 0)
  by_field = line_at log 0

  -- the log after a line
  rest_is : (next : ℕ) → take (length log - next) (drop next log) ≡ drop next log
  rest_is next = take_all (length log - next) (drop next log) (omega (arith, length-drop next log))

  module _ (tag start n next : ℕ) (e : line_field log 0 ≡ Content tag start n next) where
    -- one for a booking
    pub booking_first : tag ≡ 1 → (line : BookingLine) → line ≡ booking_in (part log start 58)
        → first (booking line) (take (length log - next) (drop next log)) ≡ first_line log
    booking_first t line read =
        rw (by_field, e, eq-eqb tag 1 t)
        (ap₂ (λ (l : BookingLine) (rest : List ℕ). first (booking l) rest) read (rest_is next))

    -- or one for a cancellation
    pub cancelling_first : (tag ≡ 1 → ⊥) → (line : CancellingLine) → line ≡ cancelling_in (part log start 10)
        → first (cancelling line) (take (length log - next) (drop next log)) ≡ first_line log
    cancelling_first t line read =
        rw (by_field, e, ne_eqb tag 1 t)
        (ap₂ (λ (l : CancellingLine) (rest : List ℕ). first (cancelling l) rest) read (rest_is next))

  -- where the content of each kind of line lies
  module _ (tag start n next : ℕ) where
    module _ (e : field_for booking_field log 0 ≡ Content tag start n next) where
      is_booking : IsField booking_field log 0 tag start n next
      is_booking = is_field booking_field log 0 tag start n next e

      is_58 : n ≡ 58
      is_58 = eqb-true n 58 is_booking.length_allowed_lem

      pub booking_lies : Lies log start next 58
      booking_lies = record { ends = omega (arith, is_58, is_booking.next_is); within = is_booking.within }

    module _ (none : field_for booking_field log 0 ≡ Refused)
        (e : field_for cancelling_field log 0 ≡ Content tag start n next) where
      is_cancelling : IsField cancelling_field log 0 tag start n next
      is_cancelling = is_field cancelling_field log 0 tag start n next e

      is_10 : n ≡ 10
      is_10 = eqb-true n 10 is_cancelling.length_allowed_lem

      pub cancelling_lies : Lies log start next 10
      cancelling_lies = record { ends = omega (arith, is_10, is_cancelling.next_is); within = is_cancelling.within }

  -- or none
  pub none_first : line_field log 0 ≡ Refused → no_line ≡ first_line log
  none_first e = sym (by_field ∙ ap (first_at log) e)
