-- The clerks' log (document 02, request (xii)): "a log in our tagged fields. Tag 1, length 58: house, commitment 32,
-- T 8, code 1, offset 8, place 8, for bookings answered 0, 13, 14, 15 or 22. Tag 2, length 10: house, place 8, code 1,
-- for cancellations answered 0 or 16. A house is one byte."
use Rattle.std.specs.Prelude.{Bool, ◌&&◌, ◌||◌, ℕ, zero, suc, List, [], ◌∷◌, ◌++◌, length, get_or, eqb}
use Rattle.rules.specs.Choice.{choose}
use Rattle.octets.specs.LittleEndian.{number_of, bytes_of}
use Rattle.octets.specs.Splice.{part}
use Rattle.sizes.specs.Sizes.{segment_size_allowed}
use Rattle.fields.specs.Table.{field_rule, Taken, taken, refused, take_field, put_field}
use Rattle.fields.specs.declared.LengthRule.TheVariants.{Exactly}
use Rattle.fields.specs.declared.FieldRule.{FieldRule}
use Rattle.houses.specs.Houses.{house_allowed}
use Rattle.clerk_log.specs.declared.BookingLine.{BookingLine}
use Rattle.clerk_log.specs.declared.CancellingLine.{CancellingLine}
-- a line: one for a booking, or one for a cancellation
use Rattle.clerk_log.specs.declared.Line.{Line}
use Rattle.clerk_log.specs.declared.Line.TheVariants.{Booking as booking, Cancelling as cancelling}

-- the two rows of the log's table
abbrev pub booking_field : FieldRule
booking_field = field_rule 1 (Exactly 58)

abbrev pub cancelling_field : FieldRule
cancelling_field = field_rule 2 (Exactly 10)

-- house, commitment, T, code, offset, place
abbrev pub booking_in : List ℕ → BookingLine
booking_in content =
    record {
      house = get_or content 0 0;
      commitment = part content 1 32;
      size = number_of (part content 33 8);
      answer = record {
        code = get_or content 41 0;
        offset = number_of (part content 42 8);
        place = number_of (part content 50 8);
      };
    }

-- house, place, code
abbrev pub cancelling_in : List ℕ → CancellingLine
cancelling_in content =
    record { house = get_or content 0 0; place = number_of (part content 1 8); code = get_or content 9 0 }

-- the line at the front of a log, and what comes after it
pub data FirstLine : Type 0 where
  first : Line → List ℕ → FirstLine
  no_line : FirstLine

abbrev pub or_else : Taken → (List ℕ → Line) → FirstLine → FirstLine
or_else (taken content rest) line other = first (line content) rest
or_else refused line other = other

unfoldable pub first_line : List ℕ → FirstLine
first_line log =
    or_else (take_field booking_field log) (λ content. booking (booking_in content))
    (or_else (take_field cancelling_field log) (λ content. cancelling (cancelling_in content)) no_line)

-- the codes of the bookings and of the cancellations that get a line
abbrev pub booking_logged : ℕ → Bool
booking_logged code = eqb code 0 || (eqb code 13 || (eqb code 14 || (eqb code 15 || eqb code 22)))

abbrev pub cancelling_logged : ℕ → Bool
cancelling_logged code = eqb code 0 || eqb code 16

-- "a house other than 1 or 2, a T not allowed for D, or a code not listed for its tag make it malformed"
abbrev pub booking_allowed : ℕ → BookingLine → Bool
booking_allowed d line =
    house_allowed line.house && (segment_size_allowed d line.size && booking_logged line.answer.code)

abbrev pub cancelling_allowed : CancellingLine → Bool
cancelling_allowed line = house_allowed line.house && cancelling_logged line.code

abbrev pub line_allowed : ℕ → Line → Bool
line_allowed d (booking line) = booking_allowed d line
line_allowed d (cancelling line) = cancelling_allowed line

-- the lines of a log, or that it is malformed
pub data Lines : Type 0 where
  lines : List Line → Lines
  malformed : Lines

abbrev pub add_line : Line → Lines → Lines
add_line line (lines later) = lines (line ∷ later)
add_line line malformed = malformed

abbrev pub on_first : ℕ → FirstLine → (List ℕ → Lines) → Lines
on_first d (first line rest) later = choose (line_allowed d line) (add_line line (later rest)) malformed
on_first d no_line later = malformed

-- "the whole log is read before any line is played". A line takes up bytes, so a log of n bytes has at most n lines
unfoldable pub lines_within : ℕ → ℕ → List ℕ → Lines
lines_within d zero log = choose (eqb (length log) 0) (lines []) malformed
lines_within d (suc n) log = choose (eqb (length log) 0) (lines []) (on_first d (first_line log) (lines_within d n))

abbrev pub log_lines : ℕ → List ℕ → Lines
log_lines d log = lines_within d (length log) log

-- the bytes of a line, and of lines one behind another
abbrev pub booking_content : BookingLine → List ℕ
booking_content line =
    line.house ∷ (line.commitment ++ (bytes_of 8 line.size
    ++ (line.answer.code ∷ (bytes_of 8 line.answer.offset ++ bytes_of 8 line.answer.place))))

abbrev pub cancelling_content : CancellingLine → List ℕ
cancelling_content line = line.house ∷ (bytes_of 8 line.place ++ (line.code ∷ []))

abbrev pub put_line : Line → List ℕ → List ℕ
put_line (booking line) rest = put_field 1 (booking_content line) rest
put_line (cancelling line) rest = put_field 2 (cancelling_content line) rest

unfoldable pub log_of : List Line → List ℕ
log_of [] = []
log_of (line ∷ later) = put_line line (log_of later)
