-- A log that was written is read as its lines.
use Rattle.std.specs.Prelude.{◌≡◌, refl, ℕ, ◌+◌, ◌^◌, ◌<◌, List, [], ◌∷◌, ◌++◌, length, take, drop, get_or}
use Rattle.std.proofs.Common.{sym, ◌∙◌, arith, append_assoc, append-nil, length-append, drop_at, drop-drop}
use Rattle.std.proofs.Common.{get_or-drop, eq-eqb}
use Rattle.std.proofs.Math.Path.{ap}
use Rattle.std.proofs.Math.Seq.{take_at}
use Rattle.octets.specs.LittleEndian.{number_of, bytes_of}
use Rattle.octets.specs.LittleEndianLaws.{length_bytes_of, number_of_bytes}
use Rattle.octets.specs.Splice.{part}
use Rattle.fields.specs.Table.{put_field}
use Rattle.fields.specs.TableLaws.{field_back, field_before, other_tag_refused}
use Rattle.clerk_log.specs.Log.{booking_field, cancelling_field, booking_in, cancelling_in}
use Rattle.clerk_log.specs.declared.Line.{Line}
use Rattle.clerk_log.specs.declared.Line.TheVariants.{Booking as booking, Cancelling as cancelling}
use Rattle.clerk_log.specs.Log.{FirstLine, first, first_line, lines, add_line, on_first, log_lines}
use Rattle.clerk_log.specs.Log.{booking_content, cancelling_content, put_line, log_of}
use Rattle.clerk_log.specs.LineAtLaws.{log_empty, log_first}
use Rattle.clerk_log.specs.LineFits.{BookingFits, LineFits, AllFit}
use Rattle.clerk_log.specs.declared.BookingLine.{BookingLine}
use Rattle.clerk_log.specs.declared.CancellingLine.{CancellingLine}

-- a string that from a place on is two others: the part there is the first, and the second comes after it
module _ (l : List ℕ) (at n : ℕ) (xs ys : List ℕ) (e : drop at l ≡ xs ++ ys) (k : length xs ≡ n) where
  part_here : part l at n ≡ xs
  unfolding part
  part_here = ap (take n) e ∙ take_at xs ys n k

  rest_here : drop (at + n) l ≡ ys
  rest_here = sym (drop-drop n at l) ∙ ap (drop n) e ∙ drop_at xs ys n k

-- the same where the first is the bytes of a number
module _ (l : List ℕ) (at v : ℕ) (ys : List ℕ) (e : drop at l ≡ bytes_of 8 v ++ ys) where
  number_here : v < 2 ^ 64 → number_of (part l at 8) ≡ v
  number_here h = ap number_of (part_here l at 8 (bytes_of 8 v) ys e (length_bytes_of 8 v)) ∙ number_of_bytes 8 v h

  after_number : drop (at + 8) l ≡ ys
  after_number = rest_here l at 8 (bytes_of 8 v) ys e (length_bytes_of 8 v)

-- the content of a booking's line is read as the line
module _ (line : BookingLine) (f : BookingFits line) where
  -- the content from the size on, from the code on, and from the offset on
  abbrev from_offset : List ℕ
  from_offset = bytes_of 8 line.answer.offset ++ bytes_of 8 line.answer.place

  abbrev from_code : List ℕ
  from_code = line.answer.code ∷ from_offset

  abbrev from_size : List ℕ
  from_size = bytes_of 8 line.size ++ from_code

  abbrev content : List ℕ
  content = booking_content line

  at_33 : drop 33 content ≡ from_size
  at_33 = rest_here content 1 32 line.commitment from_size refl f.commitment_fits

  at_41 : drop 41 content ≡ from_code
  at_41 = after_number content 33 line.size from_code at_33

  at_42 : drop 42 content ≡ from_offset
  at_42 = sym (drop-drop 1 41 content) ∙ ap (drop 1) at_41

  at_50 : drop 50 content ≡ bytes_of 8 line.answer.place ++ []
  at_50 =
      after_number content 42 line.answer.offset (bytes_of 8 line.answer.place) at_42
      ∙ sym (append-nil (bytes_of 8 line.answer.place))

  code_here : get_or content 41 0 ≡ line.answer.code
  code_here = sym (get_or-drop 41 content 0 0) ∙ ap (λ (l : List ℕ). get_or l 0 0) at_41

  booking_back : booking_in content ≡ line
  booking_back =
      rw (
        part_here content 1 32 line.commitment from_size refl f.commitment_fits,
        number_here content 33 line.size from_code at_33 f.size_fits,
        code_here,
        number_here content 42 line.answer.offset (bytes_of 8 line.answer.place) at_42 f.offset_fits,
        number_here content 50 line.answer.place [] at_50 f.place_fits,
      )

  booking_length : length content ≡ 58
  booking_length = simp (length-append, length_bytes_of) (omega (arith, f.commitment_fits))

-- and that of a cancellation's line
module _ (line : CancellingLine) (f : line.place < 2 ^ 64) where
  abbrev cancelled : List ℕ
  cancelled = cancelling_content line

  code_after : get_or cancelled 9 0 ≡ line.code
  code_after =
      sym (get_or-drop 9 cancelled 0 0)
      ∙ ap (λ (l : List ℕ). get_or l 0 0) (after_number cancelled 1 line.place (line.code ∷ []) refl)

  cancelling_back : cancelling_in cancelled ≡ line
  cancelling_back = rw (number_here cancelled 1 line.place (line.code ∷ []) refl f, code_after)

  cancelling_length : length cancelled ≡ 10
  cancelling_length = simp (length-append, length_bytes_of) (omega arith)

-- a line in front of a log is its first line
first_back : (line : Line) (rest : List ℕ) → LineFits line → first_line (put_line line rest) ≡ first line rest
unfolding first_line
first_back (booking line) rest f =
    let l = booking_length line f in
    let content = booking_content line in
    rw (field_back booking_field content rest (eq-eqb (length content) 58 l) (omega arith), booking_back line f)
first_back (cancelling line) rest f =
    let l = cancelling_length line f in
    let content = cancelling_content line in
    rw (
      other_tag_refused booking_field 2 content rest (λ z. omega arith),
      field_back cancelling_field content rest (eq-eqb (length content) 10 l) (omega arith),
      cancelling_back line f,
    )

-- and takes up bytes
some_bytes : (line : Line) (rest : List ℕ) → 0 < length (put_line line rest)
unfolding put_field
some_bytes (booking line) rest = omega arith
some_bytes (cancelling line) rest = omega arith

-- what was written is read
pub log_back : (d : ℕ) (ls : List Line) → AllFit d ls → log_lines d (log_of ls) ≡ lines ls
unfolding log_of
log_back d [] h = log_empty d [] refl
log_back d (line ∷ later) h =
    log_first d (put_line line (log_of later)) (some_bytes line (log_of later))
    ∙ ap (λ (x : FirstLine). on_first d x (log_lines d)) (first_back line (log_of later) h.1)
    ∙ rw h.0 (ap (add_line line) (log_back d later h.2))

-- lines before others
put_before : (line : Line) (rest : List ℕ) → put_line line rest ≡ put_line line [] ++ rest
put_before (booking line) rest = field_before 1 (booking_content line) rest
put_before (cancelling line) rest = field_before 2 (cancelling_content line) rest

pub log_append : (xs ys : List Line) → log_of (xs ++ ys) ≡ log_of xs ++ log_of ys
unfolding log_of
log_append [] ys = refl
log_append (line ∷ later) ys =
    ap (put_line line) (log_append later ys)
    ∙ put_before line (log_of later ++ log_of ys)
    ∙ sym (append_assoc (put_line line []) (log_of later) (log_of ys))
    ∙ ap (λ (x : List ℕ). x ++ log_of ys) (sym (put_before line (log_of later)))
