-- A log says its lines in one way only: it is the bytes that its lines are written as.
use Rattle.std.specs.Prelude.{◌≡◌, refl, Bool, true, false, ℕ, ◌+◌, ◌^◌, ◌≤◌, ◌<◌, List, [], ◌∷◌, ◌++◌, length, take}
use Rattle.std.specs.Prelude.{drop, get_or}
use Rattle.std.proofs.Common.{sym, ap, ◌∙◌, arith, take-append-drop, drop_of_length-le, drop-drop, drop-cons, eqb-true}
use Rattle.rules.specs.Choice.{choose}
use Rattle.octets.specs.Bytes.{Bytes}
use Rattle.octets.specs.LittleEndian.{number_of, bytes_of}
use Rattle.octets.specs.LittleEndianLaws.{bytes_of_number, number_bound}
use Rattle.octets.specs.Splice.{part}
use Rattle.octets.specs.SpliceLaws.{part_length, bytes_part, part_end}
use Rattle.fields.specs.Table.{Taken, taken, refused, take_field, put_field}
use Rattle.fields.specs.TableLaws.{field_means}
use Rattle.clerk_log.specs.Log.{booking_field, cancelling_field, booking_in, cancelling_in}
use Rattle.clerk_log.specs.declared.Line.{Line}
use Rattle.clerk_log.specs.declared.Line.TheVariants.{Booking as booking, Cancelling as cancelling}
use Rattle.clerk_log.specs.Log.{FirstLine, first, no_line, or_else, first_line, line_allowed, Lines, lines, malformed}
use Rattle.clerk_log.specs.Log.{add_line, on_first, log_lines, booking_content, cancelling_content, put_line, log_of}
use Rattle.clerk_log.specs.LineAtLaws.{log_empty, log_first}
use Rattle.clerk_log.specs.LineFits.{BookingFits, LineFits, AllFit}

-- a part and what comes after it
part_then : (l : List ℕ) (at n : ℕ) → part l at n ++ drop (at + n) l ≡ drop at l
unfolding part
part_then l at n =
    ap (λ (x : List ℕ). take n (drop at l) ++ x) (sym (drop-drop n at l)) ∙ take-append-drop n (drop at l)

-- a number in bytes, written again, and its bound
module _ (l : List ℕ) (h : Bytes l) (at : ℕ) (k : at + 8 ≤ length l) where
  number_again : bytes_of 8 (number_of (part l at 8)) ≡ part l at 8
  number_again = bytes_of_number 8 (part l at 8) (part_length l at 8 k) (bytes_part l at 8 h)

  number_fits : number_of (part l at 8) < 2 ^ 64
  number_fits = number_bound 8 (part l at 8) (part_length l at 8 k) (bytes_part l at 8 h)

-- a content is the one that its line is written as, and its line fits
module _ (c : List ℕ) (h : Bytes c) where
  booking_again : length c ≡ 58 → booking_content (booking_in c) ≡ c
  booking_again k =
      rw (
        number_again c h 33 (omega arith),
        number_again c h 42 (omega arith),
        number_again c h 50 (omega arith),
        part_end c 50 8 (omega arith),
        part_then c 42 8,
        ← drop-cons c 41 0 (omega arith),
        part_then c 33 8,
        part_then c 1 32,
      )
      (sym (drop-cons c 0 0 (omega arith)))

  booking_fits : length c ≡ 58 → BookingFits (booking_in c)
  booking_fits k =
      record {
        commitment_fits = part_length c 1 32 (omega arith);
        size_fits = number_fits c h 33 (omega arith);
        offset_fits = number_fits c h 42 (omega arith);
        place_fits = number_fits c h 50 (omega arith);
      }

  cancelling_again : length c ≡ 10 → cancelling_content (cancelling_in c) ≡ c
  cancelling_again k =
      let last : get_or c 9 0 ∷ [] ≡ drop 9 c =
      sym (drop-cons c 9 0 (omega arith)
      ∙ ap (λ (x : List ℕ). get_or c 9 0 ∷ x) (drop_of_length-le c {i = 10} (omega arith))) in
      rw (number_again c h 1 (omega arith), last, part_then c 1 8) (sym (drop-cons c 0 0 (omega arith)))

-- the first line of a log of bytes
record Means (log : List ℕ) (line : Line) (rest : List ℕ) : Type 0 where
  written : put_line line rest ≡ log
  fits : LineFits line
  rest_bytes : Bytes rest

booking_means : (log c rest : List ℕ) → Bytes log → take_field booking_field log ≡ taken c rest
    → Means log (booking (booking_in c)) rest
booking_means log c rest h e =
    let m = field_means booking_field log c rest h e in
    let k : length c ≡ 58 = eqb-true (length c) 58 m.right in
    record {
      written = ap (λ (x : List ℕ). put_field 1 x rest) (booking_again c m.content_bytes k) ∙ sym m.written;
      fits = booking_fits c m.content_bytes k;
      rest_bytes = m.rest_bytes;
    }

cancelling_means : (log c rest : List ℕ) → Bytes log → take_field cancelling_field log ≡ taken c rest
    → Means log (cancelling (cancelling_in c)) rest
cancelling_means log c rest h e =
    let m = field_means cancelling_field log c rest h e in
    let k : length c ≡ 10 = eqb-true (length c) 10 m.right in
    record {
      written = ap (λ (x : List ℕ). put_field 2 x rest) (cancelling_again c m.content_bytes k) ∙ sym m.written;
      fits = number_fits c m.content_bytes 1 (omega arith);
      rest_bytes = m.rest_bytes;
    }

first_means : (log : List ℕ) (line : Line) (rest : List ℕ) → Bytes log → first_line log ≡ first line rest
    → Means log line rest
unfolding first_line
first_means log line rest h = go (take_field booking_field log) refl (take_field cancelling_field log) refl
  where
    go : (x : Taken) → take_field booking_field log ≡ x → (y : Taken) → take_field cancelling_field log ≡ y
        → or_else x (λ content. booking (booking_in content))
        (or_else y (λ content. cancelling (cancelling_in content)) no_line) ≡ first line rest
        → Means log line rest
    go (taken c r) e y q u =
        let l : booking (booking_in c) ≡ line = cc in
        let s : r ≡ rest = cc in
        rw (← l, ← s) (booking_means log c r h e)
    go refused e (taken c r) q u =
        let l : cancelling (cancelling_in c) ≡ line = cc in
        let s : r ≡ rest = cc in
        rw (← l, ← s) (cancelling_means log c r h q)
    go refused e refused q u = let z : ◌≡◌ {A = ℕ} 0 1 = cc in absurd (omega arith)

-- lines that were read, taken apart
never_lines : {A : Type 0} {ls : List Line} → malformed ≡ lines ls → A
never_lines e = let z : ◌≡◌ {A = ℕ} 0 1 = cc in absurd (omega arith)

opened : (d : ℕ) (x : FirstLine) (line : Line) (later : List Line)
    → on_first d x (log_lines d) ≡ lines (line ∷ later)
    → (rest : List ℕ) × (x ≡ first line rest) × (line_allowed d line ≡ true) × (log_lines d rest ≡ lines later)
opened d no_line line later e = never_lines e
opened d (first l r) line later e = go (line_allowed d l) refl (log_lines d r) refl e
  where
    go : (b : Bool) → line_allowed d l ≡ b → (k : Lines) → log_lines d r ≡ k
        → choose b (add_line l k) malformed ≡ lines (line ∷ later)
        → (rest : List ℕ) × (first l r ≡ first line rest) × (line_allowed d line ≡ true)
        × (log_lines d rest ≡ lines later)
    go false a k q u = never_lines u
    go true a malformed q u = never_lines u
    go true a (lines ls) q u =
        let s : l ≡ line = cc in
        let t : ls ≡ later = cc in
        (r, ap (λ (x : Line). first x r) s, ap (line_allowed d) (sym s) ∙ a, q ∙ ap lines t)

never_none : {A : Type 0} (d : ℕ) (x : FirstLine) → on_first d x (log_lines d) ≡ lines [] → A
never_none d no_line e = never_lines e
never_none {A = A} d (first l r) e = go (line_allowed d l) (log_lines d r) e
  where
    go : (b : Bool) (k : Lines) → choose b (add_line l k) malformed ≡ lines [] → A
    go false k u = never_lines u
    go true malformed u = never_lines u
    go true (lines ls) u = let z : ◌≡◌ {A = ℕ} 0 1 = cc in absurd (omega arith)

-- what was read is what its lines write
pub log_canonical : (d : ℕ) (ls : List Line) (log : List ℕ) → Bytes log → log_lines d log ≡ lines ls
    → (log_of ls ≡ log) × AllFit d ls
unfolding log_of
log_canonical d [] [] h e = (refl, tt)
log_canonical d [] (x ∷ xs) h e =
    never_none d (first_line (x ∷ xs)) (sym (log_first d (x ∷ xs) (omega arith)) ∙ e)
log_canonical d (line ∷ later) [] h e =
    let q : lines [] ≡ lines (line ∷ later) = sym (log_empty d [] refl) ∙ e in
    let z : ◌≡◌ {A = ℕ} 0 1 = cc in absurd (omega arith)
log_canonical d (line ∷ later) (x ∷ xs) h e =
    let o = opened d (first_line (x ∷ xs)) line later (sym (log_first d (x ∷ xs) (omega arith)) ∙ e) in
    let m = first_means (x ∷ xs) line o.0 h o.1 in
    let r = log_canonical d later o.0 m.rest_bytes o.3 in
    (ap (put_line line) r.0 ∙ m.written, (o.2, m.fits, r.1))

-- two logs of the same lines are the same bytes
pub same_lines : (d : ℕ) (ls : List Line) (x y : List ℕ) → Bytes x → Bytes y
    → log_lines d x ≡ lines ls → log_lines d y ≡ lines ls → x ≡ y
same_lines d ls x y h k e f = sym (log_canonical d ls x h e).0 ∙ (log_canonical d ls y k f).0
