-- The line at a place is the one that reading in turn takes there; and the lines of a log from a place on.
use Rattle.std.specs.Prelude.{◌≡◌, Bool, true, false, ℕ, zero, suc, ◌+◌, ◌-◌, ◌≤◌, ◌<◌, List, [], drop, eqb}
use Rattle.std.proofs.Math.Path.{refl}
use Rattle.std.proofs.Common.{sym, ap, ◌∙◌, length-drop}
use native.Mathlib.Omega.{arith}
use Rattle.std.proofs.Math.ListN.{length}
use borrow.Author.Tests.{eqb-true, eq-eqb, ne_eqb}
use Rattle.rules.specs.Choice.{choose}
use Rattle.octets.specs.Splice.{part}
use Rattle.fields.specs.FieldAt.{field_for}
use Rattle.fields.specs.FieldAtLaws.{taken_at, field_at_lem, IsField, is_field}
use Rattle.fields.specs.FieldAt.{Field}
use Rattle.fields.specs.FieldAt.{Content, Refused}
use Rattle.clerk_log.specs.Log.{booking_field, cancelling_field, booking_in, cancelling_in}
use Rattle.clerk_log.specs.declared.Line.{Line}
use Rattle.clerk_log.specs.declared.Line.TheVariants.{Booking as booking, Cancelling as cancelling}
use Rattle.clerk_log.specs.Log.{FirstLine, first, no_line, or_else, first_line, line_allowed, Lines, lines, malformed}
use Rattle.clerk_log.specs.Log.{add_line, on_first, lines_within, log_lines}
use Rattle.clerk_log.specs.LineAt.{or_field, line_field, line_of, is_log}

-- the line of a field with what comes after it, and no line for the refusal
abbrev pub first_at : List ℕ → Field → FirstLine
first_at log (Content tag start n next) = first (line_of log tag start) (drop next log)
first_at log Refused = no_line

-- where the line at a place lies: its content and the next line's place are within the log
pub record IsLine (log : List ℕ) (at tag start next : ℕ) : Type 0 where
  pub within : start + choose (eqb tag 1) 58 10 ≤ length log
  pub ends : next ≤ length log
  pub later : at < next

-- the content of each kind of line lies within the log
module _ (log : List ℕ) (tag start : ℕ) (h : start + choose (eqb tag 1) 58 10 ≤ length log) where
  pub booking_within : tag ≡ 1 → start + 58 ≤ length log
  booking_within e = rw (eq-eqb tag 1 e) at h

  pub cancelling_within : (tag ≡ 1 → ⊥) → start + 10 ≤ length log
  cancelling_within e = rw (ne_eqb tag 1 e) at h

module _ (log : List ℕ) (at : ℕ) where
  -- the fields of the two rows
  booking_there : (tag start n next : ℕ) → IsField booking_field log at tag start n next
      → first (booking (booking_in (part log start n))) (drop next log) ≡ first_at log (Content tag start n next)
  booking_there tag start n next f =
      let e : n ≡ 58 = eqb-true n 58 f.length_allowed_lem in
      rw (eq-eqb tag 1 f.tag_is, e)

  cancelling_there : (tag start n next : ℕ) → IsField cancelling_field log at tag start n next
      → first (cancelling (cancelling_in (part log start n))) (drop next log) ≡ first_at log (Content tag start n next)
  cancelling_there tag start n next f =
      let e : n ≡ 10 = eqb-true n 10 f.length_allowed_lem in
      let t : tag ≡ 2 = f.tag_is in
      rw (ne_eqb tag 1 (λ z. omega arith), e)

  -- reading at a place is reading in turn
  pub line_at : first_line (drop at log) ≡ first_at log (line_field log at)
  unfolding first_line line_field
  line_at =
      rw (field_at_lem booking_field log at, field_at_lem cancelling_field log at)
      (go (field_for booking_field log at) refl (field_for cancelling_field log at) refl)
    where
      go : (x : Field) → field_for booking_field log at ≡ x → (y : Field) → field_for cancelling_field log at ≡ y
          → or_else (taken_at log x) (λ content. booking (booking_in content))
          (or_else (taken_at log y) (λ content. cancelling (cancelling_in content)) no_line)
          ≡ first_at log (or_field x y)
      go (Content tag start n next) e y q =
          booking_there tag start n next (is_field booking_field log at tag start n next e)
      go Refused e (Content tag start n next) q =
          cancelling_there tag start n next (is_field cancelling_field log at tag start n next q)
      go Refused e Refused q = refl

  -- where a line lies, by the two rows
  pub is_line : (tag start n next : ℕ) → line_field log at ≡ Content tag start n next → IsLine log at tag start next
  unfolding line_field
  is_line tag start n next = go (field_for booking_field log at) refl (field_for cancelling_field log at) refl
    where
      go : (x : Field) → field_for booking_field log at ≡ x → (y : Field) → field_for cancelling_field log at ≡ y
          → or_field x y ≡ Content tag start n next → IsLine log at tag start next
      go (Content t s m p) e y q u =
          let f = is_field booking_field log at tag start n next (e ∙ u) in
          let k : n ≡ 58 = eqb-true n 58 f.length_allowed_lem in
          let a : start ≡ at + 3 = f.start_is in
          let b : next ≡ start + n = f.next_is in
          let w : next ≤ length log = f.within in
          record { within = rw (eq-eqb tag 1 f.tag_is) (omega arith); ends = w; later = omega arith }
      go Refused e y q u =
          let f = is_field cancelling_field log at tag start n next (q ∙ u) in
          let k : n ≡ 10 = eqb-true n 10 f.length_allowed_lem in
          let t : tag ≡ 2 = f.tag_is in
          let a : start ≡ at + 3 = f.start_is in
          let b : next ≡ start + n = f.next_is in
          let w : next ≤ length log = f.within in
          record { within = rw (ne_eqb tag 1 (λ z. omega arith)) (omega arith); ends = w; later = omega arith }

-- what comes after a line is shorter than the log
pub shorter : (log : List ℕ) (line : Line) (rest : List ℕ) → first_line log ≡ first line rest → length rest < length log
shorter log line rest e = go (line_field log 0) refl
  where
    go : (x : Field) → line_field log 0 ≡ x → length rest < length log
    go (Content tag start n next) q =
        let l = is_line log 0 tag start n next q in
        let u : first line rest ≡ first (line_of log tag start) (drop next log) =
        sym e ∙ line_at log 0 ∙ ap (first_at log) q in
        let r : rest ≡ drop next log = cc in
        omega (arith, ap length r, length-drop next log)
    go Refused q =
        let u : first line rest ≡ no_line = sym e ∙ line_at log 0 ∙ ap (first_at log) q in
        let z : ◌≡◌ {A = ℕ} 0 1 = cc in absurd (omega arith)

-- what is read after the first line is read of a shorter string
same_first : (d : ℕ) (log : List ℕ) (f g : List ℕ → Lines)
    → ((rest : List ℕ) → length rest < length log → f rest ≡ g rest)
    → on_first d (first_line log) f ≡ on_first d (first_line log) g
same_first d log f g same = go (first_line log) refl
  where
    go : (x : FirstLine) → first_line log ≡ x → on_first d x f ≡ on_first d x g
    go (first line rest) e =
        ap (λ (x : Lines). choose (line_allowed d line) (add_line line x) malformed)
        (same rest (shorter log line rest e))
    go no_line e = refl

-- at most as many lines as a log has bytes: a larger number changes nothing
within_enough : (d n m : ℕ) (log : List ℕ) → length log ≤ n → length log ≤ m
    → lines_within d n log ≡ lines_within d m log
unfolding lines_within
within_enough d zero zero log h k = refl
within_enough d zero (suc m) log h k = rw (eq-eqb (length log) 0 (omega arith))
within_enough d (suc n) zero log h k = rw (eq-eqb (length log) 0 (omega arith))
within_enough d (suc n) (suc m) log h k =
    ap (λ (x : Lines). choose (eqb (length log) 0) (lines []) x)
    (same_first d log (lines_within d n) (lines_within d m)
    (λ rest s. within_enough d n m rest (omega arith) (omega arith)))

-- a log is empty, or its first line and a log
pub log_empty : (d : ℕ) (log : List ℕ) → length log ≡ 0 → log_lines d log ≡ lines []
unfolding lines_within
log_empty d log h = ap (λ (n : ℕ). lines_within d n log) h ∙ rw (eq-eqb (length log) 0 h)

pub log_first : (d : ℕ) (log : List ℕ) → 0 < length log → log_lines d log ≡ on_first d (first_line log) (log_lines d)
unfolding lines_within
log_first d log h =
    let n = length log - 1 in
    let l : length log ≡ suc n = omega arith in
    ap (λ (m : ℕ). lines_within d m log) l
    ∙ rw (ne_eqb (length log) 0 (λ z. omega arith))
    (same_first d log (lines_within d n) (log_lines d)
    (λ rest s. within_enough d n (length rest) rest (omega arith) (omega arith)))

-- the lines of a log from a place on
module _ (d : ℕ) (log : List ℕ) (at : ℕ) where
  -- at the end there are none
  pub no_more_lines : length log ≤ at → log_lines d (drop at log) ≡ lines []
  no_more_lines h = log_empty d (drop at log) (simp length-drop (omega arith))

  line_first : at < length log → log_lines d (drop at log) ≡ on_first d (first_at log (line_field log at)) (log_lines d)
  line_first h =
      log_first d (drop at log) (simp length-drop (omega arith))
      ∙ ap (λ (x : FirstLine). on_first d x (log_lines d)) (line_at log at)

  -- before it the log is malformed where no line stands
  pub no_line_there : at < length log → line_field log at ≡ Refused → log_lines d (drop at log) ≡ malformed
  no_line_there h e = line_first h ∙ ap (λ (x : Field). on_first d (first_at log x) (log_lines d)) e

  -- and else the lines are those after this one with it in front, where it is allowed
  pub line_there : (tag start n next : ℕ) → at < length log → line_field log at ≡ Content tag start n next
      → log_lines d (drop at log) ≡ choose (line_allowed d (line_of log tag start))
      (add_line (line_of log tag start) (log_lines d (drop next log))) malformed
  line_there tag start n next h e = line_first h ∙ ap (λ (x : Field). on_first d (first_at log x) (log_lines d)) e

  -- a line that is allowed
  pub line_on : (tag start n next : ℕ) → at < length log → line_field log at ≡ Content tag start n next
      → line_allowed d (line_of log tag start) ≡ true
      → log_lines d (drop at log) ≡ add_line (line_of log tag start) (log_lines d (drop next log))
  line_on tag start n next h e a = line_there tag start n next h e ∙ rw a

  -- a line that is not
  pub line_off : (tag start n next : ℕ) → at < length log → line_field log at ≡ Content tag start n next
      → line_allowed d (line_of log tag start) ≡ false → log_lines d (drop at log) ≡ malformed
  line_off tag start n next h e a = line_there tag start n next h e ∙ rw a

-- lines with one more in front are in form where they are
pub is_log_add : (line : Line) (later : Lines) → is_log (add_line line later) ≡ is_log later
is_log_add line (lines ls) = refl
is_log_add line malformed = refl

-- in a log that is in form from a place on, a line stands there, it is allowed, and the log is in form after it
module _ (d : ℕ) (log : List ℕ) (at : ℕ) (h : at < length log) (form : is_log (log_lines d (drop at log)) ≡ true) where
  pub never_refused : {A : Type 0} → line_field log at ≡ Refused → A
  never_refused e =
      let q : is_log (log_lines d (drop at log)) ≡ false = ap is_log (no_line_there d log at h e) in
      let z : true ≡ false = sym form ∙ q in
      let one : ◌≡◌ {A = ℕ} 0 1 = cc in absurd (omega arith)

  pub in_form_line : (tag start n next : ℕ) → line_field log at ≡ Content tag start n next
      → (line_allowed d (line_of log tag start) ≡ true) × (is_log (log_lines d (drop next log)) ≡ true)
  in_form_line tag start n next e =
      go (line_allowed d (line_of log tag start)) (sym (ap is_log (line_there d log at tag start n next h e)) ∙ form)
    where
      go : (b : Bool)
          → is_log (choose b (add_line (line_of log tag start) (log_lines d (drop next log))) malformed) ≡ true
          → (b ≡ true) × (is_log (log_lines d (drop next log)) ≡ true)
      go true q = (refl, sym (is_log_add (line_of log tag start) (log_lines d (drop next log))) ∙ q)
      go false q = let one : ◌≡◌ {A = ℕ} 0 1 = cc in absurd (omega arith)

-- the same of a log whose first line is read
module _ (d : ℕ) (log : List ℕ) (h : 0 < length log) where
  pub no_first : first_line log ≡ no_line → log_lines d log ≡ malformed
  no_first e = log_first d log h ∙ ap (λ (x : FirstLine). on_first d x (log_lines d)) e

  module _ (line : Line) (rest : List ℕ) (e : first_line log ≡ first line rest) where
    first_there : log_lines d log ≡ choose (line_allowed d line) (add_line line (log_lines d rest)) malformed
    first_there = log_first d log h ∙ ap (λ (x : FirstLine). on_first d x (log_lines d)) e

    pub first_on : line_allowed d line ≡ true → log_lines d log ≡ add_line line (log_lines d rest)
    first_on a = first_there ∙ rw a

    pub first_off : line_allowed d line ≡ false → log_lines d log ≡ malformed
    first_off a = first_there ∙ rw a

    -- in a log that is in form the line is allowed, and the log after it is in form
    pub first_in_form : is_log (log_lines d log) ≡ true
        → (line_allowed d line ≡ true) × (is_log (log_lines d rest) ≡ true)
    first_in_form form = go (line_allowed d line) (sym (ap is_log first_there) ∙ form)
      where
        go : (b : Bool) → is_log (choose b (add_line line (log_lines d rest)) malformed) ≡ true
            → (b ≡ true) × (is_log (log_lines d rest) ≡ true)
        go true q = (refl, sym (is_log_add line (log_lines d rest)) ∙ q)
        go false q = let one : ◌≡◌ {A = ℕ} 0 1 = cc in absurd (omega arith)
