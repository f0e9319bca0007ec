-- Playing lines one behind another: what the lines before lead to, and what is said from there on (document 02, request
-- (xii)).
use Rattle.std.proofs.Math.Path.{◌≡◌, refl, ap}
use Rattle.std.proofs.Common.{sym, ap₂, ◌∙◌, true≢false, arith, length-append, eqb-true, eq-eqb}
use Rattle.std.specs.Prelude.{Bool, true, false, ◌&&◌, ◌↔◌, ◌≢◌, ℕ, suc, ◌+◌, ◌≤◌, length, eqb}
use mathlib.Core.List.{List, [], ◌∷◌, ◌++◌, append_assoc}
use Rattle.rules.specs.Choice.{choose}
use Rattle.rules.specs.RefusalLaws.{and_left, and_right, not_passed}
use Rattle.sizes.specs.Sizes.{entry_count}
use Rattle.room.specs.declared.Booked.{Booked}
use Rattle.clerk_log.specs.declared.Line.{Line}
use Rattle.playback.specs.declared.LedgerRow.{LedgerRow}
use Rattle.playback.specs.Playback.{LineNumber}
use Rattle.playback.specs.Playback.{Playback}
use Rattle.playback.specs.Ledger.{ledger_after}
use Rattle.playback.specs.Playback.{ruling, said, same_answer, confirms, no_rows, rows_from, with_rows, play_from}

-- lines are confirmed one after another, and lead from a ledger to the next
abbrev pub PlaysTo : ℕ → List LedgerRow → List Line → List LedgerRow → Type 0
PlaysTo d ledger ls next =
    (number : ℕ) (later : List Line)
    → play_from d ledger number (ls ++ later) ≡ play_from d next (number + length ls) later

-- two answers are the same exactly if they are equal
pub same_answers : (x y : Booked) → x ≡ y → same_answer x y ≡ true
same_answers x y e =
    rw (
      eq-eqb x.code y.code (ap (λ (b : Booked). b.code) e),
      eq-eqb x.offset y.offset (ap (λ (b : Booked). b.offset) e),
      eq-eqb x.place y.place (ap (λ (b : Booked). b.place) e),
    )

pub answers_same : (x y : Booked) → same_answer x y ≡ true → x ≡ y
answers_same x y e =
    let code = eqb x.code y.code in
    let offset = eqb x.offset y.offset in
    let place = eqb x.place y.place in
    let both = and_right code (offset && place) e in
    ap₂ (λ (c o : ℕ). record { code = c; offset = o; place = x.place })
    (eqb-true x.code y.code (and_left code (offset && place) e))
    (eqb-true x.offset y.offset (and_left offset place both))
    ∙ ap (λ (p : ℕ). record { code = y.code; offset = y.offset; place = p })
    (eqb-true x.place y.place (and_right offset place both))

-- the number of a line, or what is said after it
said_next : (b : Bool) (next : Playback) (ruled : Booked) (number n : ℕ)
    → (next.verdict ≡ LineNumber n → suc number ≤ n)
    → (choose b next (no_rows (LineNumber number) ruled)).verdict ≡ LineNumber n → number ≤ n
said_next true next ruled number n later e = omega (arith, later e)
said_next false next ruled number n later e = let same : number ≡ n = cc in omega arith

module _ (d : ℕ) where
  -- no line left: 0, with the rows
  pub played_out : (ledger : List LedgerRow) (number : ℕ)
      → play_from d ledger number [] ≡ with_rows (rows_from ledger 0 (entry_count d))
  unfolding play_from
  played_out ledger number = refl

  -- one line: it is confirmed, or its number is said
  pub confirmed_line : (ledger : List LedgerRow) (number : ℕ) (line : Line) (later : List Line)
      → confirms d ledger line ≡ true
      → play_from d ledger number (line ∷ later) ≡ play_from d (ledger_after d ledger line) (suc number) later
  unfolding play_from
  confirmed_line ledger number line later e =
      ap
      (λ (b : Bool).
      choose b (play_from d (ledger_after d ledger line) (suc number) later)
      (no_rows (LineNumber number) (ruling d ledger line)))
      e

  pub wrong_line : (ledger : List LedgerRow) (number : ℕ) (line : Line) (later : List Line)
      → confirms d ledger line ≡ false
      → play_from d ledger number (line ∷ later) ≡ no_rows (LineNumber number) (ruling d ledger line)
  unfolding play_from
  wrong_line ledger number line later e =
      ap
      (λ (b : Bool).
      choose b (play_from d (ledger_after d ledger line) (suc number) later)
      (no_rows (LineNumber number) (ruling d ledger line)))
      e

  pub plays_none : (ledger : List LedgerRow) → PlaysTo d ledger [] ledger
  plays_none ledger number later = ap (λ (n : ℕ). play_from d ledger n later) (omega arith)

  pub plays_line : (ledger : List LedgerRow) (line : Line) → confirms d ledger line ≡ true
      → PlaysTo d ledger (line ∷ []) (ledger_after d ledger line)
  plays_line ledger line e number later =
      confirmed_line ledger number line later e
      ∙ ap (λ (n : ℕ). play_from d (ledger_after d ledger line) n later) (omega arith)

  pub plays_on : (first second third : List LedgerRow) (xs ys : List Line) → PlaysTo d first xs second
      → PlaysTo d second ys third → PlaysTo d first (xs ++ ys) third
  plays_on first second third xs ys p q number later =
      ap (play_from d first number) (append_assoc xs ys later)
      ∙ p number (ys ++ later)
      ∙ q (number + length xs) later
      ∙ ap (λ (n : ℕ). play_from d third n later) (omega (arith, length-append xs ys))

  -- a number that is said is that of one of the lines
  pub said_from : (ls : List Line) (ledger : List LedgerRow) (number n : ℕ)
      → (play_from d ledger number ls).verdict ≡ LineNumber n → number ≤ n
  unfolding play_from
  said_from [] ledger number n e = let z : ◌≡◌ {A = ℕ} 0 1 = cc in absurd (omega arith)
  said_from (line ∷ later) ledger number n e =
      said_next (confirms d ledger line) (play_from d (ledger_after d ledger line) (suc number) later)
      (ruling d ledger line) number n (said_from later (ledger_after d ledger line) (suc number) n) e

  -- the number of a line is said exactly where it says another answer than the rules give, ..
  not_confirmed : (ledger : List LedgerRow) (number : ℕ) (line : Line) (later : List Line)
      → (play_from d ledger number (line ∷ later)).verdict ≡ LineNumber number → confirms d ledger line ≡ false
  not_confirmed ledger number line later e =
      not_passed (confirms d ledger line)
      (λ t.
      let next = confirmed_line ledger number line later t in
      let past = said_from later (ledger_after d ledger line) (suc number) number
      (sym (ap (λ (p : Playback). p.verdict) next) ∙ e) in
      omega arith)

  pub says_number : (ledger : List LedgerRow) (number : ℕ) (line : Line) (later : List Line)
      → ((play_from d ledger number (line ∷ later)).verdict ≡ LineNumber number) ↔ (said line ≢ ruling d ledger line)
  says_number ledger number line later = (
    λ e same.
        true≢false
        (sym (same_answers (ruling d ledger line) (said line) (sym same))
        ∙ not_confirmed ledger number line later e),
    λ other.
        ap (λ (p : Playback). p.verdict)
        (wrong_line ledger number line later
        (not_passed (confirms d ledger line)
        (λ t. other (sym (answers_same (ruling d ledger line) (said line) t))))),
  )

  -- .. and what they give stands beside it
  pub gives_ruling : (ledger : List LedgerRow) (number : ℕ) (line : Line) (later : List Line)
      → (play_from d ledger number (line ∷ later)).verdict ≡ LineNumber number
      → (play_from d ledger number (line ∷ later)).ruling ≡ ruling d ledger line
  gives_ruling ledger number line later e =
      ap (λ (p : Playback). p.ruling)
      (wrong_line ledger number line later (not_confirmed ledger number line later e))
