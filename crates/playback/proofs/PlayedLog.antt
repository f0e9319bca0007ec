-- A log played line by line: what is left to play of a log, with the ledger so far and the next line's number.
use Rattle.std.specs.Prelude.{◌≡◌, refl, true, false, ℕ, ◌+◌, ◌<◌, List, length}
use Rattle.std.proofs.Common.{sym, ap, ◌∙◌, add-one, arith}
use Rattle.sizes.specs.Sizes.{entry_count}
use Rattle.clerk_log.specs.Log.{Lines, lines, malformed, add_line, FirstLine, first, no_line, first_line, log_lines}
use Rattle.clerk_log.specs.declared.Line.{Line}
use Rattle.clerk_log.specs.LineAt.{is_log}
use Rattle.clerk_log.specs.LineAtLaws.{log_empty, no_first, first_on, first_in_form}
use Rattle.playback.specs.declared.LedgerRow.{LedgerRow}
use Rattle.playback.specs.Playback.{Playback, Code, LineNumber}
use Rattle.playback.specs.Ledger.{empty_ledger, ledger_after}
use Rattle.playback.specs.Playback.{ruling, confirms, no_rows, says, rows_from, with_rows, play_from, played_log}

-- the lines that are left, on a ledger, from one with this number on
abbrev pub play_on : ℕ → List LedgerRow → ℕ → Lines → Playback
play_on d ledger number (lines ls) = play_from d ledger number ls
play_on d ledger number malformed = says (Code 3)

-- at first all of them, on an empty ledger
pub play_start : (d : ℕ) (ls : Lines) → played_log d ls ≡ play_on d empty_ledger 1 ls
play_start d (lines ls) = refl
play_start d malformed = refl

-- a line that is confirmed, and one that is not
module _ (d : ℕ) (ledger : List LedgerRow) (number : ℕ) (line : Line) where
  confirmed_on : (later : Lines) → confirms d ledger line ≡ true
      → play_on d ledger number (add_line line later) ≡ play_on d (ledger_after d ledger line) (number + 1) later
  unfolding play_from
  confirmed_on (lines ls) e = rw (e, add-one number)
  confirmed_on malformed e = refl

  other_stops : (later : Lines) → is_log later ≡ true → confirms d ledger line ≡ false
      → play_on d ledger number (add_line line later) ≡ no_rows (LineNumber number) (ruling d ledger line)
  unfolding play_from
  other_stops (lines ls) f e = rw e
  other_stops malformed f e = let z : ◌≡◌ {A = ℕ} 0 1 = cc in absurd (omega arith)

module _ (d : ℕ) (log : List ℕ) (ledger : List LedgerRow) (number : ℕ) where
  -- at the end the rows come back
  pub play_over : length log ≡ 0
      → play_on d ledger number (log_lines d log) ≡ with_rows (rows_from ledger 0 (entry_count d))
  unfolding play_from
  play_over h = ap (play_on d ledger number) (log_empty d log h)

  module _ (h : 0 < length log) (form : is_log (log_lines d log) ≡ true) (line : Line) (rest : List ℕ)
      (there : first_line log ≡ first line rest) where
    -- the line at the front is the first of those that are left
    front : log_lines d log ≡ add_line line (log_lines d rest)
    front = first_on d log h line rest there (first_in_form d log h line rest there form).0

    -- it is played, and the next one has the next number
    pub play_next : confirms d ledger line ≡ true
        → play_on d ledger number (log_lines d log)
        ≡ play_on d (ledger_after d ledger line) (number + 1) (log_lines d rest)
    play_next e = ap (play_on d ledger number) front ∙ confirmed_on d ledger number line (log_lines d rest) e

    -- or ends the playing
    pub play_stop : confirms d ledger line ≡ false
        → play_on d ledger number (log_lines d log) ≡ no_rows (LineNumber number) (ruling d ledger line)
    play_stop e =
        ap (play_on d ledger number) front
        ∙ other_stops d ledger number line (log_lines d rest)
        (first_in_form d log h line rest there form).1 e

-- in a log that is in form a line stands at the front
pub never_none : {A : Type 0} (d : ℕ) (log : List ℕ) → 0 < length log → is_log (log_lines d log) ≡ true
    → first_line log ≡ no_line → A
never_none d log h form e =
    let q : is_log (log_lines d log) ≡ false = ap is_log (no_first d log h e) in
    let z : true ≡ false = sym form ∙ q in
    let one : ◌≡◌ {A = ℕ} 0 1 = cc in absurd (omega arith)
