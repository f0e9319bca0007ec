-- Playing back a log (document 02, request (xii)): "Playback starts from an empty ledger of rows for a stated D and
-- says 0, or the number of the first line whose answers the rules do not give, counting from 1, or 3 for a malformed
-- log, told apart from line 3 by its kind of answer. A D that is not allowed for a lent deal gets 2 first, told apart
-- likewise. With 0 its rows (house, commitment, T, offset, place) come back by value, by rising place; with any other
-- answer none do."
use Rattle.std.specs.Prelude.{Bool, ◌&&◌, ℕ, zero, suc, ◌-◌, List, [], ◌∷◌, ◌++◌, length, replicate, eqb}
use Rattle.rules.specs.Choice.{choose}
use Rattle.sizes.specs.Sizes.{lent_size_allowed, entry_count}
use Rattle.room.specs.declared.Booked.{Booked}
use Rattle.clerk_log.specs.Log.{Lines, lines, malformed, log_lines}
use Rattle.clerk_log.specs.declared.Line.{Line}
use Rattle.clerk_log.specs.declared.Line.TheVariants.{Booking as booking, Cancelling as cancelling}
use Rattle.playback.specs.declared.LedgerRow.{LedgerRow}
use Rattle.playback.specs.Ledger.{vacant, is_vacant, empty_ledger, ledger_row, ledger_answer, ledger_cancel_code}
use Rattle.playback.specs.Ledger.{ledger_after}

-- what playback says: a code, 0, 2 or 3, or the number of the first line whose answers the rules do not give
pub data Verdict : Type 0 where
  Code : ℕ → Verdict
  LineNumber : ℕ → Verdict

-- the answer of playback: what it says; with a line's number, what the rules give for that line; with 0 the rows, and
-- how many they are; zeros otherwise
pub record Playback : Type 0 where
  pub verdict : Verdict
  pub ruling : Booked
  pub count : ℕ
  pub rows : List LedgerRow

-- what the rules give for a line, and what it says; a cancellation's answer is its code alone
abbrev pub code_alone : ℕ → Booked
code_alone code = record { code = code; offset = 0; place = 0 }

unfoldable pub ruling : ℕ → List LedgerRow → Line → Booked
ruling d ledger (booking line) = ledger_answer d ledger line
ruling d ledger (cancelling line) = code_alone (ledger_cancel_code d ledger line)

abbrev pub said : Line → Booked
said (booking line) = line.answer
said (cancelling line) = code_alone line.code

abbrev pub same_answer : Booked → Booked → Bool
same_answer x y = eqb x.code y.code && (eqb x.offset y.offset && eqb x.place y.place)

abbrev pub confirms : ℕ → List LedgerRow → Line → Bool
confirms d ledger line = same_answer (ruling d ledger line) (said line)

-- an answer without rows
abbrev pub no_rows : Verdict → Booked → Playback
no_rows verdict ruled = record { verdict = verdict; ruling = ruled; count = 0; rows = empty_ledger }

abbrev pub says : Verdict → Playback
says verdict = no_rows verdict (code_alone 0)

-- the rows that hold something among the n from slot i on, by rising slot and so by rising place
abbrev pub and_row : LedgerRow → List LedgerRow → List LedgerRow
and_row row later = choose (is_vacant row) later (row ∷ later)

unfoldable pub rows_from : List LedgerRow → ℕ → ℕ → List LedgerRow
rows_from ledger i zero = []
rows_from ledger i (suc n) = and_row (ledger_row ledger i) (rows_from ledger (suc i) n)

-- 0 with rows, at most as many as a ledger has, and vacant ones after them
abbrev pub with_rows : List LedgerRow → Playback
with_rows rows =
    record {
      verdict = Code 0;
      ruling = code_alone 0;
      count = length rows;
      rows = rows ++ replicate (128 - length rows) vacant;
    }

-- the lines from one with this number on
unfoldable pub play_from : ℕ → List LedgerRow → ℕ → List Line → Playback
play_from d ledger number [] = with_rows (rows_from ledger 0 (entry_count d))
play_from d ledger number (line ∷ later) =
    choose (confirms d ledger line) (play_from d (ledger_after d ledger line) (suc number) later)
    (no_rows (LineNumber number) (ruling d ledger line))

abbrev pub played_log : ℕ → Lines → Playback
played_log d (lines ls) = play_from d empty_ledger 1 ls
played_log d malformed = says (Code 3)

unfoldable pub playback : ℕ → List ℕ → Playback
playback d log = choose (lent_size_allowed d) (played_log d (log_lines d log)) (says (Code 2))
