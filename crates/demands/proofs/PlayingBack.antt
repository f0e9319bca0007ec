-- Request (xii), the theorems on playing back a disputed day (document 02: "Take a log from an all-zero deal of that D,
-- with a line for every call so answered, in order, these calls alone changing the deal and the house table, any tree
-- buffer as (vii) asks, and no two different segments sharing commitment and size: playback says 0 and its rows are the
-- standing entries").
use Rattle.std.specs.Prelude.{◌≡◌, refl, Bool, true, false, ◌↔◌, ◌≢◌, ℕ, suc, ◌<◌, List, [], ◌∷◌, ◌++◌, length}
use Rattle.std.proofs.Common.{sym, ap, ◌∙◌, arith, append-nil}
use Rattle.std.proofs.lemmas.List.{length-replicate}
use Rattle.rules.specs.Choice.{choose}
use Rattle.octets.specs.Bytes.{Bytes}
use Rattle.sizes.specs.Sizes.{lent_size_allowed}
use Rattle.clerk_log.specs.Log.{Lines, lines, log_lines, log_of}
use Rattle.clerk_log.specs.declared.Line.{Line}
use Rattle.clerk_log.specs.LogLaws.{log_back}
use Rattle.clerk_log.specs.LogCanonical.{log_canonical}
use Rattle.playback.specs.Playback.{Code, LineNumber}
use Rattle.playback.specs.Playback.{said, says, with_rows, played_log, playback}
use Rattle.demands.specs.Calls.{Call, DealAndTable}
use Rattle.demands.specs.DealCalls.{TreeLent, DealCall, on_deal, BookedIn, run_deal_calls, all_zero_deal}
use Rattle.demands.specs.Day.{call_lines, Names, day_lines, Day, NoTwoShare, standing_entries}
use Rattle.demands.proofs.PlayLaws.{played_out}
use Rattle.demands.proofs.LinesFitLaws.{day_fits}
use Rattle.demands.proofs.DayLaws.{ledger_then, then_rows, played_on}
use Rattle.demands.specs.SharedLedger.{None13}
use Rattle.demands.proofs.LedgerQuotaLaws.{log_none_13}
use Rattle.demands.proofs.NextLineLaws.{said_later, next_line_confirmed, next_said, next_ruling}

-- Playback says 0, and its rows are the standing entries with their owners, by rising place.
pub a_day_is_confirmed : (d : ℕ) (table : List ℕ) (calls : List DealCall) → lent_size_allowed d ≡ true
    → Day (all_zero_deal d table) calls → NoTwoShare calls
    → playback d (log_of (day_lines (all_zero_deal d table) calls))
    ≡ with_rows (standing_entries (run_deal_calls (all_zero_deal d table) calls))
a_day_is_confirmed d table calls l day distinct =
    let ls = day_lines (all_zero_deal d table) calls in
    let written : log_lines d (log_of ls) ≡ lines (ls ++ []) =
    log_back d ls (day_fits d calls (all_zero_deal d table) (length-replicate d 0)) ∙ ap lines (sym (append-nil ls)) in
    played_on (BookedIn calls) distinct d table calls l day (λ segment b. b) (log_of ls) [] written
    ∙ played_out d (ledger_then (BookedIn calls) distinct d table calls l day (λ segment b. b)) (suc (length ls))
    ∙ ap with_rows (then_rows (BookedIn calls) distinct d table calls l day (λ segment b. b))

-- What a line proves whose number playback says. A log in form begins with the lines of a day's calls: none of them is
-- reported. So the lines up to the number are those of no day of calls as above.
pub the_lines_of_a_day_are_never_reported : (d : ℕ) (table : List ℕ) (calls : List DealCall)
    → lent_size_allowed d ≡ true → Day (all_zero_deal d table) calls → NoTwoShare calls → (log : List ℕ)
    (later : List Line) → log_lines d log ≡ lines (day_lines (all_zero_deal d table) calls ++ later) → (n : ℕ)
    → (playback d log).verdict ≡ LineNumber n → length (day_lines (all_zero_deal d table) calls) < n
the_lines_of_a_day_are_never_reported = said_later

-- A day's calls from an all-zero deal; a log in form that has their lines, one more line, and whatever comes after it.
module _ (d : ℕ) (table : List ℕ) (calls : List DealCall) (l : lent_size_allowed d ≡ true) (log : List ℕ) (line : Line)
    (later : List Line)
    (form : log_lines d log ≡ lines (day_lines (all_zero_deal d table) calls ++ (line ∷ later))) where
  -- the number of that line, and the deal and the table when the next call comes
  abbrev number : ℕ
  number = suc (length (day_lines (all_zero_deal d table) calls))

  abbrev now : DealAndTable
  now = run_deal_calls (all_zero_deal d table) calls

  -- Where playback says the number of that line, it is not the line that the next call got.
  pub a_reported_line_is_not_the_calls : (call : DealCall) → Day (all_zero_deal d table) (calls ++ (call ∷ []))
      → NoTwoShare (calls ++ (call ∷ [])) → (playback d log).verdict ≡ LineNumber number
      → call_lines call now ≢ line ∷ []
  a_reported_line_is_not_the_calls = next_line_confirmed d table calls l log line later form

  -- The next call got a line, and the line of the log names that call: its house, and the commitment and size of its
  -- segment or its place.
  module _ (call : Call) (tree : TreeLent) (day : Day (all_zero_deal d table) (calls ++ (on_deal call tree ∷ [])))
      (distinct : NoTwoShare (calls ++ (on_deal call tree ∷ []))) (got : Line)
      (gets : call_lines (on_deal call tree) now ≡ got ∷ []) (named : Names call line) where
    -- Playback says the line's number exactly if the line says another answer than the call was given, ..
    pub a_line_is_reported_exactly_if_wrong : ((playback d log).verdict ≡ LineNumber number) ↔ (said line ≢ said got)
    a_line_is_reported_exactly_if_wrong =
        next_said d table calls l log line later form call tree day distinct got gets named

    -- .. and what playback gives beside the number is the answer that the call was given.
    pub the_ruling_is_what_was_answered : (playback d log).verdict ≡ LineNumber number
        → (playback d log).ruling ≡ said got
    the_ruling_is_what_was_answered =
        next_ruling d table calls l log line later form call tree day distinct got gets named

-- Between two houses the index is full only where each holds half the slots, and 22 comes before 13: playback does not
-- say 0 to a log with a line that says 13.
pub no_13_is_confirmed : (d : ℕ) (log : List ℕ) (ls : List Line) → Bytes log → log_lines d log ≡ lines ls
    → (playback d log).verdict ≡ Code 0 → None13 ls
unfolding playback
no_13_is_confirmed d log ls bytes form e = by_size (lent_size_allowed d) refl e
  where
    by_size : (b : Bool) → lent_size_allowed d ≡ b
        → (choose b (played_log d (log_lines d log)) (says (Code 2))).verdict ≡ Code 0 → None13 ls
    by_size true l v =
        log_none_13 d l ls (log_canonical d ls log bytes form).1
        (sym (ap (λ (x : Lines). (played_log d x).verdict) form) ∙ v)
    by_size false l v = let z : ◌≡◌ {A = ℕ} 0 1 = cc in absurd (omega arith)
