-- The line of a log after those of a day's calls, held against the line of the call that came next: which number
-- playback says, and what it gives beside it (document 02, request (xii)).
use Rattle.std.specs.Prelude.{◌≡◌, true, ◌↔◌, ◌≢◌, ℕ, suc, ◌<◌, List, [], ◌∷◌, ◌++◌, length}
use Rattle.std.proofs.Common.{sym, ap, ◌∙◌, arith, append_assoc, length-append}
use Rattle.sizes.specs.Sizes.{lent_size_allowed}
use Rattle.clerk_log.specs.Log.{lines, log_lines}
use Rattle.clerk_log.specs.declared.Line.{Line}
use Rattle.playback.specs.declared.LedgerRow.{LedgerRow}
use Rattle.playback.specs.Playback.{LineNumber}
use Rattle.playback.specs.Playback.{Playback}
use Rattle.playback.specs.Playback.{ruling, said, play_from, playback}
use Rattle.demands.specs.Calls.{Call, DealAndTable}
use Rattle.demands.specs.DealCalls.{TreeLent, DealCall, on_deal, BookedIn, run_deal_calls, all_zero_deal}
use Rattle.demands.specs.Day.{call_lines, Names, day_lines, Day, NoTwoShare}
use Rattle.demands.proofs.PlayLaws.{said_from, says_number, gives_ruling}
use Rattle.demands.proofs.DayLaws.{ledger_then, played_on, then_ruled}
use Rattle.demands.proofs.OneMoreLaws.{day_before, day_last, booked_before, booked_last, lines_more}

-- the lines of a day are confirmed: a number that is said is that of a later line
pub said_later : (d : ℕ) (table : List ℕ) (calls : List DealCall) → lent_size_allowed d ≡ true
    → Day (all_zero_deal d table) calls → NoTwoShare calls → (log : List ℕ) (later : List Line)
    → log_lines d log ≡ lines (day_lines (all_zero_deal d table) calls ++ later) → (n : ℕ)
    → (playback d log).verdict ≡ LineNumber n → length (day_lines (all_zero_deal d table) calls) < n
said_later d table calls l day distinct log later form n e =
    let ledger = ledger_then (BookedIn calls) distinct d table calls l day (λ segment b. b) in
    let on = played_on (BookedIn calls) distinct d table calls l day (λ segment b. b) log later form in
    said_from d later ledger (suc (length (day_lines (all_zero_deal d table) calls))) n
    (sym (ap (λ (p : Playback). p.verdict) on) ∙ e)

-- a log with the lines of a day's calls, one more line, and whatever comes after it
module _ (d : ℕ) (table : List ℕ) (calls : List DealCall) (l : lent_size_allowed d ≡ true) (log : List ℕ) (line : Line)
    (later : List Line)
    (form : log_lines d log ≡ lines (day_lines (all_zero_deal d table) calls ++ (line ∷ later))) where
  abbrev start : DealAndTable
  start = all_zero_deal d table

  -- the lines before, the number of the line, and the deal and the table when the next call comes
  abbrev before : List Line
  before = day_lines start calls

  abbrev number : ℕ
  number = suc (length before)

  abbrev now : DealAndTable
  now = run_deal_calls start calls

  -- the line that the next call got is confirmed
  pub next_line_confirmed : (call : DealCall) → Day (all_zero_deal d table) (calls ++ (call ∷ []))
      → NoTwoShare (calls ++ (call ∷ [])) → (playback d log).verdict ≡ LineNumber number
      → call_lines call now ≢ line ∷ []
  next_line_confirmed call day distinct e got =
      let all : day_lines start (calls ++ (call ∷ [])) ≡ before ++ (line ∷ []) =
      lines_more call calls start ∙ ap (λ (ls : List Line). before ++ ls) got in
      let whole : log_lines d log ≡ lines (day_lines start (calls ++ (call ∷ [])) ++ later) =
      form ∙ ap lines (sym (ap (λ (ls : List Line). ls ++ later) all ∙ append_assoc before (line ∷ []) later)) in
      omega (
        arith,
        said_later d table (calls ++ (call ∷ [])) l day distinct log later whole number e,
        ap length all,
        length-append before (line ∷ []),
      )

  -- the next call got a line, and the line of the log names that call
  module _ (call : Call) (tree : TreeLent) (day : Day (all_zero_deal d table) (calls ++ (on_deal call tree ∷ [])))
      (distinct : NoTwoShare (calls ++ (on_deal call tree ∷ []))) (got : Line)
      (gets : call_lines (on_deal call tree) now ≡ got ∷ []) (named : Names call line) where
    abbrev next : DealCall
    next = on_deal call tree

    abbrev BookedThen : List ℕ → Type 0
    BookedThen = BookedIn (calls ++ (next ∷ []))

    day_then : Day start calls
    day_then = day_before next calls start day

    -- the ledger when the line is played, what is said from there on, and what the rules give for the line
    ledger : List LedgerRow
    ledger = ledger_then BookedThen distinct d table calls l day_then (booked_before next calls)

    from_there : playback d log ≡ play_from d ledger number (line ∷ later)
    unfolding ledger
    from_there =
        played_on BookedThen distinct d table calls l day_then (booked_before next calls) log (line ∷ later) form

    ruled : ruling d ledger line ≡ said got
    unfolding ledger
    ruled =
        then_ruled BookedThen distinct d table calls l day_then (booked_before next calls) call tree
        (day_last next calls start day) (booked_last next calls) got line gets named

    said_there : (playback d log).verdict ≡ LineNumber number
        → (play_from d ledger number (line ∷ later)).verdict ≡ LineNumber number
    said_there e = sym (ap (λ (p : Playback). p.verdict) from_there) ∙ e

    pub next_said : ((playback d log).verdict ≡ LineNumber number) ↔ (said line ≢ said got)
    next_said = (
      λ e same. (says_number d ledger number line later).0 (said_there e) (same ∙ sym ruled),
      λ other.
          ap (λ (p : Playback). p.verdict) from_there
          ∙ (says_number d ledger number line later).1 (λ same. other (same ∙ ruled)),
    )

    pub next_ruling : (playback d log).verdict ≡ LineNumber number → (playback d log).ruling ≡ said got
    next_ruling e =
        ap (λ (p : Playback). p.ruling) from_there ∙ gives_ruling d ledger number line later (said_there e) ∙ ruled
