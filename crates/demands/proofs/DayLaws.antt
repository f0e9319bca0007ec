-- The lines of a day, played back: each is confirmed, and the ledger after them mirrors the deal and the table after
-- the calls (document 02, request (xii)).
use Rattle.std.specs.Prelude.{◌≡◌, true, ℕ, suc, List, [], ◌∷◌, ◌++◌, length}
use Rattle.std.proofs.Common.{sym, ◌∙◌, subst, inl, inr, arith}
use Rattle.std.proofs.Math.Path.{ap}
use Rattle.std.proofs.lemmas.List.{length-replicate}
use Rattle.sizes.specs.Sizes.{lent_size_allowed, entry_count}
use Rattle.sizes.specs.SizesLaws.{lent_size}
use Rattle.clerk_log.specs.Log.{lines, log_lines}
use Rattle.clerk_log.specs.declared.Line.{Line}
use Rattle.playback.specs.declared.LedgerRow.{LedgerRow}
use Rattle.playback.specs.Ledger.{empty_ledger}
use Rattle.playback.specs.Playback.{ruling, said, rows_from, play_from, playback}
use Rattle.demands.specs.Calls.{Call, DealAndTable}
use Rattle.demands.specs.DealCalls.{TreeLent, DealCall, on_deal, collect_into, BooksIt, BookedIn, after_deal_call}
use Rattle.demands.specs.DealCalls.{run_deal_calls, all_zero_deal}
use Rattle.demands.proofs.DealCallsLaws.{deal_call_length, deal_run_length}
use Rattle.demands.specs.Day.{call_lines, Names, day_lines, OfADay, Day}
use Rattle.demands.specs.Day.{standing_entries}
use Rattle.demands.specs.KeepsOnly.{Distinct, KeepsOnly}
use Rattle.demands.proofs.KeepsOnlyLaws.{zeros_keep, call_keeps, run_keeps}
use Rattle.demands.specs.Mirror.{Mirrors}
use Rattle.demands.proofs.MirrorLaws.{empty_mirrors, rows_stand}
use Rattle.demands.proofs.PlayLaws.{plays_none, plays_on}
use Rattle.demands.proofs.PlayedCallLaws.{Played, call_ruled, play_call}

-- calls in turn: the deal keeps its size d
play_day : (P : List ℕ → Type 0) → Distinct P → (d : ℕ) (calls : List DealCall) (was : DealAndTable)
    (ledger : List LedgerRow) → length was.deal ≡ d → Mirrors ledger was → KeepsOnly P was.deal → Day was calls
    → ((segment : List ℕ) → BookedIn calls segment → P segment)
    → Played d ledger (day_lines was calls) (run_deal_calls was calls)
unfolding day_lines run_deal_calls
play_day P distinct d [] was ledger size m k day books =
    record { next = ledger; plays = plays_none d ledger; mirrors = m }
play_day P distinct d (collect_into second tree ∷ later) was ledger size m k day books = absurd day.0
play_day P distinct d (on_deal call tree ∷ later) was ledger size m k day books =
    let now : DealAndTable = after_deal_call (on_deal call tree) was in
    let one : Played d ledger (call_lines (on_deal call tree) was) now =
    subst (λ (n : ℕ). Played n ledger (call_lines (on_deal call tree) was) now) size
    (play_call P distinct m k call tree day.0 (λ segment b. books segment (inl b))) in
    let rest = play_day P distinct d later now one.next (deal_call_length (on_deal call tree) was ∙ size)
    one.mirrors (call_keeps P (on_deal call tree) was (λ segment b. books segment (inl b)) k) day.1
    (λ segment b. books segment (inr b)) in
    record {
      next = rest.next;
      plays =
          plays_on d ledger one.next rest.next (call_lines (on_deal call tree) was) (day_lines now later)
          one.plays rest.plays;
      mirrors = rest.mirrors;
    }

-- a day's calls from an all-zero deal, with whatever table, whose segments are of a kind
module _ (P : List ℕ → Type 0) (distinct : Distinct P) (d : ℕ) (table : List ℕ) (calls : List DealCall)
    (l : lent_size_allowed d ≡ true) (day : Day (all_zero_deal d table) calls)
    (books : (segment : List ℕ) → BookedIn calls segment → P segment) where
  abbrev start : DealAndTable
  start = all_zero_deal d table

  -- the deal and the table after the calls, ..
  abbrev now : DealAndTable
  now = run_deal_calls start calls

  size_now : length now.deal ≡ d
  size_now = deal_run_length calls start ∙ length-replicate d 0

  -- .. and the ledger after their lines
  day_played : Played d empty_ledger (day_lines start calls) now
  day_played =
      play_day P distinct d calls start empty_ledger (length-replicate d 0) (empty_mirrors d table l)
      (zeros_keep P d l) day books

  pub ledger_then : List LedgerRow
  ledger_then = day_played.next

  then_mirrors : Mirrors ledger_then now
  unfolding ledger_then
  then_mirrors = day_played.mirrors

  -- its rows are the standing entries
  pub then_rows :
      rows_from ledger_then 0 (entry_count d) ≡ standing_entries (run_deal_calls (all_zero_deal d table) calls)
  then_rows =
      let t = (lent_size (length now.deal) (ap lent_size_allowed size_now ∙ l)).deal in
      ap (λ (n : ℕ). rows_from ledger_then 0 (entry_count n)) (sym size_now)
      ∙ rows_stand (entry_count (length now.deal)) 0 then_mirrors t (omega arith)

  -- a log that starts with the lines of these calls is played from that ledger on
  pub played_on : (log : List ℕ) (later : List Line)
      → log_lines d log ≡ lines (day_lines (all_zero_deal d table) calls ++ later)
      → playback d log ≡ play_from d ledger_then (suc (length (day_lines (all_zero_deal d table) calls))) later
  unfolding playback ledger_then
  played_on log later e =
      rw (l, e)
      (day_played.plays 1 later ∙ ap (λ (k : ℕ). play_from d day_played.next k later) (omega arith))

  -- for a line that names one more call, which got a line, the rules give there what the call was answered
  pub then_ruled : (call : Call) (tree : TreeLent)
      → OfADay (on_deal call tree) (run_deal_calls (all_zero_deal d table) calls)
      → ((segment : List ℕ) → BooksIt (on_deal call tree) segment → P segment) → (got line : Line)
      → call_lines (on_deal call tree) (run_deal_calls (all_zero_deal d table) calls) ≡ got ∷ [] → Names call line
      → ruling d ledger_then line ≡ said got
  then_ruled call tree f of_kind_lem got line e named =
      ap (λ (n : ℕ). ruling n ledger_then line) (sym size_now)
      ∙ call_ruled P distinct then_mirrors
      (run_keeps P calls start books (zeros_keep P d l)) call tree f of_kind_lem got
      line e named
