-- A day's calls and one more: what holds of all of them holds of those before the last, and the last comes on the deal
-- and the table that those leave.
use Rattle.std.specs.Prelude.{◌≡◌, ℕ}
use Rattle.std.proofs.Math.Path.{sym, ap}
use Rattle.std.proofs.Common.{◌∙◌, inl, inr, ⊎_elim}
use mathlib.Core.List.{List, [], ◌∷◌, ◌++◌, append_assoc, append-nil}
use Rattle.clerk_log.specs.declared.Line.{Line}
use Rattle.demands.specs.Calls.{DealAndTable}
use Rattle.demands.specs.DealCalls.{DealCall, BooksIt, BookedIn, after_deal_call, run_deal_calls}
use Rattle.demands.specs.Day.{call_lines, day_lines, OfADay, Day}

module _ (call : DealCall) where
  pub day_before : (calls : List DealCall) (was : DealAndTable) → Day was (calls ++ (call ∷ [])) → Day was calls
  day_before [] was day = tt
  day_before (first ∷ later) was day = (day.0, day_before later (after_deal_call first was) day.1)

  pub day_last : (calls : List DealCall) (was : DealAndTable) → Day was (calls ++ (call ∷ []))
      → OfADay call (run_deal_calls was calls)
  unfolding run_deal_calls
  day_last [] was day = day.0
  day_last (first ∷ later) was day = day_last later (after_deal_call first was) day.1

  pub booked_before : (calls : List DealCall) (segment : List ℕ) → BookedIn calls segment
      → BookedIn (calls ++ (call ∷ [])) segment
  booked_before [] segment b = absurd b
  booked_before (first ∷ later) segment b = ⊎_elim (λ x. inl x) (λ y. inr (booked_before later segment y)) b

  pub booked_last : (calls : List DealCall) (segment : List ℕ) → BooksIt call segment
      → BookedIn (calls ++ (call ∷ [])) segment
  booked_last [] segment b = inl b
  booked_last (first ∷ later) segment b = inr (booked_last later segment b)

  pub lines_more : (calls : List DealCall) (was : DealAndTable)
      → day_lines was (calls ++ (call ∷ [])) ≡ day_lines was calls ++ call_lines call (run_deal_calls was calls)
  unfolding day_lines run_deal_calls
  lines_more [] was = append-nil (call_lines call was)
  lines_more (first ∷ later) was =
      let now : DealAndTable = after_deal_call first was in
      ap (λ (ls : List Line). call_lines first was ++ ls) (lines_more later now)
      ∙ sym (append_assoc (call_lines first was) (day_lines now later) (call_lines call (run_deal_calls now later)))
