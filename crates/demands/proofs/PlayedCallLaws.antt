-- One call of a day on a deal that a ledger mirrors: for a line that names it the rules give what it was answered, so
-- its own line is confirmed, and the ledger after that mirrors what the call leaves (document 02, request (xii)).
use Rattle.std.specs.Prelude.{◌≡◌, refl, Bool, true, false, ℕ, List, [], ◌∷◌, length}
use Rattle.std.proofs.Common.{sym, ◌∙◌, subst, subst₂, arith}
use Rattle.std.proofs.Math.Path.{ap}
use Rattle.rules.specs.Choice.{choose}
use Rattle.lent.specs.LentDeal.{lent_deal}
use Rattle.booking.specs.Write.{segment_commitment}
use Rattle.cancel.specs.Cancel.{cancel_code}
use Rattle.clerk_log.specs.Log.{booking_logged, cancelling_logged}
use Rattle.clerk_log.specs.declared.Line.{Line}
use Rattle.clerk_log.specs.declared.Line.TheVariants.{Booking as booking, Cancelling as cancelling}
use Rattle.clerk_log.specs.declared.BookingLine.{BookingLine}
use Rattle.clerk_log.specs.declared.CancellingLine.{CancellingLine}
use Rattle.playback.specs.declared.LedgerRow.{LedgerRow}
use Rattle.playback.specs.Ledger.{ledger_after}
use Rattle.playback.specs.Playback.{code_alone, ruling, said}
use Rattle.demands.specs.Calls.{Call, book_segment, cancel_place, DealAndTable, answer_in, after_plain_call}
use Rattle.demands.specs.DealCalls.{TreeLent, on_deal, BooksIt, after_deal_call}
use Rattle.demands.specs.Day.{booking_line, cancelling_line, logged_call, call_lines, Names, OfADay}
use Rattle.demands.proofs.DayTreeLaws.{plain_lines, plain_after}
use Rattle.demands.specs.KeepsOnly.{Distinct, KeepsOnly}
use Rattle.demands.specs.Mirror.{Mirrors}
use Rattle.demands.proofs.MirrorCallLaws.{same_answer_lem, booking_mirrored, same_code, cancelling_mirrored}
use Rattle.demands.proofs.LoggedLaws.{unlogged_booking, unlogged_cancelling}
use Rattle.demands.proofs.PlayLaws.{PlaysTo, same_answers, plays_none, plays_line}

-- lines played from a ledger: all are confirmed, and the ledger after them mirrors a deal and its table
pub record Played (d : ℕ) (ledger : List LedgerRow) (ls : List Line) (now : DealAndTable) : Type 0 where
  pub next : List LedgerRow
  pub plays : PlaysTo d ledger ls next
  pub mirrors : Mirrors next now

-- one call on a deal that a ledger mirrors, where no two different segments of a kind share commitment and size
module _ (P : List ℕ → Type 0) (distinct : Distinct P) {ledger : List LedgerRow} {was : DealAndTable}
    (m : Mirrors ledger was) (k : KeepsOnly P was.deal) where
  abbrev d : ℕ
  d = length was.deal

  -- the code of a cancellation
  abbrev code_at : ℕ → ℕ → ℕ
  code_at house place = cancel_code (lent_deal was.deal) was.table house place

  -- what the rules give for a line that names a call that got one
  booking_ruled : (house : ℕ) (segment : List ℕ) → P segment
      → booking_logged (answer_in was house segment).code ≡ true → (line : Line)
      → Names (book_segment house segment) line → ruling d ledger line ≡ answer_in was house segment
  unfolding ruling
  booking_ruled house segment p l (booking line) named =
      same_answer_lem m P k house segment (λ s q. distinct s segment q p) l line named
  booking_ruled house segment p l (cancelling line) named = absurd named

  cancelling_ruled : (house place : ℕ) → cancelling_logged (code_at house place) ≡ true → (line : Line)
      → Names (cancel_place house place) line → ruling d ledger line ≡ code_alone (code_at house place)
  unfolding ruling
  cancelling_ruled house place l (booking line) named = absurd named
  cancelling_ruled house place l (cancelling line) named = ap code_alone (same_code m P k house place l line named)

  -- the line that a call got says what it was answered: so the rules give what that line says
  booking_got : (house : ℕ) (segment : List ℕ) → P segment → (got line : Line)
      → logged_call (book_segment house segment) (lent_deal was.deal) was.table ≡ got ∷ []
      → Names (book_segment house segment) line → ruling d ledger line ≡ said got
  booking_got house segment p got line e named =
      by_test (booking_logged (answer_in was house segment).code) refl e
    where
      by_test : (b : Bool) → booking_logged (answer_in was house segment).code ≡ b
          → choose b (booking_line house segment (answer_in was house segment) ∷ []) [] ≡ got ∷ []
          → ruling d ledger line ≡ said got
      by_test true l g =
          let same : booking_line house segment (answer_in was house segment) ≡ got = cc in
          booking_ruled house segment p l line named ∙ ap said same
      by_test false l g = absurd (omega (arith, ap length g))

  cancelling_got : (house place : ℕ) (got line : Line)
      → logged_call (cancel_place house place) (lent_deal was.deal) was.table ≡ got ∷ []
      → Names (cancel_place house place) line → ruling d ledger line ≡ said got
  cancelling_got house place got line e named = by_test (cancelling_logged (code_at house place)) refl e
    where
      by_test : (b : Bool) → cancelling_logged (code_at house place) ≡ b
          → choose b (cancelling_line house place (code_at house place) ∷ []) [] ≡ got ∷ []
          → ruling d ledger line ≡ said got
      by_test true l g =
          let same : cancelling_line house place (code_at house place) ≡ got = cc in
          cancelling_ruled house place l line named ∙ ap said same
      by_test false l g = absurd (omega (arith, ap length g))

  pub call_ruled : (call : Call) (tree : TreeLent) → OfADay (on_deal call tree) was
      → ((segment : List ℕ) → BooksIt (on_deal call tree) segment → P segment) → (got line : Line)
      → call_lines (on_deal call tree) was ≡ got ∷ [] → Names call line → ruling d ledger line ≡ said got
  call_ruled call tree f books got line e named =
      plain_ruled call books (sym (plain_lines call tree was f) ∙ e) named
    where
      plain_ruled : (x : Call) → ((segment : List ℕ) → BooksIt (on_deal x tree) segment → P segment)
          → logged_call x (lent_deal was.deal) was.table ≡ got ∷ [] → Names x line
          → ruling d ledger line ≡ said got
      plain_ruled (book_segment house segment) of_kind_lem =
          booking_got house segment (of_kind_lem segment refl) got line
      plain_ruled (cancel_place house place) of_kind_lem = cancelling_got house place got line

  -- so the line of a call is confirmed, and the ledger after it mirrors what the call leaves; a call without a line
  -- changes neither
  play_booking : (house : ℕ) (segment : List ℕ) → P segment
      → Played d ledger (logged_call (book_segment house segment) (lent_deal was.deal) was.table)
      (after_plain_call (book_segment house segment) was)
  play_booking house segment p = by_test (booking_logged (answer_in was house segment).code) refl
    where
      line : BookingLine
      line =
          record {
            house = house;
            commitment = segment_commitment segment;
            size = length segment;
            answer = answer_in was house segment;
          }

      by_test : (b : Bool) → booking_logged (answer_in was house segment).code ≡ b
          → Played d ledger (choose b (booking_line house segment (answer_in was house segment) ∷ []) [])
          (after_plain_call (book_segment house segment) was)
      by_test true l =
          record {
            next = ledger_after d ledger (booking line);
            plays =
                plays_line d ledger (booking line)
                (same_answers (ruling d ledger (booking line)) (answer_in was house segment)
                (booking_ruled house segment p l (booking line) (refl, refl, refl)));
            mirrors =
                booking_mirrored m P k house segment (λ s q. distinct s segment q p) l line (refl, refl, refl);
          }
      by_test false l =
          record {
            next = ledger;
            plays = plays_none d ledger;
            mirrors = subst (Mirrors ledger) (sym (unlogged_booking was house segment l)) m;
          }

  play_cancelling : (house place : ℕ)
      → Played d ledger (logged_call (cancel_place house place) (lent_deal was.deal) was.table)
      (after_plain_call (cancel_place house place) was)
  play_cancelling house place = by_test (cancelling_logged (code_at house place)) refl
    where
      line : CancellingLine
      line = record { house = house; place = place; code = code_at house place }

      by_test : (b : Bool) → cancelling_logged (code_at house place) ≡ b
          → Played d ledger (choose b (cancelling_line house place (code_at house place) ∷ []) [])
          (after_plain_call (cancel_place house place) was)
      by_test true l =
          record {
            next = ledger_after d ledger (cancelling line);
            plays =
                plays_line d ledger (cancelling line)
                (same_answers (ruling d ledger (cancelling line)) (code_alone (code_at house place))
                (cancelling_ruled house place l (cancelling line) (refl, refl)));
            mirrors = cancelling_mirrored m P k house place l line (refl, refl);
          }
      by_test false l =
          record {
            next = ledger;
            plays = plays_none d ledger;
            mirrors = subst (Mirrors ledger) (sym (unlogged_cancelling was house place l)) m;
          }

  pub play_call : (call : Call) (tree : TreeLent) → OfADay (on_deal call tree) was
      → ((segment : List ℕ) → BooksIt (on_deal call tree) segment → P segment)
      → Played d ledger (call_lines (on_deal call tree) was) (after_deal_call (on_deal call tree) was)
  play_call call tree f books =
      subst₂ (Played d ledger) (sym (plain_lines call tree was f)) (sym (plain_after call tree was f))
      (plain_call call books)
    where
      plain_call : (x : Call) → ((segment : List ℕ) → BooksIt (on_deal x tree) segment → P segment)
          → Played d ledger (logged_call x (lent_deal was.deal) was.table) (after_plain_call x was)
      plain_call (book_segment house segment) of_kind_lem = play_booking house segment (of_kind_lem segment refl)
      plain_call (cancel_place house place) of_kind_lem = play_cancelling house place
