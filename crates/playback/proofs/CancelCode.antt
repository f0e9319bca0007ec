-- The code of a cancellation, by the tests on the way.
use mathlib.Core.Path.{◌≡◌, refl, sym, ap, ◌∙◌}
use mathlib.Core.Bool.{Bool, true, false, ◌&&◌, not, and-false}
use mathlib.Core.Logic.{◌≢◌}
use Prim.Native.Nat.{ℕ, zero, suc}
use native.Mathlib.Omega.{arith}
use mathlib.Core.List.{List}
use lib.ListN.{set}
use lib.Dec.{eqb}
use borrow.Author.Tests.{eq-eqb, ne_eqb}
use Rattle.rules.specs.Refusals.{first_of, unless_refused}
use Rattle.rules.specs.RefusalLaws.{none_refused}
use Rattle.sizes.specs.Sizes.{place_allowed}
use Rattle.index.specs.Written.{slot_of}
use Rattle.houses.specs.Deciding.{place_rules}
use Rattle.clerk_log.specs.declared.Line.TheVariants.{Cancelling as cancelling}
use Rattle.clerk_log.specs.declared.CancellingLine.{CancellingLine}
use Rattle.playback.specs.declared.LedgerRow.{LedgerRow}
use Rattle.playback.specs.Ledger.{vacant, is_vacant, ledger_row, ledger_owners, ledger_cancel_code, ledger_after}
use Rattle.playback.specs.LedgerLaws.{owner_at_lem}

module _ (d : ℕ) (ledger : List LedgerRow) (line : CancellingLine) where
  -- 6 off the index
  pub off_index : place_allowed d line.place ≡ false → 6 ≡ ledger_cancel_code d ledger line
  unfolding ledger_cancel_code
  off_index e = rw e

  -- a place with code 0 is one of the index
  pub done_allowed : ledger_cancel_code d ledger line ≡ 0 → place_allowed d line.place ≡ true
  unfolding ledger_cancel_code
  done_allowed e =
      let stands = not (is_vacant (ledger_row ledger (slot_of d line.place))) in
      (none_refused (place_rules d (ledger_owners ledger) line.house line.place stands)
      (omega arith, (omega arith, tt)) e).0

  module _ (allowed : place_allowed d line.place ≡ true) (row : LedgerRow)
      (at : row ≡ ledger_row ledger (slot_of d line.place)) where
    -- on the index: by the row there
    abbrev own : LedgerRow → Bool
    own x = not (is_vacant x) && eqb x.house line.house

    by_row : first_of (own row) 16 0 ≡ ledger_cancel_code d ledger line
    unfolding ledger_cancel_code
    by_row =
        let slot = slot_of d line.place in
        rw allowed
        (ap (λ (x : LedgerRow). first_of (own x) 16 0) at
        ∙ ap (λ (owner : ℕ). first_of (not (is_vacant (ledger_row ledger slot)) && eqb owner line.house) 16 0)
        (sym (owner_at_lem ledger slot)))

    -- 16 without a row of the house
    pub no_row : row.size ≡ 0 → 16 ≡ ledger_cancel_code d ledger line
    no_row e = rw (eq-eqb row.size 0 e) refl ∙ by_row

    pub another_house : eqb row.house line.house ≡ false → 16 ≡ ledger_cancel_code d ledger line
    another_house e = rw (e, and-false (not (is_vacant row))) refl ∙ by_row

    -- 0 with one
    pub own_row : row.size ≢ 0 → eqb row.house line.house ≡ true → 0 ≡ ledger_cancel_code d ledger line
    own_row ne e = rw (ne_eqb row.size 0 ne, e) refl ∙ by_row

  -- the ledger after it, by its code
  unless_done : (code : ℕ) (other : List LedgerRow) → code ≢ 0
      → ledger ≡ unless_refused code (λ (c : ℕ). ledger) other
  unless_done zero other ne = absurd (ne refl)
  unless_done (suc code) other ne = refl

  pub after_refused : ledger_cancel_code d ledger line ≢ 0 → ledger ≡ ledger_after d ledger (cancelling line)
  unfolding ledger_after
  after_refused ne = unless_done (ledger_cancel_code d ledger line) (set ledger (slot_of d line.place) vacant) ne

  pub after_done : ledger_cancel_code d ledger line ≡ 0
      → set ledger (slot_of d line.place) vacant ≡ ledger_after d ledger (cancelling line)
  unfolding ledger_after
  after_done e = rw e
