-- Rows that hold something, gathered at the front of an array of vacant ones.
use mathlib.Core.Path.{◌≡◌, refl, sym, ap, ap₂, ◌∙◌}
use mathlib.Core.Bool.{true, false}
use Prim.Native.Nat.{ℕ, suc, ◌+◌, ◌-◌, ◌≤◌, ◌<◌}
use native.Mathlib.Nat.{sub-zero}
use native.Mathlib.Numerals.{add-one}
use native.Mathlib.Omega.{arith}
use mathlib.Core.List.{List, [], ◌∷◌, ◌++◌, append-nil}
use lib.ListN.{length, set, replicate, length-append}
use lib.Seq.{append_snoc, set_at}
use Rattle.playback.specs.declared.LedgerRow.{LedgerRow}
use Rattle.playback.specs.Playback.{Code}
use Rattle.playback.specs.Ledger.{vacant, is_vacant, empty_ledger, ledger_row}
use Rattle.playback.specs.Playback.{code_alone, and_row, rows_from, with_rows}

module _ (ledger : List LedgerRow) (slots : ℕ) where
  -- so many rows are gathered of those below slot i, and what is gathered from there on makes them whole
  pub record Gathered (i count : ℕ) (rows : List LedgerRow) : Type 0 where
    pub found : List LedgerRow
    pub counted : length found ≡ count
    pub padded : rows ≡ found ++ replicate (128 - count) vacant
    pub whole : found ++ rows_from ledger i (slots - i) ≡ rows_from ledger 0 slots

  -- at first none are
  pub gather_start : Gathered 0 0 empty_ledger
  gather_start =
      record { found = []; counted = refl; padded = refl; whole = ap (rows_from ledger 0) (sub-zero slots) }

  module _ (i count : ℕ) (rows : List LedgerRow) (h : i < slots) (g : Gathered i count rows) (row : LedgerRow)
      (at : row ≡ ledger_row ledger i) where
    -- the row of slot i, and those after it
    next : rows_from ledger i (slots - i) ≡ and_row row (rows_from ledger (i + 1) (slots - (i + 1)))
    unfolding rows_from
    next =
        let left : slots - i ≡ suc (slots - (i + 1)) = omega arith in
        rw (left, add-one i) (ap (λ (r : LedgerRow). and_row r (rows_from ledger (suc i) (slots - suc i))) (sym at))

    -- a vacant row is passed over
    pub gather_none : is_vacant row ≡ true → Gathered (i + 1) count rows
    gather_none e =
        let there : rows_from ledger i (slots - i) ≡ rows_from ledger (i + 1) (slots - (i + 1)) = next ∙ rw e in
        record {
          found = g.found;
          counted = g.counted;
          padded = g.padded;
          whole = ap (λ (rs : List LedgerRow). g.found ++ rs) (sym there) ∙ g.whole;
        }

    -- any other is added
    pub gather_one : count < 128 → is_vacant row ≡ false → Gathered (i + 1) (count + 1) (set rows count row)
    gather_one l e =
        let room : 128 - count ≡ suc (128 - (count + 1)) = omega arith in
        let there : rows_from ledger i (slots - i) ≡ row ∷ rows_from ledger (i + 1) (slots - (i + 1)) = next ∙ rw e in
        record {
          found = g.found ++ (row ∷ []);
          counted = length-append g.found (row ∷ []) ∙ omega (arith, g.counted);
          padded =
              ap (λ (rs : List LedgerRow). set rs count row) g.padded
              ∙ ap (λ (n : ℕ). set (g.found ++ replicate n vacant) count row) room
              ∙ set_at g.found vacant (replicate (128 - (count + 1)) vacant) row count g.counted
              ∙ sym (append_snoc g.found row (replicate (128 - (count + 1)) vacant));
          whole =
              append_snoc g.found row (rows_from ledger (i + 1) (slots - (i + 1)))
              ∙ ap (λ (rs : List LedgerRow). g.found ++ rs) (sym there)
              ∙ g.whole;
        }

  -- with no slot left they are all
  pub gathered : (i count : ℕ) (rows : List LedgerRow) → slots ≤ i → Gathered i count rows
      → record { verdict = Code 0; ruling = code_alone 0; count = count; rows = rows }
      ≡ with_rows (rows_from ledger 0 slots)
  unfolding rows_from
  gathered i count rows h g =
      let none : slots - i ≡ 0 = omega arith in
      let all : g.found ≡ rows_from ledger 0 slots =
      sym (append-nil g.found)
      ∙ ap (λ (n : ℕ). g.found ++ rows_from ledger i n) (sym none)
      ∙ g.whole in
      ap₂ (λ (n : ℕ) (rs : List LedgerRow). record { verdict = Code 0; ruling = code_alone 0; count = n; rows = rs })
      (sym g.counted) (g.padded ∙ ap (λ (n : ℕ). g.found ++ replicate (128 - n) vacant) (sym g.counted))
      ∙ ap with_rows all
