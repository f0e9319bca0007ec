-- Rows written one behind another, as bytes.
use mathlib.Core.Path.{◌≡◌, refl, sym, ap, ◌∙◌}
use Prim.Native.Nat.{ℕ, ◌+◌, ◌*◌, ◌≤◌, ◌<◌}
use native.Mathlib.Numerals.{add-one}
use native.Mathlib.Omega.{arith}
use mathlib.Core.List.{List, [], ◌∷◌, ◌++◌, append_assoc, append-nil}
use lib.ListN.{length, take, length-append}
use lib.Seq.{take-suc}
use Rattle.octets.specs.LittleEndian.{bytes_of}
use Rattle.octets.specs.LittleEndianLaws.{length_bytes_of}
use Rattle.octets.specs.Splice.{splice}
use Rattle.playback.specs.declared.LedgerRow.{LedgerRow}
use Rattle.playback.specs.Ledger.{vacant, ledger_row}
use Rattle.playback.specs.RowBytes.{row_bytes, rows_bytes}
use Rattle.playback.proofs.Parts.{Written, written_next}

-- a row whose commitment has 32 bytes has 57
pub row_bytes_length : (row : LedgerRow) → length row.commitment ≡ 32 → length (row_bytes row) ≡ 57
row_bytes_length row e =
    let size = length_bytes_of 8 row.size in
    let offset = length_bytes_of 8 row.offset in
    let place = length_bytes_of 8 row.place in
    simp length-append (omega arith)

-- its parts, written one behind another, are its bytes
module _ (d : List ℕ) (at : ℕ) (row : LedgerRow) (fits : at + 57 ≤ length d) (sized : length row.commitment ≡ 32)
  where
    abbrev house : List ℕ
    house = row.house ∷ []

    abbrev to_commitment : List ℕ
    to_commitment = house ++ row.commitment

    abbrev to_size : List ℕ
    to_size = to_commitment ++ bytes_of 8 row.size

    abbrev to_offset : List ℕ
    to_offset = to_size ++ bytes_of 8 row.offset

    pub parts_written : (u v w x y : List ℕ) → u ≡ splice d at (row.house ∷ [])
        → v ≡ splice u (at + 1) row.commitment
        → w ≡ splice v (at + 33) (bytes_of 8 row.size)
        → x ≡ splice w (at + 41) (bytes_of 8 row.offset)
        → y ≡ splice x (at + 49) (bytes_of 8 row.place)
        → y ≡ splice d at (row_bytes row)
    parts_written u v w x y a b c e f =
        let h : Written d at 1 house u = record { sized = refl; is = a } in
        let k : Written d at 33 to_commitment v =
        written_next d at 1 house u (omega arith) h (at + 1) 32 row.commitment v refl sized b in
        let s : Written d at 41 to_size w =
        written_next d at 33 to_commitment v (omega arith) k (at + 33) 8 (bytes_of 8 row.size) w refl
        (length_bytes_of 8 row.size) c in
        let o : Written d at 49 to_offset x =
        written_next d at 41 to_size w (omega arith) s (at + 41) 8 (bytes_of 8 row.offset) x refl
        (length_bytes_of 8 row.offset) e in
        let p : Written d at 57 (to_offset ++ bytes_of 8 row.place) y =
        written_next d at 49 to_offset x (omega arith) o (at + 49) 8 (bytes_of 8 row.place) y refl
        (length_bytes_of 8 row.place) f in
        p.is ∙ ap (splice d at) (simp append_assoc)

-- the first rows, and one more
rows_append : (rows later : List LedgerRow) → rows_bytes (rows ++ later) ≡ rows_bytes rows ++ rows_bytes later
unfolding rows_bytes
rows_append [] later = refl
rows_append (row ∷ rows) later =
    ap (λ (bytes : List ℕ). row_bytes row ++ bytes) (rows_append rows later)
    ∙ sym (append_assoc (row_bytes row) (rows_bytes rows) (rows_bytes later))

rows_next : (rows : List LedgerRow) (i : ℕ) → i < length rows
    → rows_bytes (take (i + 1) rows) ≡ rows_bytes (take i rows) ++ row_bytes (ledger_row rows i)
unfolding rows_bytes
rows_next rows i h =
    ap (λ (n : ℕ). rows_bytes (take n rows)) (add-one i)
    ∙ ap rows_bytes (take-suc rows i vacant h)
    ∙ rows_append (take i rows) (ledger_row rows i ∷ [])
    ∙ ap (λ (bytes : List ℕ). rows_bytes (take i rows) ++ bytes) (append-nil (row_bytes (ledger_row rows i)))

-- the first rows stand at the front of an output, and one more
pub row_written : (output : List ℕ) (rows : List LedgerRow) (i : ℕ) (before after : List ℕ) (row : LedgerRow)
    → i < length rows → row ≡ ledger_row rows i → length (row_bytes row) ≡ 57 → 57 * i ≤ length output
    → Written output 0 (57 * i) (rows_bytes (take i rows)) before → after ≡ splice before (57 * i) (row_bytes row)
    → Written output 0 (57 * (i + 1)) (rows_bytes (take (i + 1) rows)) after
row_written output rows i before after row h at sized fits w e =
    let next = written_next output 0 (57 * i) (rows_bytes (take i rows)) before (omega arith) w (57 * i) 57
    (row_bytes row) after (omega arith) sized e in
    let bytes : rows_bytes (take i rows) ++ row_bytes row ≡ rows_bytes (take (i + 1) rows) =
    ap (λ (r : LedgerRow). rows_bytes (take i rows) ++ row_bytes r) at ∙ sym (rows_next rows i h) in
    record {
      sized = ap length (sym bytes) ∙ next.sized ∙ omega arith;
      is = next.is ∙ ap (splice output 0) bytes;
    }
