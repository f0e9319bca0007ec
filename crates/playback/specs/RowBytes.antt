-- The bytes of a row: house, commitment, T, offset, place; 57 in all.
use Rattle.std.specs.Prelude.{ℕ, List, [], ◌∷◌, ◌++◌}
use Rattle.octets.specs.LittleEndian.{bytes_of}
use Rattle.playback.specs.declared.LedgerRow.{LedgerRow}

abbrev pub row_bytes : LedgerRow → List ℕ
row_bytes row =
    row.house ∷ (row.commitment ++ (bytes_of 8 row.size ++ (bytes_of 8 row.offset ++ bytes_of 8 row.place)))

-- rows one behind another
unfoldable pub rows_bytes : List LedgerRow → List ℕ
rows_bytes [] = []
rows_bytes (row ∷ later) = row_bytes row ++ rows_bytes later
