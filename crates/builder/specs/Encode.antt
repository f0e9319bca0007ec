-- The record for an entry of a deal, as it is written (document 01, "The record"; document 02, request (ix)).
use Rattle.std.specs.Prelude.{ℕ, List}
use Rattle.record.specs.Form.{fields, encode}
use Rattle.lent.specs.LentDeal.{LentDeal}
use Rattle.builder.specs.Build.{segment_path_of, entry_path_of}

-- the record for an entry of a deal with a number: its commitment, offset and size, and its place
unfoldable pub record_for : LentDeal → ℕ → List ℕ → ℕ → ℕ → ℕ → List ℕ
record_for deal number commitment offset size place =
    encode (fields commitment offset size place (segment_path_of deal offset size) (entry_path_of deal place) number)
