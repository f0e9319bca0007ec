-- A record's fields by their places: what parsing answers.
use Rattle.std.specs.Prelude.{ℕ, List, get_or, replicate}
use Rattle.octets.specs.LittleEndian.{number_of}
use Rattle.octets.specs.Splice.{part}
use Rattle.fields.specs.Spans.{Spans, spans, misplaced, spans_from}
use Rattle.record.specs.Form.{layout}

-- what parsing answers: a code, and with 0 a record's fields, its paths by their places and lengths
pub record ParsedRecord : Type 0 where
  pub code : ℕ
  pub commitment : List ℕ
  pub offset : ℕ
  pub size : ℕ
  pub place : ℕ
  pub segment_path : ℕ
  pub segment_path_length : ℕ
  pub entry_path : ℕ
  pub entry_path_length : ℕ
  pub number : ℕ

-- with a refusal every number is 0, and the commitment 32 zero bytes
abbrev pub unread : ℕ → ParsedRecord
unread code =
    record {
      code = code;
      commitment = replicate 32 0;
      offset = 0;
      size = 0;
      place = 0;
      segment_path = 0;
      segment_path_length = 0;
      entry_path = 0;
      entry_path_length = 0;
      number = 0;
    }

-- the content of a row, where the contents have these starts and lengths
abbrev pub content_at : List ℕ → List ℕ → List ℕ → ℕ → List ℕ
content_at r starts lengths row = part r (get_or starts row 0) (get_or lengths row 0)

-- the fields that spans name; 3 where the fields are not those of the table
abbrev pub read_at : List ℕ → Spans → ParsedRecord
read_at r (spans starts lengths) =
    record {
      code = 0;
      commitment = content_at r starts lengths 0;
      offset = number_of (content_at r starts lengths 1);
      size = number_of (content_at r starts lengths 2);
      place = number_of (content_at r starts lengths 3);
      segment_path = get_or starts 4 0;
      segment_path_length = get_or lengths 4 0;
      entry_path = get_or starts 5 0;
      entry_path_length = get_or lengths 5 0;
      number = number_of (content_at r starts lengths 6);
    }
read_at r misplaced = unread 3

unfoldable pub parsed_record : List ℕ → ParsedRecord
parsed_record r = read_at r (spans_from layout r 0)
