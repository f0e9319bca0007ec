-- The fields that the reader hands out (document 01, "The record": "Fields are read in turn, each answer being the
-- field with the next place, or else
-- the refusal", and "a reader that holds the lent record hands out the same fields").
use Rattle.std.specs.Prelude.{ℕ, zero, suc, List, [], ◌∷◌, eqb, length, drop}
use Rattle.std.specs.Borrow.{Bor}
use Rattle.rules.specs.Choice.{choose}
use Rattle.octets.specs.Splice.{part}
use Rattle.fields.specs.Table.{Contents, contents, malformed, add_content}
use Rattle.fields.specs.FieldAt.{field_at, asked}
use Rattle.fields.specs.declared.FieldRule.{FieldRule}
use Rattle.fields.specs.FieldAt.{Field}
use Rattle.fields.specs.FieldAt.{Content, Refused}
use Rattle.record.specs.Form.{layout, Parsed, fields_in}
use Rattle.reader.specs.declared.RecordReader.{RecordReader}

-- the place after the field that was read at a place; after the refusal it is the same place
abbrev pub next_place : Field → ℕ → ℕ
next_place (Content tag start n next) at = next
next_place Refused at = at

-- the place after n fields in turn
unfoldable pub place_after : ℕ → List ℕ → ℕ → ℕ
place_after zero r at = at
place_after (suc n) r at = place_after n r (next_place (field_at r at) at)

-- the reader of a lent record, at a place
abbrev pub reader_at : Bor (List ℕ) → ℕ → RecordReader
reader_at bytes place = record { bytes = bytes; place = place }

-- the reader after the field at its place: the same record, and the next place
abbrev pub moved_on : RecordReader → RecordReader
moved_on x = reader_at x.bytes (next_place (field_at x.bytes.now x.place) x.place)

-- the next n fields that a reader hands out
unfoldable pub handed_out : ℕ → RecordReader → List Field
handed_out zero x = []
handed_out (suc n) x = field_at x.bytes.now x.place ∷ handed_out n (moved_on x)

-- the content that a field names in a record, before what comes from the next place on
abbrev pub add_field : List ℕ → Field → (ℕ → Contents) → Contents
add_field r (Content tag start n next) later = add_content (part r start n) (later next)
add_field r Refused later = malformed

-- the contents that fields name in a record from a place on, each field asked for by its row of the table, with nothing
-- after the last
unfoldable pub contents_named : List FieldRule → List ℕ → ℕ → List Field → Contents
contents_named [] r at xs = choose (eqb (length (drop at r)) 0) (contents []) malformed
contents_named (f ∷ fs) r at [] = malformed
contents_named (f ∷ fs) r at (x ∷ xs) = add_field r (asked f x) (λ next. contents_named fs r next xs)

-- what fields say of a record, in the order of the table
abbrev pub parsed_by : List ℕ → List Field → Parsed
parsed_by r xs = fields_in (contents_named layout r 0 xs)
