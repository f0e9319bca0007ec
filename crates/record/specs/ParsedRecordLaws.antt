-- What parsing answers is what the record's bytes say: one answer for the check and for settling.
use Rattle.std.specs.Prelude.{◌≡◌, ℕ, ◌+◌, ◌≤◌, ◌<◌, List, [], length, get_or}
use Rattle.std.proofs.Math.Path.{refl, ap}
use Rattle.std.proofs.Common.{◌∙◌}
use native.Mathlib.Omega.{arith}
use Rattle.octets.specs.LittleEndian.{number_of}
use Rattle.octets.specs.Splice.{part}
use Rattle.fields.specs.Table.{Contents, contents, read_contents}
use Rattle.fields.specs.Spans.{Spans, spans, misplaced, spans_from, parts_of, contents_at}
use Rattle.fields.specs.SpansLaws.{contents_spans, span_lies, spans_counted, parts_at}
use Rattle.record.specs.Form.{layout, table_row, Fields, fields, parsed, broken, fields_in, parse}
use Rattle.record.specs.FieldsOf.{parsed_fields, fields_of}
use Rattle.record.specs.ParsedRecord.{ParsedRecord, read_at, parsed_record}

-- the fields that an answer names in a record
abbrev pub fields_at : List ℕ → ParsedRecord → Fields
fields_at r x =
    fields x.commitment x.offset x.size x.place (part r x.segment_path x.segment_path_length)
    (part r x.entry_path x.entry_path_length) x.number

-- the paths lie within the record
pub record Within (r : List ℕ) (x : ParsedRecord) : Type 0 where
  pub segment_path_within : x.segment_path + x.segment_path_length ≤ length r
  pub entry_path_within : x.entry_path + x.entry_path_length ≤ length r

module _ (r : List ℕ) where
  -- the contents of the table's rows, as fields
  rows_read : (ss ns : List ℕ) → spans_from layout r 0 ≡ spans ss ns
      → fields_in (contents (parts_of r ss ns)) ≡ parsed (fields_at r (read_at r (spans ss ns)))
  rows_read ss ns q =
      let l : length ss ≡ length layout = (spans_counted layout r 0 ss ns q).0 in
      let at : (i : ℕ) → i < length layout → get_or (parts_of r ss ns) i [] ≡ part r (get_or ss i 0) (get_or ns i 0) =
      λ i h. parts_at r ss ns i (omega arith) in
      λ i. parsed (fields
      (at 0 (omega arith) i)
      (number_of (at 1 (omega arith) i))
      (number_of (at 2 (omega arith) i))
      (number_of (at 3 (omega arith) i))
      (at 4 (omega arith) i)
      (at 5 (omega arith) i)
      (number_of (at 6 (omega arith) i)))

  -- with code 0 the bytes are a record, and the answer names its fields
  pub record_read : (parsed_record r).code ≡ 0 → parse r ≡ parsed (fields_at r (parsed_record r))
  unfolding parse parsed_record
  record_read = go (spans_from layout r 0) refl
    where
      go : (x : Spans) → spans_from layout r 0 ≡ x → (read_at r x).code ≡ 0
          → fields_in (read_contents layout r) ≡ parsed (fields_at r (read_at r x))
      go (spans ss ns) q e = ap fields_in (contents_spans layout r 0 ∙ ap (contents_at r) q) ∙ rows_read ss ns q
      go misplaced q e = absurd (omega arith)

  -- any other code is 3, and the bytes are no record
  pub not_read : ((parsed_record r).code ≡ 0 → ⊥) → ((parsed_record r).code ≡ 3) × (parse r ≡ broken)
  unfolding parse parsed_record
  not_read = go (spans_from layout r 0) refl
    where
      go : (x : Spans) → spans_from layout r 0 ≡ x → ((read_at r x).code ≡ 0 → ⊥)
          → ((read_at r x).code ≡ 3) × (fields_in (read_contents layout r) ≡ broken)
      go (spans ss ns) q e = absurd (e refl)
      go misplaced q e = (refl, ap fields_in (contents_spans layout r 0 ∙ ap (contents_at r) q))

  -- with every code the answer names the fields of the bytes: zeros and empty paths where they are no record
  pub fields_read : fields_of r ≡ fields_at r (parsed_record r)
  unfolding fields_of parse parsed_record part
  fields_read = go (spans_from layout r 0) refl
    where
      go : (x : Spans) → spans_from layout r 0 ≡ x
          → parsed_fields (fields_in (read_contents layout r)) ≡ fields_at r (read_at r x)
      go (spans ss ns) q = ap (λ (k : Contents). parsed_fields (fields_in k))
          (contents_spans layout r 0 ∙ ap (contents_at r) q) ∙ ap parsed_fields (rows_read ss ns q)
      go misplaced q = ap (λ (k : Contents). parsed_fields (fields_in k))
          (contents_spans layout r 0 ∙ ap (contents_at r) q)

  pub paths_within : Within r (parsed_record r)
  unfolding parsed_record
  paths_within = go (spans_from layout r 0) refl
    where
      go : (x : Spans) → spans_from layout r 0 ≡ x → Within r (read_at r x)
      go (spans ss ns) q =
          record {
            segment_path_within = (span_lies layout r (table_row 0) 0 ss ns q 4 (omega arith)).within;
            entry_path_within = (span_lies layout r (table_row 0) 0 ss ns q 5 (omega arith)).within;
          }
      go misplaced q = record { segment_path_within = omega arith; entry_path_within = omega arith }
