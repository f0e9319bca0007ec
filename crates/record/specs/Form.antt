-- The form of a record (document 01, "The record"; document 02, request (ix): tag 7): its table, its fields, reading
-- and writing. It depends on the record's bytes alone.
use Rattle.std.specs.Prelude.{ℕ, ◌*◌, List, [], ◌∷◌, get_or}
use Rattle.octets.specs.LittleEndian.{number_of, bytes_of}
use Rattle.sizes.specs.Sizes.{segment_path_levels, entry_path_levels}
use Rattle.fields.specs.Table.{field_rule, Contents, contents, malformed, read_contents, write_contents, table_length}
use Rattle.fields.specs.declared.LengthRule.{LengthRule}
use Rattle.fields.specs.declared.LengthRule.TheVariants.{Exactly, MultipleOf}
use Rattle.fields.specs.declared.FieldRule.{FieldRule}

-- the lengths of a path: whole nodes
abbrev pub whole_nodes : LengthRule
whole_nodes = MultipleOf 32

-- the table: segment commitment, segment offset, segment size, entry place, segment path, entry path, deal number
abbrev pub layout : List FieldRule
layout =
    field_rule 1 (Exactly 32)
    ∷ field_rule 2 (Exactly 8)
    ∷ field_rule 3 (Exactly 8)
    ∷ field_rule 4 (Exactly 8)
    ∷ field_rule 5 whole_nodes
    ∷ field_rule 6 whole_nodes
    ∷ field_rule 7 (Exactly 8)
    ∷ []

-- a row of the table, from 0
abbrev pub table_row : ℕ → FieldRule
table_row n = get_or layout n (field_rule 0 (Exactly 0))

-- a record's fields
pub record Fields : Type 0 where
  pub commitment : List ℕ
  pub offset : ℕ
  pub size : ℕ
  pub place : ℕ
  pub segment_path : List ℕ
  pub entry_path : List ℕ
  pub number : ℕ

-- fields, named in the order of the table
abbrev pub fields : List ℕ → ℕ → ℕ → ℕ → List ℕ → List ℕ → ℕ → Fields
fields commitment offset size place segment_path entry_path number =
    record {
      commitment = commitment;
      offset = offset;
      size = size;
      place = place;
      segment_path = segment_path;
      entry_path = entry_path;
      number = number;
    }

pub data Parsed : Type 0 where
  parsed : Fields → Parsed
  broken : Parsed

abbrev pub fields_in : Contents → Parsed
fields_in (contents cs) =
    parsed (record {
      commitment = get_or cs 0 [];
      offset = number_of (get_or cs 1 []);
      size = number_of (get_or cs 2 []);
      place = number_of (get_or cs 3 []);
      segment_path = get_or cs 4 [];
      entry_path = get_or cs 5 [];
      number = number_of (get_or cs 6 []);
    })
fields_in malformed = broken

-- reading a record
unfoldable pub parse : List ℕ → Parsed
parse r = fields_in (read_contents layout r)

-- the contents of a record's fields, in the order of the table
abbrev pub contents_of : Fields → List (List ℕ)
contents_of x = x.commitment ∷ bytes_of 8 x.offset ∷ bytes_of 8 x.size ∷ bytes_of 8 x.place ∷ x.segment_path
    ∷ x.entry_path ∷ bytes_of 8 x.number ∷ []

-- the record with these fields
unfoldable pub encode : Fields → List ℕ
encode x = write_contents layout (contents_of x)

-- the length of a record in a deal of d bytes, for a segment of a size: that of its table, with the two paths
unfoldable pub record_length : ℕ → ℕ → ℕ
record_length d size = table_length layout (32 * segment_path_levels d size ∷ 32 * entry_path_levels d ∷ [])
