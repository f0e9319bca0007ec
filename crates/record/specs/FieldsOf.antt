-- The fields of a record's bytes (document 01, "The record"), with zeros and empty paths where the bytes are no record.
-- Settling reads them of accepted
-- records alone.
use Rattle.std.specs.Prelude.{ℕ, List, [], replicate}
use Rattle.record.specs.Form.{Fields, fields, Parsed, parsed, broken, parse}

abbrev pub parsed_fields : Parsed → Fields
parsed_fields (parsed x) = x
parsed_fields broken = fields (replicate 32 0) 0 0 0 [] [] 0

unfoldable pub fields_of : List ℕ → Fields
fields_of r = parsed_fields (parse r)
