-- The fields of a record that is accepted.
use Rattle.std.specs.Prelude.{◌≡◌, ℕ, List}
use Rattle.std.proofs.Common.{sym, subst, ◌∙◌}
use Rattle.std.proofs.Math.Path.{ap}
use Rattle.octets.specs.Bytes.{Bytes}
use Rattle.record.specs.Form.{parsed, parse, encode}
use Rattle.record.specs.FormLaws.{Sized, parse_canonical}
use Rattle.record.specs.FieldsOf.{parsed_fields, fields_of}
use Rattle.record.specs.Check.{DealTerms, check_of}
use Rattle.record.specs.CheckLaws.{Accepted, check_means}

module _ (r : List ℕ) (terms : DealTerms) (e : check_of terms r ≡ 0) where
  fields_are : fields_of r ≡ (check_means terms r e).0
  unfolding fields_of
  fields_are = ap parsed_fields (check_means terms r e).1

  pub accepted_parses : parse r ≡ parsed (fields_of r)
  accepted_parses = (check_means terms r e).1 ∙ ap parsed (sym fields_are)

  pub accepted_fields : Accepted terms (fields_of r)
  accepted_fields = subst (Accepted terms) (sym fields_are) (check_means terms r e).2

  -- the record is the one that its fields write
  pub accepted_encodes : Bytes r → encode (fields_of r) ≡ r
  accepted_encodes b = (parse_canonical r (fields_of r) b accepted_parses).0

  pub accepted_sized : Bytes r → Sized (fields_of r)
  accepted_sized b = (parse_canonical r (fields_of r) b accepted_parses).1
