-- What is known of an accepted record by its parsed fields.
use Rattle.std.specs.Prelude.{◌≡◌, ℕ, List}
use Rattle.std.proofs.Math.Path.{sym, ap}
use Rattle.std.proofs.Common.{◌∙◌, subst}
use Rattle.octets.specs.Bytes.{Bytes}
use Rattle.record.specs.Form.{Fields, parsed, parse}
use Rattle.record.specs.FormLaws.{Sized, parse_canonical}
use Rattle.record.specs.FieldsOf.{parsed_fields}
use Rattle.record.specs.Check.{DealTerms}
use Rattle.record.specs.CheckLaws.{Accepted, check_means}
use Rattle.settle.specs.AcceptedRecord.{AcceptedRecord}

module _ {terms : DealTerms} {r : List ℕ} {x : Fields} (a : AcceptedRecord terms r x) where
  pub parses : parse r ≡ parsed x
  parses = a.parsed_is

  fields_are : (check_means terms r a.checked).0 ≡ x
  fields_are = ap parsed_fields (sym (check_means terms r a.checked).1 ∙ a.parsed_is)

  pub accepted : Accepted terms x
  accepted = subst (Accepted terms) fields_are (check_means terms r a.checked).2

  pub sized : Bytes r → Sized x
  sized b = (parse_canonical r x b a.parsed_is).1
