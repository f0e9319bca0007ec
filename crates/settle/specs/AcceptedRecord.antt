-- A lent record that is accepted against deal terms, beside its fields. Settling reads the fields of such records alone.
use Rattle.std.specs.Prelude.{◌≡◌, ℕ, List}
use Rattle.record.specs.Form.{Fields, parsed, parse}
use Rattle.record.specs.Check.{DealTerms, check_of}

pub record AcceptedRecord (terms : DealTerms) (r : List ℕ) (x : Fields) : Type 0 where
  pub parsed_is : parse r ≡ parsed x
  pub checked : check_of terms r ≡ 0
