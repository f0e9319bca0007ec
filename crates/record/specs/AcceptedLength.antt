-- Document 01, "Numbers that bound the work", with the field of document 02, request (ix): a record that is accepted
-- has 213 to 1,973 bytes. For every deal size to 2 ^ 36.
use Rattle.std.specs.Prelude.{◌≡◌, ℕ, ◌≤◌, List, [], ◌∷◌}
use Rattle.std.proofs.Math.Path.{sym, ap₂}
use Rattle.std.proofs.Common.{ap, ◌∙◌, arith}
use Rattle.std.proofs.Math.ListN.{length}
use Rattle.octets.specs.Bytes.{Bytes}
use Rattle.sizes.specs.SizesLaws.{DealSize, deal_size_lem, SegmentSize, segment_size}
use Rattle.fields.specs.Table.{table_length}
use Rattle.record.specs.Form.{layout, record_length}
use Rattle.record.specs.FormLaws.{encode_length}
use Rattle.record.specs.FieldsOf.{fields_of}
use Rattle.record.specs.FieldsOfLaws.{accepted_fields, accepted_encodes, accepted_sized}
use Rattle.record.specs.Check.{DealTerms, check_of}
use Rattle.record.specs.CheckLaws.{check_terms}

-- the length of a record in a deal is from 213 to 1,973 bytes
pub length_range : (d size : ℕ) → DealSize d → SegmentSize d size
    → (213 ≤ record_length d size) × (record_length d size ≤ 1973)
unfolding record_length
length_range d size t s = (omega arith, omega arith)

module _ (terms : DealTerms) (r : List ℕ) (b : Bytes r) (e : check_of terms r ≡ 0) where
  -- the length of an accepted record is its table's
  pub accepted_length : length r ≡ record_length terms.size (fields_of r).size
  unfolding record_length
  accepted_length =
      let a = accepted_fields r terms e in
      sym (ap length (accepted_encodes r terms e b))
      ∙ encode_length (fields_of r) (accepted_sized r terms e b).commitment_32
      ∙ ap₂ (λ (m n : ℕ). table_length layout (m ∷ n ∷ [])) a.segment_path_length a.entry_path_length

  pub accepted_range : (213 ≤ length r) × (length r ≤ 1973)
  accepted_range =
      let t = deal_size_lem terms.size (check_terms terms r e).1 in
      let s = segment_size terms.size (fields_of r).size t (accepted_fields r terms e).size_allowed in
      let k = length_range terms.size (fields_of r).size t s in
      let l = accepted_length in
      (omega arith, omega arith)
