-- The length of a record that is built, for any source whose nodes have 32 bytes each.
use Rattle.std.specs.Prelude.{◌≡◌, refl, ℕ, ◌+◌, ◌≤◌, List, [], ◌∷◌, length}
use Rattle.std.proofs.Common.{sym, ap, ◌∙◌, arith}
use Rattle.std.proofs.Math.Path.{ap₂}
use Rattle.octets.specs.SpliceLaws.{part_length}
use Rattle.paths.specs.NodesSized.{NodesSized}
use Rattle.sizes.specs.Sizes.{deal_level}
use Rattle.entries.specs.Entry.{commitment_in, offset_in, size_in}
use Rattle.index.specs.Slots.{entry_at}
use Rattle.fields.specs.Table.{table_length}
use Rattle.record.specs.Form.{layout, encode, record_length}
use Rattle.record.specs.FormLaws.{encode_length}
use Rattle.lent.specs.LentDeal.{LentDeal, deal_size}
use Rattle.builder.specs.Build.{fields_for}
use Rattle.builder.specs.BuildLaws.{InDeal, in_deal, segment_path_length, entry_path_length, Builds}
use Rattle.builder.specs.Encode.{record_for}

-- the record for the bytes of an entry
pub record_of_entry : (deal : LentDeal) (number : ℕ) (e : List ℕ) (place : ℕ)
    → encode (fields_for deal number e place) ≡ record_for deal number (commitment_in e) (offset_in e) (size_in e) place
unfolding fields_for record_for
record_of_entry deal number e place = refl

pub commitment_in_length : (deal : List ℕ) (place : ℕ) → place + 64 ≤ length deal
    → length (commitment_in (entry_at deal place)) ≡ 32
unfolding commitment_in
commitment_in_length deal place h = let l = part_length deal place 64 h in
    part_length (entry_at deal place) 0 32 (omega arith)

module _ (deal : LentDeal) (each : NodesSized deal.nodes (deal_level (deal_size deal))) where
  -- the length of the record for an entry
  pub record_length_lem : (number : ℕ) (commitment : List ℕ) (offset size place : ℕ) → length commitment ≡ 32
      → InDeal (deal_size deal) place offset size
      → length (record_for deal number commitment offset size place) ≡ record_length (deal_size deal) size
  unfolding record_for record_length
  record_length_lem number commitment offset size place l w =
      encode_length _ l
      ∙ ap₂ (λ (m n : ℕ). table_length layout (m ∷ n ∷ [])) (segment_path_length deal each place offset size w)
      (entry_path_length deal each place offset size w)

  -- the length of a record that was built
  pub built_length : (number place : ℕ) (r : List ℕ) → Builds deal number place r
      → length r ≡ record_length (deal_size deal) (size_in (entry_at deal.bytes place))
  built_length number place r m =
      let e = entry_at deal.bytes place in
      let s = m.is_kept_lem.is_standing in
      let w = in_deal (deal_size deal) place (offset_in e) (size_in e) m.lent m.place_allowed_lem s.size_allowed
      s.offset_allowed_lem in
      sym (ap length m.wrote)
      ∙ ap length (record_of_entry deal number e place)
      ∙ record_length_lem number (commitment_in e) (offset_in e) (size_in e) place
      (commitment_in_length deal.bytes place w.place_is.in_deal) w
