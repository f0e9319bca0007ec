-- Building a record from a lent deal and an entry place (document 01, "Booking, finding, building, settling": build;
-- document 02, request (vii): the deal may have a tree beside it; request (ix): building takes the deal's number).
use Rattle.std.specs.Prelude.{ℕ, Result, List, [], ◌∷◌, ◌++◌, length, leb}
use Rattle.rules.specs.Answers.{answered}
use Rattle.rules.specs.Choice.{choose}
use Rattle.rules.specs.declared.Refusal.{Refusal}
use Rattle.rules.specs.Refusals.{Rule, rule, first_refusal, unless_refused}
use Rattle.octets.specs.Splice.{splice}
use Rattle.lent.specs.LentDeal.{LentDeal, deal_size, deal_rules}
use Rattle.paths.specs.Siblings.{siblings_from}
use Rattle.paths.specs.DealStarts.{segment_start, entry_start}
use Rattle.sizes.specs.Sizes.{place_allowed, deal_level}
use Rattle.entries.specs.Entry.{commitment_in, offset_in, size_in}
use Rattle.index.specs.Slots.{entry_at, kept}
use Rattle.record.specs.Form.{Fields, encode}
use Rattle.record.specs.Check.{DealTerms, deal_terms}

-- a code, and the length of the record that was written; 0 on a refusal
pub record BuildAnswer : Type 0 where
  pub code : ℕ
  pub length : ℕ

-- the answer that a result stands for
abbrev pub length_answer : Result ℕ Refusal → BuildAnswer
length_answer =
    answered (λ n. record { code = 0; length = n }) (λ code. record { code = code; length = 0 })

-- the deal's own commitment: its top node
abbrev pub deal_commitment : LentDeal → List ℕ
deal_commitment deal = deal.nodes (deal_level (deal_size deal)) 0

-- what a record of the deal is checked against: its own commitment and length, and its number
abbrev pub terms_of : LentDeal → ℕ → DealTerms
terms_of deal number = deal_terms (deal_commitment deal) (deal_size deal) number

-- the Merkle paths of a segment and of an entry
abbrev pub segment_path_of : LentDeal → ℕ → ℕ → List ℕ
segment_path_of deal offset size = siblings_from deal.nodes (segment_start (deal_size deal) offset size)

abbrev pub entry_path_of : LentDeal → ℕ → List ℕ
entry_path_of deal place = siblings_from deal.nodes (entry_start (deal_size deal) place)

-- the fields of the record for the entry e at a place
unfoldable pub fields_for : LentDeal → ℕ → List ℕ → ℕ → Fields
fields_for deal number e place =
    record {
      commitment = commitment_in e;
      offset = offset_in e;
      size = size_in e;
      place = place;
      segment_path = segment_path_of deal (offset_in e) (size_in e);
      entry_path = entry_path_of deal place;
      number = number;
    }

-- the record at an entry place, or why there is none: 2, 11, 12 for the tree beside the deal, 6, 16
pub data Building : Type 0 where
  built : List ℕ → Building
  not_built : ℕ → Building

abbrev pub entry_rules : LentDeal → ℕ → List Rule
entry_rules deal place =
    rule (place_allowed (deal_size deal) place) 6
    ∷ rule (kept deal.nodes (deal_size deal) (entry_at deal.bytes place)) 16
    ∷ []

abbrev pub build_rules : LentDeal → ℕ → List Rule
build_rules deal place = deal_rules deal ++ entry_rules deal place

unfoldable pub record_at : LentDeal → ℕ → ℕ → Building
record_at deal number place =
    unless_refused (first_refusal (build_rules deal place)) not_built
    (built (encode (fields_for deal number (entry_at deal.bytes place) place)))

-- with a lent output: 12 where it is shorter than the record, which else fills its first bytes
abbrev pub answer_for : Building → List ℕ → BuildAnswer
answer_for (not_built code) out = record { code = code; length = 0 }
answer_for (built r) out =
    choose (leb (length r) (length out)) (record { code = 0; length = length r }) (record { code = 12; length = 0 })

abbrev pub output_for : Building → List ℕ → List ℕ
output_for (not_built code) out = out
output_for (built r) out = choose (leb (length r) (length out)) (splice out 0 r) out

unfoldable pub build_answer : LentDeal → ℕ → ℕ → List ℕ → BuildAnswer
build_answer deal number place out = answer_for (record_at deal number place) out

unfoldable pub build_output : LentDeal → ℕ → ℕ → List ℕ → List ℕ
build_output deal number place out = output_for (record_at deal number place) out
