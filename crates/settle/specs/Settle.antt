-- Settling (document 01, "Booking, finding, building, settling": settle; document 02, request (vii): the deal may have
-- a tree beside it; request (ix): the check takes the deal's number, which is no part of any string).
use Rattle.std.specs.Prelude.{ℕ, List, [], ◌∷◌, ◌++◌, replicate, eqb}
use Rattle.rules.specs.Refusals.{rule, first_refusal, unless_refused}
use Rattle.node.specs.Node.{node_hash}
use Rattle.paths.specs.Strings.{strings_from}
use Rattle.paths.specs.Difference.{Difference, same, differ, first_difference}
use Rattle.paths.specs.Siblings.{pairs_from}
use Rattle.paths.specs.DealStarts.{segment_start, entry_start}
use Rattle.index.specs.Slots.{entry_at}
use Rattle.record.specs.Form.{Fields, Parsed, parsed, broken, parse}
use Rattle.record.specs.Check.{DealTerms, entry_for, check_of}
use Rattle.lent.specs.LentDeal.{LentDeal, deal_size, deal_refusal}
use Rattle.builder.specs.Build.{terms_of}

-- an answer: with code 17 the two strings, else two strings of zeros
pub record Settled : Type 0 where
  pub code : ℕ
  pub left : List ℕ
  pub right : List ℕ

abbrev pub not_settled : ℕ → Settled
not_settled code = record { code = code; left = replicate 64 0; right = replicate 64 0 }

-- 0 exactly if no string differs, else 17 and the two strings at the first difference
abbrev pub settled_by : Difference → Settled
settled_by same = not_settled 0
settled_by (differ left right) = record { code = 17; left = left; right = right }

-- a record's strings: those of the entry path from the top down, then the entry itself, then those of the segment path
-- from the top
unfoldable pub entry_strings : ℕ → Fields → List (List ℕ)
entry_strings d x = strings_from (entry_start d x.place) (node_hash (entry_for x)) x.entry_path (entry_for x ∷ [])

unfoldable pub segment_strings : ℕ → Fields → List (List ℕ)
segment_strings d x = strings_from (segment_start d x.offset x.size) x.commitment x.segment_path []

abbrev pub strings_of : ℕ → Fields → List (List ℕ)
strings_of d x = entry_strings d x ++ segment_strings d x

-- the strings and the entry place of a record's bytes
abbrev pub strings_in : ℕ → Parsed → List (List ℕ)
strings_in d (parsed x) = strings_of d x
strings_in d broken = []

abbrev pub place_in : Parsed → ℕ
place_in (parsed x) = x.place
place_in broken = 0

-- two records: the first one's refusal, the second one's, 18, then 0 or 17
unfoldable pub settle_records : DealTerms → List ℕ → List ℕ → Settled
settle_records terms r s =
    unless_refused (check_of terms r) not_settled
    (unless_refused (check_of terms s) not_settled
    (unless_refused (first_refusal (rule (eqb (place_in (parse r)) (place_in (parse s))) 18 ∷ [])) not_settled
    (settled_by (first_difference (strings_in terms.size (parse r)) (strings_in terms.size (parse s))))))

-- a deal's strings along the two paths of a record: its own pairs of nodes, and at the entry the 64 bytes at that place
abbrev pub deal_entry_strings : LentDeal → Fields → List (List ℕ)
deal_entry_strings deal x =
    pairs_from deal.nodes (entry_start (deal_size deal) x.place) (entry_at deal.bytes x.place ∷ [])

abbrev pub deal_segment_strings : LentDeal → Fields → List (List ℕ)
deal_segment_strings deal x = pairs_from deal.nodes (segment_start (deal_size deal) x.offset x.size) []

abbrev pub deal_strings : LentDeal → Fields → List (List ℕ)
deal_strings deal x = deal_entry_strings deal x ++ deal_segment_strings deal x

abbrev pub deal_strings_in : LentDeal → Parsed → List (List ℕ)
deal_strings_in deal (parsed x) = deal_strings deal x
deal_strings_in deal broken = []

-- a record with a deal: 2, 11, 12 for the tree beside the deal, the check against the deal's own commitment and length
-- and its number, then 0 or 17
unfoldable pub settle_with_deal : LentDeal → ℕ → List ℕ → Settled
settle_with_deal deal number r =
    unless_refused (deal_refusal deal) not_settled
    (unless_refused (check_of (terms_of deal number) r) not_settled
    (settled_by (first_difference (strings_in (deal_size deal) (parse r)) (deal_strings_in deal (parse r)))))
