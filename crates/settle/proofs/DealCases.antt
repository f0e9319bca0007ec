-- The ways through settling a record with a deal, one law for each answer of the code. The deal's nodes may be any.
use mathlib.Core.Path.{◌≡◌, sym, ap, ◌∙◌, subst}
use mathlib.Core.Bool.{true, false}
use Prim.Native.Nat.{ℕ, ◌/◌}
use native.Mathlib.Omega.{arith}
use mathlib.Core.List.{List, [], ◌∷◌}
use lib.ListN.{length}
use Rattle.node.specs.Node.{node_hash}
use Rattle.paths.specs.SiblingsLaws.{pairs_length}
use Rattle.paths.specs.PathLaws.{strings_length}
use Rattle.paths.specs.Difference.{first_difference}
use Rattle.paths.specs.Compare.{compared}
use Rattle.paths.specs.declared.Compared.{Compared}
use Rattle.paths.specs.CompareOwn.{compared_with_own}
use Rattle.paths.proofs.CompareOwnLaws.{own_up}
use Rattle.paths.specs.DealStarts.{segment_start, entry_start}
use Rattle.sizes.specs.Sizes.{lent_size_allowed, deal_level, entry_path_levels, segment_path_levels}
use Rattle.sizes.specs.SizesLaws.{lent_size}
use Rattle.paths.specs.Start.{path_start}
use Rattle.paths.specs.NodesSized.{NodesSized}
use Rattle.index.specs.Slots.{entry_at}
use Rattle.record.specs.Form.{Fields, parsed, broken, parse}
use Rattle.record.specs.ParsedRecord.{ParsedRecord, unread, parsed_record}
use Rattle.record.specs.ParsedRecordLaws.{record_read, not_read}
use Rattle.record.proofs.CheckCases.{malformed}
use Rattle.record.specs.Check.{entry_for, check_of}
use Rattle.record.specs.CheckLaws.{Accepted}
use Rattle.lent.specs.LentDeal.{LentDeal, deal_size, deal_refusal}
use Rattle.lent.specs.LentDealLaws.{refusal_none}
use Rattle.builder.specs.Build.{deal_commitment, terms_of}
use Rattle.builder.specs.BuildLaws.{InDeal, in_deal}
use Rattle.settle.specs.Settle.{not_settled, entry_strings, segment_strings, deal_entry_strings, deal_segment_strings, settle_with_deal}
use Rattle.paths.specs.CompareBelow.{or_compared}
use Rattle.settle.specs.SettleLaws.{settled_from, settled_parts}
use Rattle.settle.specs.AcceptedRecord.{AcceptedRecord}
use Rattle.settle.specs.AcceptedRecordLaws.{parses, accepted}
use Rattle.settle.specs.Comparing.{entry_with_deal, segment_with_deal}
use Rattle.settle.proofs.Answers.{refused_with, entries_decide, segments_decide}

never : {A : Type 0} {x : Fields} → broken ≡ parsed x → A
never e = let z : ◌≡◌ {A = ℕ} 0 1 = cc in absurd (omega arith)

module _ (deal : LentDeal) (number : ℕ) (r : List ℕ) where
  pub deal_refused : {code : ℕ} → code ≡ deal_refusal deal → (code ≡ 0 → ⊥)
      → not_settled code ≡ settle_with_deal deal number r
  unfolding settle_with_deal
  deal_refused {code} e h = rw (← e) (refused_with code not_settled _ h)

  pub check_refused : deal_refusal deal ≡ 0 → {code : ℕ} → code ≡ check_of (terms_of deal number) r → (code ≡ 0 → ⊥)
      → not_settled code ≡ settle_with_deal deal number r
  unfolding settle_with_deal
  check_refused fine {code} e h = rw (fine, ← e) (refused_with code not_settled _ h)

  -- bytes that are no record
  pub parse_refused : deal_refusal deal ≡ 0 → NodesSized deal.nodes (deal_level (deal_size deal)) → {code : ℕ}
      → unread code ≡ parsed_record r → broken ≡ parse r → not_settled code ≡ settle_with_deal deal number r
  parse_refused fine each {code} e h =
      let t = lent_size (deal_size deal) (refusal_none deal fine).0 in
      let l : length (deal_commitment deal) ≡ 32 =
      each.sized (path_start 0 (deal_level (deal_size deal)) 0) (record { up = omega arith; among = omega arith }) in
      let m = not_read r (λ z. never (h ∙ record_read r z)) in
      let three : code ≡ 3 = ap (λ (x : ParsedRecord). x.code) e ∙ m.0 in
      check_refused fine (three ∙ malformed (deal_commitment deal) (deal_size deal) number r l t.allowed h)
      (λ z. absurd (omega arith))

-- an accepted record's number is the deal's
pub own_number : (deal : LentDeal) {number : ℕ} {x : Fields} → Accepted (terms_of deal number) x
    → Accepted (terms_of deal x.number) x
own_number deal {number} {x} a = subst (λ (n : ℕ). Accepted (terms_of deal n) x) (sym a.number_same) a

module _ (deal : LentDeal) (fine : deal_refusal deal ≡ 0) where
  pub lent : lent_size_allowed (deal_size deal) ≡ true
  lent = (refusal_none deal fine).0

  -- the fields of an accepted record in the deal
  module _ {number : ℕ} {x : Fields} (a : Accepted (terms_of deal number) x) where
    pub inside : InDeal (deal_size deal) x.place x.offset x.size
    inside =
        in_deal (deal_size deal) x.place x.offset x.size lent a.place_allowed_lem a.size_allowed
        a.offset_allowed_lem

    -- the lengths of the record's paths tell their levels
    pub entry_levels : length x.entry_path / 32 ≡ entry_path_levels (deal_size deal)
    entry_levels = let l = a.entry_path_length in omega arith

    pub segment_levels : length x.segment_path / 32 ≡ segment_path_levels (deal_size deal) x.size
    segment_levels = let l = a.segment_path_length in omega arith

    -- what is found in the two parts
    pub entries_found_lem :
        let start = entry_start (deal_size deal) x.place in
        let e = entry_for x in
        let own = entry_at deal.bytes x.place in
        compared_with_own deal.nodes start.levels start.level start.position (node_hash e) x.entry_path
        (compared (first_difference (e ∷ []) (own ∷ [])))
        ≡ entry_with_deal deal x
    unfolding entry_strings
    entries_found_lem =
        let start = entry_start (deal_size deal) x.place in
        let e = entry_for x in
        sym
        (own_up deal.nodes start.levels start.level start.position (node_hash e) x.entry_path (e ∷ [])
        (entry_at deal.bytes x.place ∷ []))

    pub segments_found_lem :
        let start = segment_start (deal_size deal) x.offset x.size in
        compared_with_own deal.nodes start.levels start.level start.position x.commitment x.segment_path
        (compared (first_difference [] []))
        ≡ segment_with_deal deal x
    unfolding segment_strings
    segments_found_lem =
        let start = segment_start (deal_size deal) x.offset x.size in
        sym
        (own_up deal.nodes start.levels start.level start.position x.commitment x.segment_path [] [])

    one_length : length (entry_strings (deal_size deal) x) ≡ length (deal_entry_strings deal x)
    unfolding entry_strings
    one_length =
        let start = entry_start (deal_size deal) x.place in
        strings_length start (node_hash (entry_for x)) x.entry_path (entry_for x ∷ [])
        ∙ sym (pairs_length deal.nodes start (entry_at deal.bytes x.place ∷ []))

  -- the answer from the two parts
  module _ {number : ℕ} {r : List ℕ} {x : Fields} (a : AcceptedRecord (terms_of deal number) r x) where
    settled_is :
        settled_from (or_compared (entry_with_deal deal x) (segment_with_deal deal x)) ≡ settle_with_deal deal number r
    unfolding settle_with_deal
    settled_is =
        let d = deal_size deal in
        sym
        (rw (fine, a.checked, parses a)
        (settled_parts (entry_strings d x) (segment_strings d x) (deal_entry_strings deal x) (deal_segment_strings deal x)
        (one_length (accepted a))))

    module _ (found : Compared) (e : found ≡ entry_with_deal deal x) where
      pub entries_differ : found.differs ≡ true → settled_from found ≡ settle_with_deal deal number r
      entries_differ d = entries_decide _ _ _ settled_is found e d

      pub entries_same : found.differs ≡ false
          → {rest : Compared} → rest ≡ segment_with_deal deal x
          → settled_from rest ≡ settle_with_deal deal number r
      entries_same d q = segments_decide _ _ _ settled_is found e d q
