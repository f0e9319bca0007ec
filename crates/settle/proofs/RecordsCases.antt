-- The ways through settling two records, one law for each answer of the code.
use mathlib.Core.Path.{◌≡◌, sym, ap, ◌∙◌}
use mathlib.Core.Bool.{true, false}
use Prim.Native.Nat.{ℕ, ◌*◌, ◌<◌}
use native.Mathlib.Omega.{arith}
use mathlib.Core.List.{List, [], ◌∷◌}
use lib.ListN.{length}
use borrow.Author.Tests.{eq-eqb, ne_eqb}
use Rattle.octets.specs.Bytes.{Bytes}
use Rattle.node.specs.Node.{node_hash}
use Rattle.paths.specs.Strings.{strings_from}
use Rattle.paths.specs.Difference.{first_difference}
use Rattle.paths.specs.Compare.{compared}
use Rattle.paths.specs.declared.Compared.{Compared}
use Rattle.paths.proofs.CompareLaws.{paths_compared_lem, no_difference_same}
use Rattle.paths.specs.DealStarts.{segment_start, entry_start}
use Rattle.sizes.specs.Sizes.{area, segment_path_levels, segment_position, entry_position}
use Rattle.sizes.specs.SizesLaws.{deal_size_lem, segment_size}
use Rattle.record.specs.Form.{Fields}
use Rattle.record.specs.Check.{DealTerms, entry_for, check_of}
use Rattle.record.specs.CheckLaws.{Accepted, check_terms}
use Rattle.settle.specs.Settle.{not_settled, entry_strings, segment_strings, settle_records}
use Rattle.paths.specs.CompareBelow.{or_compared}
use Rattle.settle.specs.SettleLaws.{settled_from, settled_parts, same_fields}
use Rattle.settle.specs.AcceptedRecord.{AcceptedRecord}
use Rattle.settle.specs.AcceptedRecordLaws.{parses, accepted, sized}
use Rattle.settle.specs.Comparing.{entries_compared, segments_compared}
use Rattle.settle.specs.EntryStringsLaws.{entry_strings_length, same_entry}
use Rattle.settle.proofs.Answers.{refused_with, entries_decide, segments_decide}

-- what is found in the two parts of two accepted records
abbrev entries_found : ℕ → Fields → Fields → Compared
entries_found d x y = compared (first_difference (entry_strings d x) (entry_strings d y))

abbrev segments_found : ℕ → Fields → Fields → Compared
segments_found d x y = compared (first_difference (segment_strings d x) (segment_strings d y))

module _ {terms : DealTerms} {x y : Fields} (ax : Accepted terms x) (ay : Accepted terms y) where
  entries_found_lem : x.place ≡ y.place
      → entries_compared (entry_position x.place) (entry_for x) x.entry_path (entry_for y) y.entry_path
      ≡ entries_found terms.size x y
  unfolding entry_strings
  entries_found_lem at =
      let e = entry_for x in
      let f = entry_for y in
      let start = entry_start terms.size in
      paths_compared_lem (node_hash e) x.entry_path (e ∷ []) (node_hash f) y.entry_path (f ∷ []) (start x.place)
      ax.entry_path_length ay.entry_path_length
      ∙ (λ i. compared (first_difference (entry_strings terms.size x)
      (strings_from (start (at i)) (node_hash f) y.entry_path (f ∷ []))))

  segments_found_lem : x.offset ≡ y.offset → x.size ≡ y.size
      → segments_compared (segment_position x.offset x.size) x.commitment x.segment_path y.commitment
      y.segment_path
      ≡ segments_found terms.size x y
  unfolding segment_strings
  segments_found_lem o z =
      let start = segment_start terms.size in
      paths_compared_lem x.commitment x.segment_path [] y.commitment y.segment_path []
      (start x.offset x.size) ax.segment_path_length
      (ay.segment_path_length ∙ ap (λ (m : ℕ). 32 * segment_path_levels terms.size m) (sym z))
      ∙ (λ i. compared (first_difference (segment_strings terms.size x)
      (strings_from (start (o i) (z i)) y.commitment y.segment_path [])))

  -- no difference in the entry parts: the same entry
  same_entry_named : x.place ≡ y.place → (entries_found terms.size x y).differs ≡ false → entry_for x ≡ entry_for y
  same_entry_named at n =
      let d = terms.size in
      (same_entry terms x y ax ay at
      (no_difference_same (entry_strings d x) (entry_strings d y) (entry_strings_length d x y) n)).1

module _ (terms : DealTerms) (r s : List ℕ) where
  pub first_refused : {code : ℕ} → code ≡ check_of terms r → (code ≡ 0 → ⊥) → not_settled code ≡ settle_records terms r s
  unfolding settle_records
  first_refused {code} e h = rw (← e) (refused_with code not_settled _ h)

  pub second_refused : check_of terms r ≡ 0 → {code : ℕ} → code ≡ check_of terms s → (code ≡ 0 → ⊥)
      → not_settled code ≡ settle_records terms r s
  unfolding settle_records
  second_refused cr {code} e h = rw (cr, ← e) (refused_with code not_settled _ h)

module _ {terms : DealTerms} {r s : List ℕ} {x y : Fields} (a : AcceptedRecord terms r x)
    (b : AcceptedRecord terms s y) where
  pub other_place : (x.place ≡ y.place → ⊥) → not_settled 18 ≡ settle_records terms r s
  unfolding settle_records
  other_place h = rw (a.checked, b.checked, parses a, parses b, ne_eqb x.place y.place h)

  -- what the code requires on the way: entry paths of one length, and an area to divide by
  pub entry_paths : length x.entry_path ≡ length y.entry_path
  entry_paths = (accepted a).entry_path_length ∙ sym (accepted b).entry_path_length

  pub area_there : 0 < area x.size
  area_there =
      let d = deal_size_lem terms.size (check_terms terms r a.checked).1 in
      let z = segment_size terms.size x.size d (accepted a).size_allowed in
      omega arith

  module _ (at : x.place ≡ y.place) where
    -- the answer from what is found in the two parts
    settled_is :
        settled_from (or_compared (entries_found terms.size x y) (segments_found terms.size x y))
        ≡ settle_records terms r s
    unfolding settle_records
    settled_is =
        let d = terms.size in
        sym
        (rw (a.checked, b.checked, parses a, parses b, eq-eqb x.place y.place at)
        (settled_parts (entry_strings d x) (segment_strings d x) (entry_strings d y) (segment_strings d y)
        (entry_strings_length d x y)))

    module _ (found : Compared)
        (e : found
        ≡ entries_compared (entry_position x.place) (entry_for x) x.entry_path
        (entry_for y) y.entry_path) where
      found_is : found ≡ entries_found terms.size x y
      found_is = e ∙ entries_found_lem (accepted a) (accepted b) at

      pub entries_differ : found.differs ≡ true → settled_from found ≡ settle_records terms r s
      entries_differ d = entries_decide _ _ _ settled_is found found_is d

      -- no difference in the entry parts: the segment paths start at one position and have one length
      module _ (br : Bytes r) (bs : Bytes s) (n : found.differs ≡ false) where
        named : (x.commitment ≡ y.commitment) × (x.offset ≡ y.offset) × (x.size ≡ y.size)
        named =
            let none = sym (ap (λ (c : Compared). c.differs) found_is) ∙ n in
            same_fields x y (sized a br) (sized b bs)
            (same_entry_named (accepted a) (accepted b) at none)

        pub segment_paths : length x.segment_path ≡ length y.segment_path
        segment_paths =
            (accepted a).segment_path_length
            ∙ ap (λ (size : ℕ). 32 * segment_path_levels terms.size size) named.2
            ∙ sym (accepted b).segment_path_length

        pub entries_same : {rest : Compared}
            → rest
            ≡ segments_compared (segment_position x.offset x.size) x.commitment x.segment_path
            y.commitment y.segment_path
            → settled_from rest ≡ settle_records terms r s
        entries_same q =
            segments_decide _ _ _ settled_is found found_is n
            (q ∙ segments_found_lem (accepted a) (accepted b) named.1 named.2)
