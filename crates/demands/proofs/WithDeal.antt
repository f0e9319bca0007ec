-- A record accepted against a deal in hand: what building writes, or a collision.
use Rattle.std.specs.Prelude.{◌≡◌, refl, true, ℕ, ◌^◌, ◌<◌, length}
use Rattle.std.proofs.Math.Path.{sym, ap, ap₂, subst}
use Rattle.std.proofs.Common.{◌∙◌, arith}
use mathlib.Core.List.{List, [], ◌∷◌, ◌++◌}
use Rattle.octets.specs.Bytes.{Bytes}
use Rattle.octets.specs.SpliceLaws.{part_length}
use Rattle.node.specs.Node.{node_hash, node_hash_length}
use Rattle.stray.specs.StrayBits.{no_stray_bits}
use Rattle.merkle.specs.NodeSource.{IsTree}
use Rattle.merkle.specs.NodeSourceLaws.{run_tree}
use Rattle.paths.specs.Strings.{strings_from}
use Rattle.paths.specs.Siblings.{node_from}
use Rattle.paths.specs.SiblingsLaws.{own_strings, own_chain, own_path}
use Rattle.paths.specs.DealStarts.{segment_start, entry_start}
use Rattle.sizes.specs.Sizes.{lent_size_allowed, deal_level, segment_level}
use Rattle.sizes.specs.SizesLaws.{lent_size}
use Rattle.entries.specs.Entry.{offset_in, size_in}
use Rattle.index.specs.Slots.{entry_at, kept}
use Rattle.index.specs.SlotsLaws.{made_kept}
use Rattle.record.specs.Form.{Fields, fields, parsed, parse, encode}
use Rattle.record.specs.FormLaws.{Sized, parse_canonical}
use Rattle.record.specs.Check.{entry_for, check_of}
use Rattle.record.specs.CheckLaws.{Accepted, check_means}
use Rattle.lent.specs.LentDeal.{LentDeal, lent_deal, deal_size}
use Rattle.lent.specs.LentDealLaws.{none_refusal}
use Rattle.builder.specs.Build.{terms_of, segment_path_of, entry_path_of, fields_for, built, record_at}
use Rattle.builder.specs.BuildLaws.{Builds, build_means, means_build, built_in_deal, built_valid, built_parses}
use Rattle.builder.specs.BuildLaws.{InDeal, in_deal, segment_start_lem, entry_start_lem, place_node}
use Rattle.settle.specs.Settle.{entry_strings, segment_strings, strings_of, place_in}
use Rattle.settle.specs.Settle.{deal_entry_strings, deal_segment_strings, deal_strings, settle_with_deal}
use Rattle.settle.specs.SettleLaws.{named_commitment, named_offset, named_size}
use Rattle.demands.specs.Settles.{Settles}
use Rattle.demands.proofs.Chains.{Beside, settles_beside}

-- the record built with a number from an entry that was made from fields has those fields
made_fields : (deal : LentDeal) (number : ℕ) (x : Fields) → Sized x → x.number ≡ number
    → x.segment_path ≡ segment_path_of deal x.offset x.size → x.entry_path ≡ entry_path_of deal x.place
    → fields_for deal number (entry_for x) x.place ≡ x
unfolding fields_for
made_fields deal number x h n s e =
    let k = named_commitment x h in
    let o = named_offset x h in
    let z = named_size x h in
    let p : segment_path_of deal (offset_in (entry_for x)) (size_in (entry_for x)) ≡ x.segment_path =
    ap₂ (segment_path_of deal) o z ∙ sym s in
    λ i. fields (k i) (o i) (z i) x.place (p i) (sym e i) (sym n i)

module _ (deal : LentDeal) (t : IsTree deal.nodes deal.bytes (deal_level (deal_size deal)))
    (bd : Bytes deal.bytes) (lent : lent_size_allowed (deal_size deal) ≡ true)
    (clean : no_stray_bits deal.bytes ≡ true) (sized : deal.tree_sized ≡ true) (number : ℕ) where
  module _ (x : Fields) (h : Sized x) (a : Accepted (terms_of deal number) x) where
    w : InDeal (deal_size deal) x.place x.offset x.size
    w =
        in_deal (deal_size deal) x.place x.offset x.size lent a.place_allowed_lem a.size_allowed
        a.offset_allowed_lem

    -- the deal's own strings are chains from its commitment
    beside : Beside (terms_of deal number) x (deal_entry_strings deal x) (deal_segment_strings deal x)
    beside =
        let e = entry_at deal.bytes x.place in
        record {
          entry =
              own_chain deal.nodes deal.bytes _ t _ (entry_start_lem w) (true ∷ []) (e ∷ [])
              (part_length deal.bytes x.place 64 w.place_is.in_deal, place_node deal t _ _ _ w, tt);
          segment = λ _. own_chain deal.nodes deal.bytes _ t _ (segment_start_lem w) [] [] tt;
        }

    -- no difference: the record has the deal's own paths, its entry, and the commitment of the segment's node
    same_entry : entry_strings (deal_size deal) x ≡ deal_entry_strings deal x
        → (x.entry_path ≡ entry_path_of deal x.place) × (entry_for x ≡ entry_at deal.bytes x.place)
    unfolding entry_strings
    same_entry e =
        let f = entry_for x in
        let g = entry_at deal.bytes x.place in
        let r = own_path deal.nodes deal.bytes _ t _ (entry_start_lem w) (node_hash f) x.entry_path (f ∷ []) (g ∷ [])
        (node_hash_length f) a.entry_path_length e in
        let q : f ∷ [] ≡ g ∷ [] = r.same_below in
        (r.same_siblings, cc)

    same_segment_lem : segment_strings (deal_size deal) x ≡ deal_segment_strings deal x
        → (x.segment_path ≡ segment_path_of deal x.offset x.size)
        × (x.commitment ≡ node_from deal.nodes (segment_start (deal_size deal) x.offset x.size))
    unfolding segment_strings
    same_segment_lem e =
        let r = own_path deal.nodes deal.bytes _ t _ (segment_start_lem w) x.commitment x.segment_path [] []
        h.commitment_32 a.segment_path_length e in
        let b : segment_level x.size < deal_level (deal_size deal) = w.size_is.below_deal in
        (r.same_siblings, r.same_node (omega arith))

    -- so building writes it
    same_builds : (r : List ℕ) → encode x ≡ r → entry_strings (deal_size deal) x ≡ deal_entry_strings deal x
        → segment_strings (deal_size deal) x ≡ deal_segment_strings deal x → record_at deal number x.place ≡ built r
    same_builds r en e g =
        let d = deal_size deal in
        let f = same_entry e in
        let k = same_segment_lem g in
        means_build deal number x.place r lent clean sized a.place_allowed_lem
        (subst (λ (s : List ℕ). kept deal.nodes d s ≡ true) f.1
        (made_kept d x.commitment x.offset x.size h.commitment_32 h.offset_8 h.size_8 deal.nodes
        a.size_allowed a.offset_allowed_lem (sym k.1)))
        (subst (λ (s : List ℕ). encode (fields_for deal number s x.place) ≡ r) f.1
        (ap encode (made_fields deal number x h a.number_same k.0 f.0) ∙ en))

  -- the strings of a record that was built are the deal's
  built_strings : (p : ℕ) (r : List ℕ) → Builds deal number p r
      → let y = fields_for deal number (entry_at deal.bytes p) p in strings_of (deal_size deal) y ≡ deal_strings deal y
  unfolding entry_strings segment_strings fields_for
  built_strings p r b =
      let d = deal_size deal in
      let e = entry_at deal.bytes p in
      let o = offset_in (entry_at deal.bytes p) in
      let z = size_in (entry_at deal.bytes p) in
      let v = built_in_deal deal t bd number p r b in
      let q = built_valid deal t bd number p r b in
      let n = ap node_hash q ∙ place_node deal t p o z v in
      ap₂ ◌++◌
      ((λ i. strings_from (entry_start d p) (n i) (entry_path_of deal p) (q i ∷ []))
      ∙ own_strings deal.nodes deal.bytes _ t _ (entry_start_lem v) (e ∷ []))
      (ap (λ (k : List ℕ). strings_from (segment_start d o z) k (segment_path_of deal o z) [])
      (sym b.is_kept_lem.node_is)
      ∙ own_strings deal.nodes deal.bytes _ t _ (segment_start_lem v) [])

  -- for any source that is a tree over the deal
  pub settles_deal : (r : List ℕ) → Bytes r → check_of (terms_of deal number) r ≡ 0
      → Settles (record_at deal number (place_in (parse r)) ≡ built r) (settle_with_deal deal number r)
  unfolding settle_with_deal
  settles_deal r br cr =
      let m = check_means (terms_of deal number) r cr in
      let x = m.0 in
      let px : parse r ≡ parsed x = m.1 in
      let k = parse_canonical r x br px in
      let bound : number < 2 ^ 64 = omega (arith, m.2.number_same, k.1.number_8) in
      rw (none_refusal deal lent clean sized, cr, px)
      (settles_beside (terms_of deal number) x k.1 m.2 (deal_entry_strings deal x) (deal_segment_strings deal x)
      (beside x k.1 m.2)
      (record_at deal number x.place ≡ built r)
      (same_builds x k.1 m.2 r k.0)
      (λ e.
      let b = build_means deal number x.place r e in
      let y = fields_for deal number (entry_at deal.bytes x.place) x.place in
      let q : parsed x ≡ parsed y = sym px ∙ built_parses deal t bd number x.place r b bound in
      let j : x ≡ y = cc in
      subst (λ (z : Fields). strings_of (deal_size deal) z ≡ deal_strings deal z) (sym j) (built_strings x.place r b)))

-- for the nodes worked out from the deal's bytes
pub with_deal : (deal : List ℕ) (number : ℕ) (r : List ℕ) → Bytes deal → lent_size_allowed (length deal) ≡ true
    → no_stray_bits deal ≡ true → Bytes r → check_of (terms_of (lent_deal deal) number) r ≡ 0
    → Settles (record_at (lent_deal deal) number (place_in (parse r)) ≡ built r)
    (settle_with_deal (lent_deal deal) number r)
with_deal deal number r bd l c b k =
    let tree = run_tree deal (deal_level (length deal)) (lent_size (length deal) l).deal.is_power_lem in
    settles_deal (lent_deal deal) tree bd l c refl number r b k
