-- A record that is built: its fields, its sizes for any source whose nodes have 32 bytes each, and where its paths lead
-- for any source that is a tree over the deal.
use Rattle.std.specs.Prelude.{◌≡◌, refl, true, ℕ, zero, suc, ◌+◌, ◌-◌, ◌*◌, ◌/◌, ◌%◌, ◌^◌, ◌≤◌, ◌<◌, take, drop}
use Rattle.std.proofs.Common.{sym, ap₂, ◌∙◌, arith, take-take, drop-drop, take-add}
use Rattle.std.proofs.Math.Path.{ap}
use mathlib.Core.List.{List, ◌++◌}
use Rattle.std.proofs.Math.ListN.{length}
use borrow.Author.Tests.{eq-eqb}
use Rattle.rules.specs.Refusals.{first_refusal, unless_refused}
use Rattle.rules.specs.RefusalLaws.{none_refused, all_passed}
use Rattle.octets.specs.Bytes.{Bytes}
use Rattle.octets.specs.Splice.{part}
use Rattle.octets.specs.SpliceLaws.{part_length, bytes_part}
use Rattle.node.specs.Node.{node_hash}
use Rattle.stray.specs.StrayBits.{clear_node, no_stray_bits}
use Rattle.stray.specs.StrayBitsLaws.{clear_at}
use Rattle.merkle.specs.NodeSource.{NodeSource, IsTree}
use Rattle.paths.specs.Start.{InTree}
use Rattle.paths.specs.Path.{root_from}
use Rattle.paths.specs.Siblings.{node_from}
use Rattle.paths.specs.NodesSized.{NodesSized}
use Rattle.paths.specs.SiblingsLaws.{tree_sized_lem, path_length, path_clear, own_leads}
use Rattle.paths.specs.DealStarts.{segment_start, entry_start}
use Rattle.paths.specs.DealStartsLaws.{segment_in, entry_in}
use Rattle.sizes.specs.Sizes.{lent_size_allowed, segment_size_allowed, offset_allowed, place_allowed, area, index_start}
use Rattle.sizes.specs.Sizes.{deal_level, segment_level, segment_path_levels, entry_path_levels}
use Rattle.sizes.specs.SizesLaws.{LentSize, lent_size, SegmentSize, segment_size, index_start_le}
use Rattle.sizes.specs.SizesLaws.{SegmentPlace, segment_place, EntryPlace, entry_place}
use Rattle.entries.specs.Entry.{entry_of, commitment_in, offset_in, size_in}
use Rattle.entries.specs.EntryLaws.{valid_is}
use Rattle.index.specs.Slots.{entry_at, kept}
use Rattle.index.specs.SlotsLaws.{Keeps, keeps}
use Rattle.record.specs.Form.{parsed, parse, encode}
use Rattle.record.specs.FormLaws.{Sized, parse_encode}
use Rattle.record.specs.CheckLaws.{Accepted}
use Rattle.lent.specs.LentDeal.{LentDeal, deal_size}
use Rattle.builder.specs.Build.{deal_commitment, terms_of, segment_path_of, entry_path_of, fields_for}
use Rattle.builder.specs.Build.{built, not_built, build_rules, record_at}

-- what a record that was built is
pub record Builds (deal : LentDeal) (number place : ℕ) (r : List ℕ) : Type 0 where
  pub lent : lent_size_allowed (deal_size deal) ≡ true
  pub clean : no_stray_bits deal.bytes ≡ true
  pub tree_sized_lem : deal.tree_sized ≡ true
  pub place_allowed_lem : place_allowed (deal_size deal) place ≡ true
  pub is_kept_lem : Keeps deal.nodes (deal_size deal) (entry_at deal.bytes place)
  pub wrote : encode (fields_for deal number (entry_at deal.bytes place) place) ≡ r

pub build_means : (deal : LentDeal) (number place : ℕ) (r : List ℕ) → record_at deal number place ≡ built r
    → Builds deal number place r
unfolding record_at
build_means deal number place r e = go (first_refusal (build_rules deal place)) refl e
  where
    go : (code : ℕ) → first_refusal (build_rules deal place) ≡ code
        → unless_refused code not_built (built (encode (fields_for deal number (entry_at deal.bytes place) place)))
        ≡ built r
        → Builds deal number place r
    go zero q i =
        let a = none_refused (build_rules deal place)
        (omega arith, (omega arith, (omega arith, (omega arith, (omega arith, tt))))) q in
        let w : encode (fields_for deal number (entry_at deal.bytes place) place) ≡ r = cc in
        record {
          lent = a.0;
          clean = a.1.0;
          tree_sized_lem = a.1.1.0;
          place_allowed_lem = a.1.1.1.0;
          is_kept_lem = keeps deal.nodes (deal_size deal) (entry_at deal.bytes place) a.1.1.1.1.0;
          wrote = w;
        }
    go (suc code) q i = let z : ◌≡◌ {A = ℕ} 0 1 = cc in absurd (omega arith)

pub means_build : (deal : LentDeal) (number place : ℕ) (r : List ℕ) → lent_size_allowed (deal_size deal) ≡ true
    → no_stray_bits deal.bytes ≡ true → deal.tree_sized ≡ true → place_allowed (deal_size deal) place ≡ true
    → kept deal.nodes (deal_size deal) (entry_at deal.bytes place) ≡ true
    → encode (fields_for deal number (entry_at deal.bytes place) place) ≡ r → record_at deal number place ≡ built r
unfolding record_at
means_build deal number place r a b t c k e =
    rw (all_passed (build_rules deal place) (a, (b, (t, (c, (k, tt)))))) (ap built e)

-- the numbers of an entry place, an offset and a size in a lent deal
pub record InDeal (d place offset size : ℕ) : Type 0 where
  pub lent_is : LentSize d
  pub size_is : SegmentSize d size
  pub segment_is : SegmentPlace d offset size
  pub place_is : EntryPlace d place
  pub segment_up : segment_level size + segment_path_levels d size ≡ deal_level d
  pub entry_up : 1 + entry_path_levels d ≡ deal_level d

pub in_deal : (d place offset size : ℕ) → lent_size_allowed d ≡ true → place_allowed d place ≡ true
    → segment_size_allowed d size ≡ true → offset_allowed d offset size ≡ true → InDeal d place offset size
in_deal d place offset size l q s f =
    let t = lent_size d l in
    let a = segment_size d size t.deal s in
    let b : 4 ≤ deal_level d = t.deal.level_low in
    let c : segment_level size < deal_level d = a.below_deal in
    record {
      lent_is = t;
      size_is = a;
      segment_is = segment_place d offset size t.deal a f;
      place_is = entry_place d place t.deal q;
      segment_up = omega arith;
      entry_up = omega arith;
    }

-- the starts of the two paths in the deal's tree
module _ {d place offset size : ℕ} (w : InDeal d place offset size) where
  pub segment_start_lem : InTree (deal_level d) (segment_start d offset size)
  segment_start_lem = segment_in w.size_is w.segment_is

  pub entry_start_lem : InTree (deal_level d) (entry_start d place)
  entry_start_lem = entry_in w.lent_is.deal w.place_is

-- an entry of a deal without stray bits has a clear commitment
entry_clear : (deal : List ℕ) (place : ℕ) → place ≡ 64 * (place / 64) → place + 64 ≤ length deal
    → no_stray_bits deal ≡ true → clear_node (commitment_in (entry_at deal place)) ≡ true
unfolding commitment_in part
entry_clear deal place e h k =
    let at : place ≡ (place / 64 * 2) * 32 = omega arith in
    ap clear_node (take-take 32 64 (drop place deal) (omega arith) ∙ ap (λ (m : ℕ). take 32 (drop m deal)) at)
    ∙ clear_at (length deal / 32) (place / 64 * 2) deal k (omega arith)

-- the node over the 64 bytes at a place
pub entry_node : (nodes : NodeSource) (deal : List ℕ) (top place : ℕ) → IsTree nodes deal top
    → place ≡ 64 * (place / 64) → 0 < top → place / 64 < 2 ^ (top - 1)
    → node_hash (entry_at deal place) ≡ nodes 1 (place / 64)
unfolding part
entry_node nodes deal top place t e o h =
    let m = place / 64 in
    let a : place ≡ (m * 2) * 32 = omega arith in
    let b : place + 32 ≡ (m * 2 + 1) * 32 = omega arith in
    ap node_hash (take-add 32 32 (drop place deal)
    ∙ ap₂ ◌++◌ (ap (λ (k : ℕ). take 32 (drop k deal)) a ∙ sym (t.leaf (m * 2)))
    (ap (take 32) (drop-drop 32 place deal ∙ ap (λ (k : ℕ). drop k deal) b) ∙ sym (t.leaf (m * 2 + 1))))
    ∙ sym (t.split (top - 1) 0 m (omega arith) h)

-- where the nodes have 32 bytes each, the paths have as many nodes as they have levels
module _ (deal : LentDeal) (each : NodesSized deal.nodes (deal_level (deal_size deal))) where
  module _ (place offset size : ℕ) (w : InDeal (deal_size deal) place offset size) where
    pub segment_path_length : length (segment_path_of deal offset size) ≡ 32 * segment_path_levels (deal_size deal) size
    segment_path_length = path_length deal.nodes _ each _ (segment_start_lem w)

    pub entry_path_length : length (entry_path_of deal place) ≡ 32 * entry_path_levels (deal_size deal)
    entry_path_length = path_length deal.nodes _ each _ (entry_start_lem w)

-- where they are a tree, the paths lead to the deal's commitment
module _ (deal : LentDeal) (t : IsTree deal.nodes deal.bytes (deal_level (deal_size deal))) where
  abbrev each : NodesSized deal.nodes (deal_level (deal_size deal))
  each = tree_sized_lem deal.nodes deal.bytes _ t

  module _ (place offset size : ℕ) (w : InDeal (deal_size deal) place offset size) where
    pub segment_path_clear : no_stray_bits (segment_path_of deal offset size) ≡ true
    segment_path_clear =
        let low : 2 ≤ segment_level size = w.size_is.level_low in
        path_clear deal.nodes deal.bytes _ t (segment_start (deal_size deal) offset size) (omega arith)
        (segment_start_lem w)

    pub entry_path_clear : no_stray_bits (entry_path_of deal place) ≡ true
    entry_path_clear =
        path_clear deal.nodes deal.bytes _ t (entry_start (deal_size deal) place) (omega arith) (entry_start_lem w)

    pub segment_path_leads :
        let start = segment_start (deal_size deal) offset size in
        root_from start (node_from deal.nodes start) (segment_path_of deal offset size) ≡ deal_commitment deal
    segment_path_leads = own_leads deal.nodes deal.bytes _ t _ (segment_start_lem w)

    pub entry_path_leads :
        let start = entry_start (deal_size deal) place in
        root_from start (node_from deal.nodes start) (entry_path_of deal place) ≡ deal_commitment deal
    entry_path_leads = own_leads deal.nodes deal.bytes _ t _ (entry_start_lem w)

    pub place_node : node_hash (entry_at deal.bytes place) ≡ node_from deal.nodes (entry_start (deal_size deal) place)
    place_node =
        let l : 4 ≤ deal_level (deal_size deal) = w.lent_is.deal.level_low in
        entry_node deal.nodes deal.bytes (deal_level (deal_size deal)) place t w.place_is.at_position
        (omega arith) w.place_is.position_in

  pub commitment_length : length (deal_commitment deal) ≡ 32
  commitment_length = t.sized 0 (deal_level (deal_size deal)) 0 (omega arith) (omega arith)

  module _ (b : Bytes deal.bytes) (number place : ℕ) (r : List ℕ) (m : Builds deal number place r) where
    abbrev e : List ℕ
    e = entry_at deal.bytes place

    pub built_in_deal : InDeal (deal_size deal) place (offset_in e) (size_in e)
    built_in_deal =
        let s = m.is_kept_lem.is_standing in
        in_deal (deal_size deal) place (offset_in e) (size_in e) m.lent m.place_allowed_lem s.size_allowed
        s.offset_allowed_lem

    -- the entry is the one that its fields make
    pub built_valid : entry_of (commitment_in e) (offset_in e) (size_in e) ≡ e
    built_valid =
        valid_is e (part_length deal.bytes place 64 built_in_deal.place_is.in_deal)
        (bytes_part deal.bytes place 64 b) m.is_kept_lem.is_standing.right

    built_sized : number < 2 ^ 64 → Sized (fields_for deal number e place)
    unfolding fields_for commitment_in
    built_sized bound =
        let w = built_in_deal in
        let o = offset_in e in
        let z = size_in e in
        let l : length e ≡ 64 = part_length deal.bytes place 64 w.place_is.in_deal in
        let high : deal_size deal ≤ 2 ^ 24 = w.lent_is.lent_high in
        let room : place + 64 ≤ deal_size deal = w.place_is.in_deal in
        let sl = index_start_le (deal_size deal) in
        let oh : o + area z ≤ index_start (deal_size deal) = w.segment_is.ends in
        let zh : z ≤ area z = w.size_is.size_area in
        let th : deal_level (deal_size deal) ≤ 19 = w.lent_is.lent_level in
        let a = segment_path_length deal each place o z w in
        let c = entry_path_length deal each place o z w in
        record {
          commitment_32 = part_length e 0 32 (omega arith);
          offset_8 = omega arith;
          size_8 = omega arith;
          place_8 = omega arith;
          segment_path_nodes = eq-eqb (length (segment_path_of deal o z) % 32) 0 (omega arith);
          segment_path_short = omega arith;
          entry_path_nodes = eq-eqb (length (entry_path_of deal place) % 32) 0 (omega arith);
          entry_path_short = omega arith;
          number_8 = omega arith;
        }

    pub built_parses : number < 2 ^ 64 → parse r ≡ parsed (fields_for deal number e place)
    built_parses bound = ap parse (sym m.wrote) ∙ parse_encode (fields_for deal number e place) (built_sized bound)

    pub built_accepted : Accepted (terms_of deal number) (fields_for deal number e place)
    unfolding fields_for
    built_accepted =
        let w = built_in_deal in
        let o = offset_in e in
        let z = size_in e in
        let d = deal_size deal in
        record {
          number_same = refl;
          size_allowed = m.is_kept_lem.is_standing.size_allowed;
          offset_allowed_lem = m.is_kept_lem.is_standing.offset_allowed_lem;
          place_allowed_lem = m.place_allowed_lem;
          segment_path_length = segment_path_length deal each place o z w;
          entry_path_length = entry_path_length deal each place o z w;
          commitment_clear =
              entry_clear deal.bytes place w.place_is.at_position w.place_is.in_deal m.clean;
          segment_path_clear = segment_path_clear place o z w;
          entry_path_clear = entry_path_clear place o z w;
          segment_path_leads =
              ap (λ (x : List ℕ). root_from (segment_start d o z) x (segment_path_of deal o z)) (sym m.is_kept_lem.node_is)
              ∙ segment_path_leads place o z w;
          entry_path_leads =
              ap (λ (x : List ℕ). root_from (entry_start d place) x (entry_path_of deal place))
              (ap node_hash built_valid ∙ place_node place o z w)
              ∙ entry_path_leads place o z w;
        }
