-- 2, 11, 12, the check against the deal's own commitment; then the entry parts decide where they differ, and else the
-- segment parts.
use mathlib.Core.Path.{◌≡◌, refl, sym, ap, ap₂, ◌∙◌, subst}
use mathlib.Core.Bool.{true}
use Prim.Native.Nat.{ℕ, ◌+◌, ◌*◌, ◌≤◌}
use native.Mathlib.Omega.{arith}
use mathlib.Core.List.{List}
use lib.ListN.{length, take, replicate}
use lib.Seq.{length-take-le}
use Rattle.octets.specs.Splice.{part}
use Rattle.octets.specs.SpliceLaws.{part_range}
use Rattle.paths.specs.NodesSized.{NodesSized}
use Rattle.sizes.specs.Sizes.{segment_size_allowed, offset_allowed, place_allowed, deal_level, segment_level}
use Rattle.sizes.specs.Sizes.{segment_position, segment_path_levels, entry_path_levels}
use Rattle.sizes.specs.SizesLaws.{lent_size}
use Rattle.record.specs.Check.{deal_terms, check_of}
use Rattle.record.specs.Form.{Fields, parsed, parse}
use Rattle.record.specs.Answers.{read_fields}
use Rattle.lent.specs.LentDeal.{LentDeal, deal_size, deal_refusal}
use Rattle.lent.specs.Seen.{seen}
use Rattle.lent.specs.UsableLaws.{nodes_sized}
use Rattle.builder.specs.Build.{deal_commitment, terms_of, segment_path_of, entry_path_of}
use Rattle.builder.specs.BuildLaws.{in_deal}
use Rattle.settle.specs.Answers.{settled_answer}
use Rattle.settle.proofs.Answers.{some_differs, none_differs}
use Rattle.rules.specs.AnswerLaws.{passed_on, number_some}
use Rattle.settle.specs.AcceptedRecord.{AcceptedRecord}
use Rattle.settle.specs.AcceptedRecordLaws.{accepted}
use Rattle.settle.specs.OwnPaths.{own_paths}
use Rattle.settle.proofs.OwnPath.{paths_room, own_length, own_segment, own_entry}
use Rattle.settle.proofs.DealCases.{inside, parse_refused, lent, check_refused, own_number}
use Rattle.settle.proofs.DealCases.{entries_differ, entries_same}
use Rattle.settle.proofs.with_deal.settle_in.Goals as goal

-- the check against the deal's own terms, and a record that it lets pass
module _ (deal : LentDeal) (number : ℕ) (r : List ℕ) where
  checked_own : {code : ℕ} {commitment : List ℕ} → code ≡ check_of (deal_terms commitment (deal_size deal) number) r
      → commitment ≡ deal_commitment deal → code ≡ check_of (terms_of deal number) r
  checked_own e k = e ∙ ap (λ (commitment : List ℕ). check_of (deal_terms commitment (deal_size deal) number) r) k

  passed : {x : Fields} → parsed x ≡ parse r → 0 ≡ check_of (terms_of deal number) r
      → AcceptedRecord (terms_of deal number) r x
  passed p e = record { parsed_is = sym p; checked = sym e }

-- the buffer that the deal's own paths for an accepted record were written into
record Own (deal : LentDeal) (number : ℕ) (r : List ℕ) (x : Fields) (size offset : ℕ) (out : List ℕ) : Type 0 where
  fine : deal_refusal deal ≡ 0
  nodes_fit : NodesSized deal.nodes (deal_level (deal_size deal))
  taken : AcceptedRecord (terms_of deal number) r x
  size_is : size ≡ x.size
  offset_is : offset ≡ x.offset
  paths_are : out ≡ own_paths deal x.offset x.size x.place (replicate 1120 0)

-- the place, the size and the offset that were chosen are the record's
read_own : {deal : LentDeal} {number : ℕ} {r : List ℕ} {x : Fields} {place size offset : ℕ} {out : List ℕ}
    → deal_refusal deal ≡ 0 → NodesSized deal.nodes (deal_level (deal_size deal))
    → AcceptedRecord (terms_of deal number) r x
    → (place_allowed (deal_size deal) x.place ≡ true → place ≡ x.place)
    → (segment_size_allowed (deal_size deal) x.size ≡ true → size ≡ x.size)
    → (offset_allowed (deal_size deal) x.offset size ≡ true → offset ≡ x.offset)
    → out ≡ own_paths deal offset size place (replicate 1120 0)
    → Own deal number r x size offset out
read_own {deal} {x = x} fine each taken p s o w =
    let a = accepted taken in
    let place_is = p a.place_allowed_lem in
    let size_is = s a.size_allowed in
    let offset_is = o (subst (λ (z : ℕ). offset_allowed (deal_size deal) x.offset z ≡ true) (sym size_is)
    a.offset_allowed_lem) in
    record {
      fine = fine;
      nodes_fit = each;
      taken = taken;
      size_is = size_is;
      offset_is = offset_is;
      paths_are = w ∙ (λ j. own_paths deal (offset_is j) (size_is j) (place_is j) (replicate 1120 0));
    }

-- they fit, and each is read where it stands
module _ {deal : LentDeal} {number : ℕ} {r : List ℕ} {x : Fields} {size offset : ℕ} {out : List ℕ}
    (o : Own deal number r x size offset out) where
  sized : (length x.segment_path ≡ 32 * segment_path_levels (deal_size deal) x.size)
      × (length x.entry_path ≡ 32 * entry_path_levels (deal_size deal))
  sized = let a = accepted o.taken in (a.segment_path_length, a.entry_path_length)

  buffer_length : length out ≡ 1120
  buffer_length =
      own_length deal o.nodes_fit x.place x.offset x.size (inside deal o.fine (accepted o.taken)) out o.paths_are

  paths_fit : length x.segment_path + length x.entry_path ≤ length out
  paths_fit =
      omega (
        arith,
        sized.0,
        sized.1,
        paths_room deal o.nodes_fit x.place x.offset x.size (inside deal o.fine (accepted o.taken)),
        buffer_length,
      )

  segment_path_is : take (length x.segment_path) out ≡ segment_path_of deal x.offset x.size
  unfolding part
  segment_path_is =
      ap (part out 0) sized.0
      ∙ own_segment deal o.nodes_fit x.place x.offset x.size (inside deal o.fine (accepted o.taken)) out o.paths_are

  entry_path_is : part out (length x.segment_path) (length x.entry_path) ≡ entry_path_of deal x.place
  entry_path_is =
      ap₂ (part out) sized.0 sized.1
      ∙ own_entry deal o.nodes_fit x.place x.offset x.size (inside deal o.fine (accepted o.taken)) out o.paths_are

pub returns-in_err-x : goal.returns-in_err-x
returns-in_err-x c =
    let a = c.args in
    ap settled_answer (passed_on _ _ c.from_residual.ensures.1)
    ∙ parse_refused (seen a.deal.now) a.number a.record.now c.requires (nodes_sized _ _ a.deal.now.usable)
    c.in_err-x.ensures.places
    c.in_err-x.ensures.contents

pub allowed_place-place-requires : goal.allowed_place-place-requires
allowed_place-place-requires c = (lent_size _ (lent (seen c.args.deal.now) c.requires)).allowed

pub allowed_size-size-requires : goal.allowed_size-size-requires
allowed_size-size-requires c = (lent_size _ (lent (seen c.args.deal.now) c.requires)).allowed

pub allowed_offset-offset-requires : goal.allowed_offset-offset-requires
allowed_offset-offset-requires c =
    ((lent_size _ (lent (seen c.args.deal.now) c.requires)).allowed, c.allowed_size-size.ensures.0)

pub segment_node-node-requires : goal.segment_node-node-requires
segment_node-node-requires c =
    record { size_allowed = c.allowed_size-size.ensures.0; offset_allowed = c.allowed_offset-offset.ensures.0 }

pub write_own-commitment-requires : goal.write_own-commitment-requires
write_own-commitment-requires c =
    let deal = seen c.args.deal.now in
    record {
      in_deal = in_deal (deal_size deal) _ _ _ (lent deal c.requires) c.allowed_place-place.ensures.0
          c.allowed_size-size.ensures.0 c.allowed_offset-offset.ensures.0;
      node_value = c.segment_node-node.ensures;
      out_len = refl;
    }

pub returns-in_err-check : goal.returns-in_err-check
returns-in_err-check c =
    let a = c.args in
    let deal = seen a.deal.now in
    let checked = checked_own deal a.number a.record.now c.in_err-check.ensures c.write_own-commitment.ensures.0 in
    ap settled_answer (passed_on _ _ c.from_residual-in_err-check.ensures.1)
    ∙ check_refused deal a.number a.record.now c.requires checked
    (λ z. let s = number_some c.in_err-check.field-0.0 in absurd (omega arith))

pub overflow_add-end : goal.overflow_add-end
overflow_add-end c =
    let a = c.args in
    let deal = seen a.deal.now in
    let x = read_fields c.in_ok-x.x in
    let checked = checked_own deal a.number a.record.now c.in_ok-check.ensures c.write_own-commitment.ensures.0 in
    let taken = passed deal a.number a.record.now c.in_ok-x.ensures.contents checked in
    let own = read_own c.requires (nodes_sized _ _ a.deal.now.usable) taken c.allowed_place-place.ensures.1
    c.allowed_size-size.ensures.1 c.allowed_offset-offset.ensures.1 c.write_own-commitment.ensures.1 in
    omega (arith, paths_fit own, buffer_length own)

pub slice_bounds-compare_deal_entry-end : goal.slice_bounds-compare_deal_entry-end
slice_bounds-compare_deal_entry-end c =
    let a = c.args in
    let deal = seen a.deal.now in
    let x = read_fields c.in_ok-x.x in
    let checked = checked_own deal a.number a.record.now c.in_ok-check.ensures c.write_own-commitment.ensures.0 in
    let taken = passed deal a.number a.record.now c.in_ok-x.ensures.contents checked in
    let own = read_own c.requires (nodes_sized _ _ a.deal.now.usable) taken c.allowed_place-place.ensures.1
    c.allowed_size-size.ensures.1 c.allowed_offset-offset.ensures.1 c.write_own-commitment.ensures.1 in
    paths_fit own

pub compare_deal_entry-found-requires : goal.compare_deal_entry-found-requires
compare_deal_entry-found-requires c =
    let a = c.args in
    let deal = seen a.deal.now in
    let x = read_fields c.in_ok-x.x in
    let checked = checked_own deal a.number a.record.now c.in_ok-check.ensures c.write_own-commitment.ensures.0 in
    let taken = passed deal a.number a.record.now c.in_ok-x.ensures.contents checked in
    let own = read_own c.requires (nodes_sized _ _ a.deal.now.usable) taken c.allowed_place-place.ensures.1
    c.allowed_size-size.ensures.1 c.allowed_offset-offset.ensures.1 c.write_own-commitment.ensures.1 in (
      c.requires,
      own_number deal (accepted taken),
      part_range _ (length x.segment_path) (length x.entry_path) ∙ entry_path_is own,
    )

pub returns-then-is_some : goal.returns-then-is_some
returns-then-is_some c =
    let a = c.args in
    let deal = seen a.deal.now in
    let x = read_fields c.in_ok-x.x in
    let checked = checked_own deal a.number a.record.now c.in_ok-check.ensures c.write_own-commitment.ensures.0 in
    let taken = passed deal a.number a.record.now c.in_ok-x.ensures.contents checked in
    let own = read_own c.requires (nodes_sized _ _ a.deal.now.usable) taken c.allowed_place-place.ensures.1
    c.allowed_size-size.ensures.1 c.allowed_offset-offset.ensures.1 c.write_own-commitment.ensures.1 in
    entries_differ deal c.requires taken _ c.compare_deal_entry-found.ensures
    (some_differs _ (sym c.is_some.ensures ∙ c.if-is_some.true))

pub slice_bounds-own-end : goal.slice_bounds-own-end
slice_bounds-own-end c =
    let a = c.args in
    let deal = seen a.deal.now in
    let x = read_fields c.in_ok-x.x in
    let checked = checked_own deal a.number a.record.now c.in_ok-check.ensures c.write_own-commitment.ensures.0 in
    let taken = passed deal a.number a.record.now c.in_ok-x.ensures.contents checked in
    let own = read_own c.requires (nodes_sized _ _ a.deal.now.usable) taken c.allowed_place-place.ensures.1
    c.allowed_size-size.ensures.1 c.allowed_offset-offset.ensures.1 c.write_own-commitment.ensures.1 in
    omega (arith, paths_fit own)

pub slice_bounds-compare_deal_segment-end : goal.slice_bounds-compare_deal_segment-end
slice_bounds-compare_deal_segment-end c =
    let a = c.args in
    let deal = seen a.deal.now in
    let x = read_fields c.in_ok-x.x in
    let checked = checked_own deal a.number a.record.now c.in_ok-check.ensures c.write_own-commitment.ensures.0 in
    let taken = passed deal a.number a.record.now c.in_ok-x.ensures.contents checked in
    let own = read_own c.requires (nodes_sized _ _ a.deal.now.usable) taken c.allowed_place-place.ensures.1
    c.allowed_size-size.ensures.1 c.allowed_offset-offset.ensures.1 c.write_own-commitment.ensures.1 in
    sym (length-take-le (length x.segment_path) _ (omega (arith, paths_fit own)))

pub compare_deal_segment-requires : goal.compare_deal_segment-requires
compare_deal_segment-requires c =
    let a = c.args in
    let deal = seen a.deal.now in
    let x = read_fields c.in_ok-x.x in
    let checked = checked_own deal a.number a.record.now c.in_ok-check.ensures c.write_own-commitment.ensures.0 in
    let taken = passed deal a.number a.record.now c.in_ok-x.ensures.contents checked in
    let own = read_own c.requires (nodes_sized _ _ a.deal.now.usable) taken c.allowed_place-place.ensures.1
    c.allowed_size-size.ensures.1 c.allowed_offset-offset.ensures.1 c.write_own-commitment.ensures.1 in (
      c.requires,
      own_number deal (accepted taken),
      c.segment_node-node.ensures
          ∙ (λ j. deal.nodes (segment_level (own.size_is j)) (segment_position (own.offset_is j) (own.size_is j))),
      segment_path_is own,
    )

pub returns : goal.returns
returns c =
    let a = c.args in
    let deal = seen a.deal.now in
    let x = read_fields c.in_ok-x.x in
    let checked = checked_own deal a.number a.record.now c.in_ok-check.ensures c.write_own-commitment.ensures.0 in
    let taken = passed deal a.number a.record.now c.in_ok-x.ensures.contents checked in
    let own = read_own c.requires (nodes_sized _ _ a.deal.now.usable) taken c.allowed_place-place.ensures.1
    c.allowed_size-size.ensures.1 c.allowed_offset-offset.ensures.1 c.write_own-commitment.ensures.1 in
    entries_same deal c.requires taken _ c.compare_deal_entry-found.ensures
    (none_differs _ (sym c.is_some.ensures ∙ c.if-is_some.false)) c.compare_deal_segment.ensures
