-- Whether a slot keeps a segment, by the tests on the way. Without a tree the deal is not hashed: over equal bytes
-- the node is the segment's own commitment.
use mathlib.Core.Path.{◌≡◌, refl, sym, ap, ap₂, ◌∙◌}
use mathlib.Core.Bool.{Bool, true, false, ◌&&◌, not}
use Rattle.std.specs.Prelude.{nat_eq}
use Rattle.std.specs.Cmp.Lexicographic.{pointwise}
use Rattle.std.proofs.lemmas.Bool.{not-true, not-false}
use mathlib.Core.List.{List}
use Prim.Native.Nat.{ℕ, ◌+◌, ◌≤◌, ◌<◌}
use native.Mathlib.Nat.{add-zero}
use native.Mathlib.Omega.{arith}
use lib.Dec.{eqb}
use lib.ListN.{length}
use borrow.Author.Tests.{eqb-true, eq-eqb}
use Rattle.std.specs.Prelude.{Option, Some, None}
use Rattle.octets.specs.Equality.{same_bytes}
use Rattle.octets.specs.EqualityLaws.{pointwise_same, same_true, same_of, same_false}
use Rattle.octets.specs.Fill.{zero_filled}
use Rattle.octets.specs.LittleEndian.{number_of}
use Rattle.rules.specs.RefusalLaws.{and_left, and_right, not_passed}
use Rattle.octets.specs.Splice.{part}
use Rattle.octets.specs.SpliceLaws.{part_part}
use Rattle.merkle.specs.Tree.{commitment_of, node_at}
use Rattle.entries.specs.Entry.{commitment_in, offset_in, size_in}
use Rattle.sizes.specs.Sizes.{segment_size_allowed, offset_allowed, area, slot_place, segment_level, segment_position}
use Rattle.sizes.specs.SizesLaws.{DealSize, segment_size}
use Rattle.tree.specs.TreeNodes.{tree_nodes}
use Rattle.lent.specs.LentDeal.{LentDeal, lent_of, deal_size}
use Rattle.index.specs.KeptLaws.{segment_node}
use Rattle.index.specs.KeptRowsLaws.{row_some, standing_size, standing_place}
use Rattle.index.specs.Slots.{slot_at, standing, node_over, kept, kept_at}
use Rattle.index.specs.SlotsLaws.{stands, keeps}
use Rattle.room.specs.Room.{Range, range}
use Rattle.ranges.specs.Ranges.{ranges_of}
use Rattle.ranges.specs.RangesLaws.{range_stands}
use Rattle.booking.specs.Write.{area_bytes, segment_commitment}
use Rattle.booking.specs.AreaNode.{area_node}
use Rattle.booking.specs.Booking.{keeps_segment}
use Rattle.booking.specs.KeepLaws.{keeps_stands}

-- what the test whether two strings differ says
module _ (x y : List ℕ) (differ : Bool) (e : differ ≡ not (pointwise nat_eq x y)) where
  pub unequal : differ ≡ true → x ≡ y → ⊥
  unequal t = same_false x y (sym (pointwise_same x y) ∙ not-true (pointwise nat_eq x y) (sym e ∙ t))

  pub equal : differ ≡ false → x ≡ y
  equal t = same_true x y (sym (pointwise_same x y) ∙ not-false (pointwise nat_eq x y) (sym e ∙ t))

module _ (deal : LentDeal) (segment : List ℕ) (i : ℕ) where
  -- the entry in the slot, whether it has the segment's size, and the bytes at its offset
  abbrev entry : List ℕ
  entry = slot_at deal.bytes i

  abbrev size_here : Bool
  size_here = eqb (size_in entry) (length segment)

  abbrev bytes_here : Bool
  bytes_here = same_bytes (part deal.bytes (offset_in entry) (area (length segment))) (area_bytes segment)

  module _ (e : keeps_segment deal segment i ≡ true) where
    is_kept_lem : kept_at deal i ≡ true
    unfolding keeps_segment
    is_kept_lem = and_left (kept_at deal i) (size_here && bytes_here) e

    same_size : size_in entry ≡ length segment
    unfolding keeps_segment
    same_size = eqb-true _ _ (and_left size_here bytes_here (and_right (kept_at deal i) (size_here && bytes_here) e))

    same_bytes_lem : part deal.bytes (offset_in entry) (area (length segment)) ≡ area_bytes segment
    unfolding keeps_segment
    same_bytes_lem =
        same_true _ _ (and_right size_here bytes_here (and_right (kept_at deal i) (size_here && bytes_here) e))

    range_is : ranges_of deal.bytes i ≡ range (offset_in entry) (area (size_in entry))
    range_is = range_stands (deal_size deal) entry (keeps_stands deal segment i e)

  -- an entry of another area or size
  pub other_area : ((ranges_of deal.bytes i).area ≡ area (length segment) → ⊥) → keeps_segment deal segment i ≡ false
  other_area h =
      not_passed (keeps_segment deal segment i)
      (λ t. h (ap (λ (r : Range). r.area) (range_is t) ∙ ap area (same_size t)))

  pub other_size : (size_in entry ≡ length segment → ⊥) → keeps_segment deal segment i ≡ false
  other_size h = not_passed (keeps_segment deal segment i) (λ t. h (same_size t))

  -- an entry that agrees in both stands
  module _ (a : 0 < (ranges_of deal.bytes i).area) (z : size_in entry ≡ length segment) where
    stood : standing (deal_size deal) entry ≡ true
    stood = row_some (deal_size deal) entry a

    offset_there : (ranges_of deal.bytes i).offset ≡ offset_in entry
    offset_there = ap (λ (r : Range). r.offset) (range_stands (deal_size deal) entry stood)

    offset_fits : offset_allowed (deal_size deal) (ranges_of deal.bytes i).offset (length segment) ≡ true
    offset_fits =
        ap₂ (offset_allowed (deal_size deal)) offset_there (sym z)
        ∙ (stands (deal_size deal) entry stood).offset_allowed_lem

    -- its commitment and its bytes decide: the first by a node that is the one over its area wherever that holds
    -- exactly the segment's bytes and zeros after them
    module _ (node : List ℕ)
        (n : part deal.bytes (offset_in entry) (area (length segment)) ≡ area_bytes segment
        → node_over deal.nodes entry ≡ node) where
      other_commitment : (commitment_in entry ≡ node → ⊥) → keeps_segment deal segment i ≡ false
      other_commitment h =
          not_passed (keeps_segment deal segment i)
          (λ e.
          let k = keeps deal.nodes (deal_size deal) entry (is_kept_lem e) in
          h (sym k.node_is ∙ n (same_bytes_lem e)))

      module _ (c : commitment_in entry ≡ node) where
        keeps_here : part deal.bytes (offset_in entry) (area (length segment)) ≡ area_bytes segment
            → keeps_segment deal segment i ≡ true
        unfolding keeps_segment kept
        keeps_here b =
            rw (
              stood,
              same_of _ _ (n b ∙ sym c),
              eq-eqb (size_in entry) (length segment) z,
              same_of _ _ b,
            )

        bytes_decide : bytes_here ≡ keeps_segment deal segment i
        bytes_decide = by_test bytes_here refl
          where
            by_test : (b : Bool) → bytes_here ≡ b → b ≡ keeps_segment deal segment i
            by_test true e = sym (keeps_here (same_true _ _ e))
            by_test false e = sym (not_passed (keeps_segment deal segment i) (λ t. same_false _ _ e (same_bytes_lem t)))

-- such a node: with a tree beside the deal the one that stands there, and without one the segment's commitment
module _ (deal segment : List ℕ) (i : ℕ) (t : DealSize (length deal))
    (s : standing (length deal) (slot_at deal i) ≡ true) (z : size_in (slot_at deal i) ≡ length segment) where
  abbrev here : List ℕ
  here = slot_at deal i

  own_node : part deal (offset_in here) (area (length segment)) ≡ area_bytes segment
      → node_over (node_at deal) here ≡ segment_commitment segment
  own_node b =
      segment_node deal (length deal) (offset_in here) (size_in here) (standing_size (length deal) here t s)
      (standing_place (length deal) here t s)
      ∙ ap (λ (n : ℕ). commitment_of (segment_level n) (part deal (offset_in here) (area n))) z
      ∙ ap (commitment_of (segment_level (length segment))) b

  pub node_there : (tree : Option (List ℕ)) (offset : ℕ) → offset ≡ offset_in here
      → part deal (offset_in here) (area (length segment)) ≡ area_bytes segment
      → node_over (lent_of deal tree).nodes here
      ≡ area_node deal tree offset (length segment) (segment_commitment segment)
  node_there (Some tree) offset o b =
      ap₂ (λ (n m : ℕ). tree_nodes deal tree (segment_level n) (segment_position m n)) z (sym o)
  node_there None offset o b = own_node b

-- the same by the range of the slot, where it has the segment's area and its entry the segment's size
module _ (deal : List ℕ) (tree : Option (List ℕ)) (segment : List ℕ) (i : ℕ) (here : Range)
    (r : here ≡ ranges_of deal i) (t : DealSize (length deal))
    (f : segment_size_allowed (length deal) (length segment) ≡ true) (a : here.area ≡ area (length segment))
    (z : size_in (slot_at deal i) ≡ length segment) where
  abbrev lent : LentDeal
  lent = lent_of deal tree

  some_area : 0 < (ranges_of deal i).area
  some_area =
      let low = (segment_size (length deal) (length segment) t f).area_low in
      omega (arith, ap (λ (x : Range). x.area) r)

  range_offset : here.offset ≡ offset_in (slot_at deal i)
  range_offset = ap (λ (x : Range). x.offset) r ∙ offset_there lent segment i some_area z

  pub offset_here : offset_allowed (length deal) here.offset (length segment) ≡ true
  offset_here =
      ap (λ (x : Range). offset_allowed (length deal) x.offset (length segment)) r
      ∙ offset_fits lent segment i some_area z

  module _ (node : List ℕ)
      (n : node ≡ area_node deal tree here.offset (length segment) (segment_commitment segment)) where
    node_is : part deal (offset_in (slot_at deal i)) (area (length segment)) ≡ area_bytes segment
        → node_over (lent_of deal tree).nodes (slot_at deal i) ≡ node
    node_is b =
        node_there deal segment i t (stood lent segment i some_area z) z tree here.offset range_offset b ∙ sym n

    pub other_node : (commitment_in (slot_at deal i) ≡ node → ⊥) → keeps_segment (lent_of deal tree) segment i ≡ false
    other_node h = other_commitment lent segment i some_area z node node_is h

    pub bytes_left : commitment_in (slot_at deal i) ≡ node
        → same_bytes (part deal here.offset here.area) (zero_filled here.area segment)
        ≡ keeps_segment (lent_of deal tree) segment i
    bytes_left c =
        ap₂ (λ (at m : ℕ). same_bytes (part deal at m) (zero_filled m segment)) range_offset a
        ∙ bytes_decide lent segment i some_area z node node_is c

-- what is read at a slot's place
module _ (deal : List ℕ) (i place : ℕ) (p : place ≡ slot_place (length deal) i) (h : place + 64 ≤ length deal) where
  pub size_there_lem : number_of (part deal (place + 40) 8) ≡ size_in (slot_at deal i)
  unfolding size_in
  size_there_lem =
      ap number_of (sym (part_part deal place 64 40 8 (omega arith) h))
      ∙ ap (λ (at : ℕ). number_of (part (part deal at 64) 40 8)) p

  pub commitment_there : part deal place 32 ≡ commitment_in (slot_at deal i)
  unfolding commitment_in
  commitment_there =
      ap (λ (at : ℕ). part deal at 32) (sym (add-zero place))
      ∙ sym (part_part deal place 64 0 32 (omega arith) h)
      ∙ ap (λ (at : ℕ). part (part deal at 64) 0 32) p
