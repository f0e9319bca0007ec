-- What standing and kept entries are, and what an all-zero slot is not.
use Rattle.std.specs.Prelude.{◌≡◌, refl, Bool, false, ◌&&◌, ℕ, zero, suc, ◌+◌, ◌^◌, ◌<◌, List, ◌++◌, length, get_or, replicate, eqb}
use Rattle.std.proofs.Math.Path.{sym, ap}
use Rattle.std.proofs.Common.{ap₂, ◌∙◌, arith}
use Rattle.std.proofs.Math.Bool.{true}
use Rattle.rules.specs.Choice.{choose}
use Rattle.rules.specs.RefusalLaws.{and_left, and_right}
use Rattle.octets.specs.Equality.{same_bytes, all_zero}
use Rattle.octets.specs.EqualityLaws.{same_true, same_of}
use Rattle.node.specs.Node.{node_hash_clear}
use Rattle.merkle.specs.NodeSource.{NodeSource, IsTree}
use Rattle.stray.specs.StrayBits.{clear_node}
use Rattle.stray.specs.StrayBitsLaws.{clear_node_lem}
use Rattle.sizes.specs.Sizes.{segment_size_allowed, offset_allowed, deal_level, segment_level, segment_path_levels, segment_position}
use Rattle.sizes.specs.SizesLaws.{DealSize, segment_size, segment_place}
use Rattle.entries.specs.Entry.{entry_of, commitment_in, offset_in, size_in, checksum_right, kind_of, kind_number, is_kind}
use Rattle.entries.specs.EntryLaws.{made_right, commitment_back, offset_back, size_back}
use Rattle.entries.specs.KindLaws.{zero_size}
use Rattle.entries.specs.declared.EntryKind.{EntryKind}
use Rattle.index.specs.Slots.{standing, node_over, kept, free, holds, row_of, kept_row, row_offset, Row}

and_false : (b : Bool) → (b && false) ≡ false
and_false true = refl
and_false false = refl

-- valid and in bounds, where all zeros are out of bounds: the checksum alone decides on valid
valid_bounds : (zeros right bounds : Bool) → (zeros ≡ true → bounds ≡ false)
    → let kind = choose zeros EntryKind.Blank (choose right EntryKind.Valid EntryKind.Damaged) in
    (eqb (kind_number kind) 2 && bounds) ≡ (right && bounds)
valid_bounds true right bounds h = rw (h refl) (sym (and_false right))
valid_bounds false true bounds h = refl
valid_bounds false false bounds h = refl

-- standing asks for the checksum alone: an all-zero entry has the size 0, which is never allowed
module _ (d : ℕ) (entry : List ℕ) where
  abbrev in_bounds : Bool
  in_bounds = segment_size_allowed d (size_in entry) && offset_allowed d (offset_in entry) (size_in entry)

  zero_bounds : all_zero entry ≡ true → in_bounds ≡ false
  unfolding segment_size_allowed
  zero_bounds z = rw (zero_size entry z)

  pub standing_is :
      standing d entry
      ≡ (checksum_right entry
      && (segment_size_allowed d (size_in entry) && offset_allowed d (offset_in entry) (size_in entry)))
  unfolding standing is_kind kind_of
  standing_is = valid_bounds (all_zero entry) (checksum_right entry) in_bounds zero_bounds

-- standing implies valid and in bounds
pub record Stands (d : ℕ) (entry : List ℕ) : Type 0 where
  pub right : checksum_right entry ≡ true
  pub size_allowed : segment_size_allowed d (size_in entry) ≡ true
  pub offset_allowed_lem : offset_allowed d (offset_in entry) (size_in entry) ≡ true

pub stands : (d : ℕ) (entry : List ℕ) → standing d entry ≡ true → Stands d entry
stands d entry t =
    let e = sym (standing_is d entry) ∙ t in
    let size = segment_size_allowed d (size_in entry) in
    let offset = offset_allowed d (offset_in entry) (size_in entry) in
    let q = and_right (checksum_right entry) (size && offset) e in
    record {
      right = and_left (checksum_right entry) (size && offset) e;
      size_allowed = and_left size offset q;
      offset_allowed_lem = and_right size offset q;
    }

pub record Keeps (nodes : NodeSource) (d : ℕ) (entry : List ℕ) : Type 0 where
  pub is_standing : Stands d entry
  pub node_is : node_over nodes entry ≡ commitment_in entry

pub keeps : (nodes : NodeSource) (d : ℕ) (entry : List ℕ) → kept nodes d entry ≡ true → Keeps nodes d entry
unfolding kept
keeps nodes d entry e =
    let named = same_bytes (node_over nodes entry) (commitment_in entry) in
    record {
      is_standing = stands d entry (and_left (standing d entry) named e);
      node_is = same_true (node_over nodes entry) (commitment_in entry) (and_right (standing d entry) named e);
    }

-- a kept commitment is a node of the deal's tree above the lowest level, and so has no stray bits
module _ {nodes : NodeSource} {run : List ℕ} where
  above_lowest : {top : ℕ} → IsTree nodes run top → (n level q : ℕ) → level + n ≡ top → q < 2 ^ n → 0 < level
      → get_or (nodes level q) 31 0 < 64
  above_lowest t n zero q e h k = absurd (omega arith)
  above_lowest t n (suc level) q e h k = rw (t.split n level q e h) (node_hash_clear (nodes level _ ++ nodes level _))

  pub kept_clear : (d : ℕ) (entry : List ℕ) → DealSize d → IsTree nodes run (deal_level d) → kept nodes d entry ≡ true
      → clear_node (commitment_in entry) ≡ true
  kept_clear d entry t tree e =
      let k = keeps nodes d entry e in
      let z = segment_size d (size_in entry) t k.is_standing.size_allowed in
      let p = segment_place d (offset_in entry) (size_in entry) t z k.is_standing.offset_allowed_lem in
      let level = segment_level (size_in entry) in
      let up : level + segment_path_levels d (size_in entry) ≡ deal_level d = omega (arith, z.below_deal) in
      let clear = above_lowest tree _ level _ up p.position_in (omega (arith, z.level_low)) in
      sym (ap clear_node k.node_is) ∙ clear_node_lem (node_over nodes entry) clear

-- an entry made from an allowed size and offset stands, and is kept where the node is its commitment
module _ (d : ℕ) (commitment : List ℕ) (offset size : ℕ) (l : length commitment ≡ 32)
    (ho : offset < 256 ^ 8) (hs : size < 256 ^ 8) where
  made_stands : segment_size_allowed d size ≡ true → offset_allowed d offset size ≡ true
      → standing d (entry_of commitment offset size) ≡ true
  made_stands a b =
      rw (
        standing_is d (entry_of commitment offset size),
        made_right commitment offset size l,
        offset_back commitment offset size l ho,
        size_back commitment offset size l hs,
        a,
        b,
      )

  pub made_kept : (nodes : NodeSource) → segment_size_allowed d size ≡ true → offset_allowed d offset size ≡ true
      → nodes (segment_level size) (segment_position offset size) ≡ commitment
      → kept nodes d (entry_of commitment offset size) ≡ true
  unfolding kept
  made_kept nodes a b n =
      rw (
        made_stands a b,
        commitment_back commitment offset size l,
        offset_back commitment offset size l ho,
        size_back commitment offset size l hs,
        same_of (nodes (segment_level size) (segment_position offset size)) commitment n,
      )

  -- its row is what it was made from
  pub made_row : segment_size_allowed d size ≡ true → offset_allowed d offset size ≡ true
      → row_of d (entry_of commitment offset size) ≡ holds commitment offset size
  unfolding row_of
  made_row a b =
      rw (
        made_stands a b,
        commitment_back commitment offset size l,
        offset_back commitment offset size l ho,
        size_back commitment offset size l hs,
      )

-- an all-zero slot holds no standing entry: it is blank
pub zero_free : (d : ℕ) → standing d (replicate 64 0) ≡ false
unfolding standing is_kind kind_of all_zero
zero_free d = refl

-- a row by the test that decides on it
module _ (entry : List ℕ) where
  abbrev row_by : Bool → Row
  row_by t = choose t (holds (commitment_in entry) (offset_in entry) (size_in entry)) free

  row_test_lem : (t : Bool) → (row_by t).stands ≡ t
  row_test_lem true = refl
  row_test_lem false = refl

  row_offset_by : (t : Bool) → (row_by t).offset ≡ row_offset (row_by t)
  row_offset_by true = refl
  row_offset_by false = refl

-- the offset of a row, which is 0 where nothing stands
pub row_offset_lem : (d : ℕ) (entry : List ℕ) → (row_of d entry).offset ≡ row_offset (row_of d entry)
unfolding row_of
row_offset_lem d entry = row_offset_by entry (standing d entry)

-- an answer that stands: what it says of the entry that it was read from, and its bounds
pub record StandsAs (d : ℕ) (entry : List ℕ) (answer : Row) : Type 0 where
  pub is_standing : standing d entry ≡ true
  pub commitment_is : answer.commitment ≡ commitment_in entry
  pub offset_is : answer.offset ≡ offset_in entry
  pub size_is : answer.size ≡ size_in entry
  pub size_allowed : segment_size_allowed d answer.size ≡ true
  pub offset_allowed_lem : offset_allowed d answer.offset answer.size ≡ true

module _ (d : ℕ) (entry : List ℕ) (answer : Row) where
  stands_as : standing d entry ≡ true → answer ≡ row_by entry true → StandsAs d entry answer
  stands_as t e =
      let s = stands d entry t in
      let o : answer.offset ≡ offset_in entry = ap (λ (a : Row). a.offset) e in
      let z : answer.size ≡ size_in entry = ap (λ (a : Row). a.size) e in
      record {
        is_standing = t;
        commitment_is = ap (λ (a : Row). a.commitment) e;
        offset_is = o;
        size_is = z;
        size_allowed = ap (segment_size_allowed d) z ∙ s.size_allowed;
        offset_allowed_lem = ap₂ (offset_allowed d) o z ∙ s.offset_allowed_lem;
      }

  -- an answer by a test stands exactly if the test is passed
  by_test : (t : Bool) → answer ≡ row_by entry t → answer.stands ≡ t
  by_test t e = ap (λ (a : Row). a.stands) e ∙ row_test_lem entry t

  pub answer_stands : answer ≡ row_of d entry → answer.stands ≡ true → StandsAs d entry answer
  unfolding row_of
  answer_stands e h =
      let t : standing d entry ≡ true = sym (by_test (standing d entry) e) ∙ h in
      stands_as t (e ∙ ap (row_by entry) t)

  pub answer_free : answer ≡ row_of d entry → answer.stands ≡ false → standing d entry ≡ false
  unfolding row_of
  answer_free e h = sym (by_test (standing d entry) e) ∙ h

-- the same for an answer about a kept entry
pub record KeptAs (nodes : NodeSource) (d : ℕ) (entry : List ℕ) (answer : Row) : Type 0 where
  pub is_kept_lem : kept nodes d entry ≡ true
  pub as_standing : StandsAs d entry answer

module _ (nodes : NodeSource) (d : ℕ) (entry : List ℕ) (answer : Row) where
  pub answer_kept : answer ≡ kept_row nodes d entry → answer.stands ≡ true → KeptAs nodes d entry answer
  unfolding kept_row kept
  answer_kept e h =
      let t : kept nodes d entry ≡ true = sym (by_test d entry answer (kept nodes d entry) e) ∙ h in
      let s = and_left (standing d entry) (same_bytes (node_over nodes entry) (commitment_in entry)) t in
      record { is_kept_lem = t; as_standing = stands_as d entry answer s (e ∙ ap (row_by entry) t) }

  pub answer_not_kept : answer ≡ kept_row nodes d entry → answer.stands ≡ false → kept nodes d entry ≡ false
  unfolding kept_row
  answer_not_kept e h = sym (by_test d entry answer (kept nodes d entry) e) ∙ h
