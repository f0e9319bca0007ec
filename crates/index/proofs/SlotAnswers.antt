-- The rows of a slot by the tests on the way: one law for each answer of the code.
use mathlib.Core.Path.{◌≡◌, ◌∙◌}
use mathlib.Core.Bool.{Bool, true, false}
use mathlib.Core.List.{List}
use Prim.Native.Nat.{ℕ}
use Rattle.octets.specs.Equality.{same_bytes}
use Rattle.merkle.specs.NodeSource.{NodeSource}
use Rattle.sizes.specs.Sizes.{segment_size_allowed, offset_allowed, segment_level, segment_position}
use Rattle.entries.specs.Entry.{commitment_in, offset_in, size_in, is_kind}
use Rattle.entries.specs.declared.EntryKind.{EntryKind}
use Rattle.index.specs.Slots.{standing, kept, free, holds, row_of, kept_row, Row}
use Rattle.index.specs.SlotsLaws.{answer_stands, answer_free}

-- an entry as it is read
module _ (d : ℕ) (entry : List ℕ) where
  pub row_not_valid : is_kind EntryKind.Valid entry ≡ false → free ≡ row_of d entry
  unfolding row_of standing
  row_not_valid e = rw e

  module _ {size : ℕ} (e : is_kind EntryKind.Valid entry ≡ true) (z : size ≡ size_in entry) where
    pub row_size_refused : segment_size_allowed d size ≡ false → free ≡ row_of d entry
    unfolding row_of standing
    row_size_refused s = rw (e, ← z, s)

    module _ {offset : ℕ} (s : segment_size_allowed d size ≡ true) (o : offset ≡ offset_in entry) where
      pub row_offset_refused : offset_allowed d offset size ≡ false → free ≡ row_of d entry
      unfolding row_of standing
      row_offset_refused p = rw (e, ← z, ← o, s, p)

      pub row_stands : {commitment : List ℕ} → offset_allowed d offset size ≡ true → commitment ≡ commitment_in entry
          → holds commitment offset size ≡ row_of d entry
      unfolding row_of standing
      row_stands p c = rw (e, ← z, ← o, ← c, s, p)

-- whether the node over an answer's segment is the commitment that it names
abbrev pub node_test : NodeSource → Row → Bool
node_test nodes answer =
    same_bytes
    (nodes (segment_level answer.size) (segment_position answer.offset answer.size))
    answer.commitment

module _ (nodes : NodeSource) (d : ℕ) (entry : List ℕ) {answer : Row} (e : answer ≡ row_of d entry) where
  -- an entry that does not stand is not kept
  free_answer : answer.stands ≡ false → answer ≡ free
  unfolding row_of
  free_answer h = e ∙ rw (answer_free d entry answer e h)

  pub free_not_kept : answer.stands ≡ false → kept nodes d entry ≡ false
  unfolding kept
  free_not_kept h = rw (answer_free d entry answer e h)

  pub kept_free : answer.stands ≡ false → answer ≡ kept_row nodes d entry
  unfolding kept_row
  kept_free h = free_answer h ∙ rw (free_not_kept h)

  -- an entry that stands is kept by the node over its segment
  module _ (h : answer.stands ≡ true) where
    pub kept_test : kept nodes d entry ≡ node_test nodes answer
    unfolding kept
    kept_test =
        let s = answer_stands d entry answer e h in
        rw (s.is_standing, ← s.size_is, ← s.offset_is, ← s.commitment_is)

    module _ {has : Bool} (f : has ≡ node_test nodes answer) where
      pub kept_other : has ≡ false → free ≡ kept_row nodes d entry
      unfolding kept_row
      kept_other t = rw (kept_test, ← f, t)

      pub kept_here : has ≡ true → answer ≡ kept_row nodes d entry
      unfolding kept_row row_of
      kept_here t = e ∙ rw ((answer_stands d entry answer e h).is_standing, kept_test, ← f, t)
