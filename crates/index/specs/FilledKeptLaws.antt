-- Under the premise of request (vii), that the tree is filled for the deal, the test for kept is that of the deal
-- alone.
use Rattle.std.specs.Prelude.{◌≡◌, true, ℕ, length}
use Rattle.std.proofs.Math.Path.{ap}
use mathlib.Core.List.{List}
use Rattle.rules.specs.RefusalLaws.{and_same}
use Rattle.octets.specs.Equality.{same_bytes}
use Rattle.sizes.specs.Sizes.{lent_size_allowed}
use Rattle.sizes.specs.SizesLaws.{lent_size, segment_size, segment_place}
use Rattle.entries.specs.Entry.{commitment_in, offset_in, size_in}
use Rattle.merkle.specs.Tree.{node_at}
use Rattle.paths.specs.DealStarts.{segment_start}
use Rattle.paths.specs.DealStartsLaws.{segment_in}
use Rattle.tree.specs.TreeNodes.{tree_nodes, FilledFor}
use Rattle.lent.specs.FilledLentLaws.{filled_nodes}
use Rattle.index.specs.Slots.{standing, node_over, kept}
use Rattle.index.specs.SlotsLaws.{stands}

module _ (bytes tree : List ℕ) (f : FilledFor bytes tree) (lent : lent_size_allowed (length bytes) ≡ true) where
  -- a standing entry's node is one of the deal's tree
  same_node : (entry : List ℕ) → standing (length bytes) entry ≡ true
      → node_over (tree_nodes bytes tree) entry ≡ node_over (node_at bytes) entry
  same_node entry t =
      let s = stands (length bytes) entry t in
      let d = (lent_size (length bytes) lent).deal in
      let z = segment_size (length bytes) (size_in entry) d s.size_allowed in
      filled_nodes bytes tree f lent (segment_start (length bytes) (offset_in entry) (size_in entry))
      (segment_in z (segment_place (length bytes) (offset_in entry) (size_in entry) d z s.offset_allowed_lem))

  pub filled_kept : (entry : List ℕ)
      → kept (tree_nodes bytes tree) (length bytes) entry ≡ kept (node_at bytes) (length bytes) entry
  unfolding kept
  filled_kept entry =
      and_same (standing (length bytes) entry)
      (same_bytes (node_over (tree_nodes bytes tree) entry) (commitment_in entry))
      (same_bytes (node_over (node_at bytes) entry) (commitment_in entry))
      (λ t. ap (λ (node : List ℕ). same_bytes node (commitment_in entry)) (same_node entry t))
