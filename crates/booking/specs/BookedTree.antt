-- The tree beside a deal after booking (document 02, request (vii)): "an update works out anew, from the bottom up,
-- every node above the bytes written, and writes no other". For any buffer.
use Rattle.std.specs.Prelude.{Bool, ◌||◌, ℕ, List, length}
use Rattle.sizes.specs.Sizes.{area, deal_level, slot_place}
use Rattle.tree.specs.Renewed.{above, renewed}
use Rattle.lent.specs.LentDeal.{tree_deal}
use Rattle.room.specs.Decide.{Decision}
use Rattle.room.specs.Decide.{Refuse, Already, Place}
use Rattle.booking.specs.Write.{written_deal}
use Rattle.booking.specs.Booking.{decision}

-- the nodes above the n bytes of an area at an offset, and above the 64 bytes of an entry, worked out anew; which of
-- the two parts goes first does not matter (BookedTreeLaws.either_part_first)
abbrev pub renewed_for : List ℕ → List ℕ → ℕ → ℕ → ℕ → List ℕ
renewed_for bytes tree offset n place =
    let top = deal_level (length bytes) in
    renewed top bytes (renewed top bytes tree offset n) place 64

-- which nodes these are
abbrev pub above_either : ℕ → ℕ → ℕ → ℕ → ℕ → Bool
above_either offset n place h q = above offset n h q || above place 64 h q

-- the tree afterwards: where a segment is written it is brought up to date with the deal as it then is
abbrev pub tree_after : List ℕ → List ℕ → List ℕ → Decision → List ℕ
tree_after deal tree segment (Refuse code) = tree
tree_after deal tree segment (Already i) = tree
tree_after deal tree segment (Place i offset) =
    renewed_for (written_deal deal segment i offset) tree offset (area (length segment)) (slot_place (length deal) i)

unfoldable pub booked_tree : List ℕ → List ℕ → List ℕ → ℕ → List ℕ → List ℕ
booked_tree deal tree table house segment =
    tree_after deal tree segment (decision (tree_deal deal tree) table house segment)
