-- Cancelling an entry (document 02, request (viii)): "Cancelling an entry place writes 64 zero bytes there; order 2,
-- 11, 6, then 16 if no standing entry is there"; with a tree beside the deal 12, right after 11 (request (vii)); for a
-- house 23 before all else and right after 2, and it "see[s] only one's own entries, any other place of the index gets
-- 16" (request (x)).
use Rattle.std.specs.Prelude.{Bool, ◌&&◌, ℕ, List, ◌∷◌, ◌++◌, length, replicate}
use Rattle.rules.specs.Refusals.{Rule, rule, first_refusal, unless_refused}
use Rattle.octets.specs.Splice.{splice}
use Rattle.stray.specs.StrayBits.{no_stray_bits}
use Rattle.sizes.specs.Sizes.{deal_level}
use Rattle.tree.specs.Renewed.{renewed}
use Rattle.lent.specs.LentDeal.{LentDeal, tree_deal, deal_size}
use Rattle.index.specs.Slots.{entry_at, standing}
use Rattle.index.specs.Written.{slot_of}
use Rattle.houses.specs.Houses.{house_rules, owned, with_owner}
use Rattle.houses.specs.Deciding.{place_rules}

-- an entry of the house stands at a place, kept or not
abbrev pub stands_own : LentDeal → List ℕ → ℕ → ℕ → Bool
stands_own deal table house place =
    standing (deal_size deal) (entry_at deal.bytes place) && owned table house (slot_of (deal_size deal) place)

abbrev pub entry_rules : LentDeal → List ℕ → ℕ → ℕ → List Rule
entry_rules deal table house place =
    rule (no_stray_bits deal.bytes) 11
    ∷ rule deal.tree_sized 12
    ∷ place_rules (deal_size deal) table house place (standing (deal_size deal) (entry_at deal.bytes place))

abbrev pub cancel_rules : LentDeal → List ℕ → ℕ → ℕ → List Rule
cancel_rules deal table house place = house_rules (deal_size deal) table house ++ entry_rules deal table house place

unfoldable pub cancel_code : LentDeal → List ℕ → ℕ → ℕ → ℕ
cancel_code deal table house place = first_refusal (cancel_rules deal table house place)

-- 64 zero bytes at a place: no other byte changes, so the segment's bytes stay
abbrev pub without_entry : List ℕ → ℕ → List ℕ
without_entry deal place = splice deal place (replicate 64 0)

-- the deal afterwards
unfoldable pub cancelled_deal : LentDeal → List ℕ → ℕ → ℕ → List ℕ
cancelled_deal deal table house place =
    unless_refused (cancel_code deal table house place) (λ (code : ℕ). deal.bytes) (without_entry deal.bytes place)

-- the table afterwards: "cancelling clears" the slot's byte
unfoldable pub cancelled_table : LentDeal → List ℕ → ℕ → ℕ → List ℕ
cancelled_table deal table house place =
    unless_refused (cancel_code deal table house place) (λ (code : ℕ). table)
    (with_owner table (slot_of (deal_size deal) place) 0)

-- the tree afterwards, whatever it held: every node above the 64 bytes is worked out anew, and no other is written
unfoldable pub cancelled_tree : List ℕ → List ℕ → List ℕ → ℕ → ℕ → List ℕ
cancelled_tree deal tree table house place =
    unless_refused (cancel_code (tree_deal deal tree) table house place) (λ (code : ℕ). tree)
    (renewed (deal_level (length deal)) (without_entry deal place) tree place 64)
