-- The audit of a deal's index (document 02, request (xi)): "For every slot, write one byte into a lent buffer: 0 blank,
-- 1 damaged, 2 valid but not standing, 3 standing and overlapping a standing entry in a lower slot, 4 standing but its
-- commitment is wrong, 5 kept. The lowest number that applies is written. Order 2, 11, 12 for a buffer shorter than the
-- number of slots; bytes past that number stay."
use Rattle.std.specs.Prelude.{Bool, ◌&&◌, not, ℕ, zero, suc, List, [], ◌∷◌, ◌++◌, length, leb}
use Rattle.rules.specs.Choice.{choose}
use Rattle.rules.specs.Refusals.{Rule, rule, first_refusal, unless_refused}
use Rattle.octets.specs.Splice.{splice}
use Rattle.sizes.specs.Sizes.{entry_count}
use Rattle.entries.specs.Entry.{is_kind}
use Rattle.entries.specs.declared.EntryKind.{EntryKind}
use Rattle.lent.specs.LentDeal.{lent_deal, deal_rules}
use Rattle.index.specs.Slots.{slot_at, standing, kept_at}
use Rattle.ranges.specs.Ranges.{ranges_of}
use Rattle.packing.specs.Order.{overlaps_lower}

-- slot i of a deal has an entry of a kind, and one that stands
abbrev pub is_kind_at : EntryKind → List ℕ → ℕ → Bool
is_kind_at kind deal i = is_kind kind (slot_at deal i)

abbrev pub stands_at : List ℕ → ℕ → Bool
stands_at deal i = standing (length deal) (slot_at deal i)

-- which of the states apply to slot i, by rising number: blank; damaged; valid but not standing; standing and
-- overlapping a standing entry in a lower slot; standing but its commitment is wrong; kept
abbrev pub applying : List ℕ → ℕ → List Bool
applying deal i =
    is_kind_at EntryKind.Blank deal i
    ∷ is_kind_at EntryKind.Damaged deal i
    ∷ (is_kind_at EntryKind.Valid deal i && not (stands_at deal i))
    ∷ (stands_at deal i && overlaps_lower (ranges_of deal) i)
    ∷ (stands_at deal i && not (kept_at (lent_deal deal) i))
    ∷ kept_at (lent_deal deal) i
    ∷ []

-- the lowest number that applies; one always does (SlotStateLaws.some_state)
abbrev pub lowest_applying : List Bool → ℕ
lowest_applying [] = 0
lowest_applying (applies ∷ later) = choose applies 0 (suc (lowest_applying later))

unfoldable pub slot_state : List ℕ → ℕ → ℕ
slot_state deal i = lowest_applying (applying deal i)

-- the states of the first n slots
unfoldable pub slot_states : List ℕ → ℕ → List ℕ
slot_states deal zero = []
slot_states deal (suc n) = slot_states deal n ++ (slot_state deal n ∷ [])

-- 2, 11, 12
abbrev pub audit_rules : List ℕ → List ℕ → List Rule
audit_rules deal states =
    deal_rules (lent_deal deal) ++ (rule (leb (entry_count (length deal)) (length states)) 12 ∷ [])

unfoldable pub audit_code : List ℕ → List ℕ → ℕ
audit_code deal states = first_refusal (audit_rules deal states)

-- the lent buffer afterwards: a byte for each slot, and all after them as it was
unfoldable pub audited_states : List ℕ → List ℕ → List ℕ
audited_states deal states =
    unless_refused (audit_code deal states) (λ (code : ℕ). states)
    (splice states 0 (slot_states deal (entry_count (length deal))))
