-- Two houses in one deal (document 02, request (x)): "A lent table has one byte a slot: 1 or 2 for the owner, anything
-- else for nobody; it counts only where the entry stands."
use Rattle.std.specs.Prelude.{Bool, ◌&&◌, ◌||◌, not, ℕ, List, [], ◌∷◌, length, get_or, eqb}
use Rattle.rules.specs.Refusals.{Rule, rule}
use Rattle.rules.specs.Search.{count}
use Rattle.octets.specs.Splice.{splice}
use Rattle.sizes.specs.Sizes.{lent_size_allowed, entry_count}
use Rattle.room.specs.Room.{Range, is_empty}

abbrev pub house_allowed : ℕ → Bool
house_allowed house = eqb house 1 || eqb house 2

-- one byte a slot of a deal of d bytes
abbrev pub table_sized : ℕ → List ℕ → Bool
table_sized d table = eqb (length table) (entry_count d)

-- "A house number other than 1 or 2 gets 23 before all else, a table of wrong length gets 23 right after 2"
abbrev pub house_rules : ℕ → List ℕ → ℕ → List Rule
house_rules d table house =
    rule (house_allowed house) 23
    ∷ rule (lent_size_allowed d) 2
    ∷ rule (table_sized d table) 23
    ∷ []

-- the byte of slot i, and whether it is the house's
abbrev pub owner_at : List ℕ → ℕ → ℕ
owner_at table i = get_or table i 0

abbrev pub owned : List ℕ → ℕ → ℕ → Bool
owned table house i = eqb (owner_at table i) house

-- a house holds slot i, by the bytes that the slots take up: an entry stands there, kept or not, and it is the house's
abbrev pub holds : (ℕ → Range) → List ℕ → ℕ → ℕ → Bool
holds ranges table house i = not (is_empty (ranges i)) && owned table house i

-- how many of the first slots it holds
unfoldable pub held_count : (ℕ → Range) → List ℕ → ℕ → ℕ → ℕ
held_count ranges table house slots = count (holds ranges table house) 0 slots

-- the table with another byte for slot i
unfoldable pub with_owner : List ℕ → ℕ → ℕ → List ℕ
with_owner table i owner = splice table i (owner ∷ [])
