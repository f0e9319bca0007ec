-- What is decided for a house, from the bytes that the slots take up and the table of owners: booking and cancelling
-- read these of a deal, playback of a ledger's rows (document 02, requests (x) and (xii)).
use Rattle.std.specs.Prelude.{Bool, ◌&&◌, ℕ, List, [], ◌∷◌}
use Rattle.rules.specs.Refusals.{Rule, rule}
use Rattle.rules.specs.Search.{lowest}
use Rattle.sizes.specs.Sizes.{entry_count, place_allowed}
use Rattle.index.specs.Written.{slot_of}
use Rattle.room.specs.Room.{Range}
use Rattle.room.specs.Decide.{decide}
use Rattle.room.specs.Decide.{Decision}
use Rattle.houses.specs.Houses.{owned, held_count}

-- a booking of n bytes in a deal of d bytes, by which slots keep the segment: "Code 15 .. see[s] only one's own
-- entries", and the quota is by the slots that the house holds
abbrev pub decide_for : ℕ → (ℕ → Range) → List ℕ → ℕ → ℕ → (ℕ → Bool) → Decision
decide_for d ranges table house n keeps =
    decide d ranges (held_count ranges table house (entry_count d)) n
    (lowest (λ i. owned table house i && keeps i) 0 (entry_count d))

-- a cancellation at a place, by whether an entry stands there: 6 off the index; it "see[s] only one's own entries, any
-- other place of the index gets 16"
abbrev pub place_rules : ℕ → List ℕ → ℕ → ℕ → Bool → List Rule
place_rules d table house place stands =
    rule (place_allowed d place) 6
    ∷ rule (stands && owned table house (slot_of d place)) 16
    ∷ []
