-- Laws of the history alone: what was booked with 0 is what is booked now and what was cancelled with 0 together; a
-- history in two parts.
use Rattle.std.specs.Prelude.{◌≡◌, refl, ℕ, zero, suc, ◌+◌, List, [], ◌∷◌, ◌++◌, length}
use Rattle.std.proofs.Common.{arith}
use Rattle.rules.specs.Refusals.{unless_refused}
use Rattle.sizes.specs.Sizes.{area}
use Rattle.demands.specs.History.{Answered, booking, cancelling, collecting, BookedSegment, area_booked}
use Rattle.demands.specs.History.{booked_with, sum_of, is_at, moved, after_answer, booked_from}
use Rattle.demands.specs.History.{area_added, areas_booked, area_taken, cancelled_from}
use Rattle.demands.proofs.HistoryAmongLaws.{sum_of_both}
use Rattle.demands.proofs.HistoryMovedLaws.{sum_moved}

-- segments move with all their bytes
moved_areas : (d : ℕ) (bookings : List BookedSegment)
    → sum_of area_booked (moved d bookings) ≡ sum_of area_booked bookings
moved_areas d bookings = sum_moved d bookings area_booked

-- an answer: what is booked after it and what it takes away is what was booked and what it adds
answer_areas : (d : ℕ) (answered : Answered) (bookings : List BookedSegment)
    → sum_of area_booked (after_answer d answered bookings) + area_taken answered bookings
    ≡ sum_of area_booked bookings + area_added answered
unfolding sum_of
answer_areas d (booking house segment answer) bookings = go answer.code
  where
    go : (code : ℕ)
        → sum_of area_booked (unless_refused code (λ (c : ℕ). bookings) (booked_with house segment answer ∷ bookings))
        + 0
        ≡ sum_of area_booked bookings + unless_refused code (λ (c : ℕ). 0) (area (length segment))
    go zero = omega arith
    go (suc code) = refl
answer_areas d (cancelling house place zero) bookings =
    omega (arith, sum_of_both (is_at house place) area_booked bookings)
answer_areas d (cancelling house place (suc code)) bookings = refl
answer_areas d (collecting zero) bookings = omega (arith, moved_areas d bookings)
answer_areas d (collecting (suc code)) bookings = refl

pub booked_and_cancelled : (d : ℕ) (history : List Answered) (bookings : List BookedSegment)
    → sum_of area_booked (booked_from d bookings history) + cancelled_from d bookings history
    ≡ sum_of area_booked bookings + areas_booked history
unfolding booked_from cancelled_from areas_booked
booked_and_cancelled d [] bookings = refl
booked_and_cancelled d (answered ∷ later) bookings =
    omega
    (arith, booked_and_cancelled d later (after_answer d answered bookings), answer_areas d answered bookings)

-- what is booked after a history in two parts
pub booked_in_turn : (d : ℕ) (earlier later : List Answered) (bookings : List BookedSegment)
    → booked_from d bookings (earlier ++ later) ≡ booked_from d (booked_from d bookings earlier) later
unfolding booked_from
booked_in_turn d [] later bookings = refl
booked_in_turn d (answered ∷ earlier) later bookings =
    booked_in_turn d earlier later (after_answer d answered bookings)
