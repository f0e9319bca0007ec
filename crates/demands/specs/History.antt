-- The history of calls (document 02, request (xiii)): the calls and what each was answered, and what these alone say is
-- booked, and where. Nothing here reads a deal or a table: the answers are all that is taken from them.
use Rattle.std.specs.Prelude.{◌≡◌, Bool, true, ◌&&◌, not, ◌⊎◌, ℕ, ◌+◌, List, [], ◌∷◌, map, length, eqb}
use Rattle.rules.specs.Choice.{choose}
use Rattle.rules.specs.Refusals.{unless_refused}
use Rattle.sizes.specs.Sizes.{area, slot_place}
use Rattle.room.specs.Room.{Range, range}
use Rattle.room.specs.declared.Booked.{Booked}
use Rattle.packing.specs.Order.{comes_first}

-- a call with its answer: the house, its segment, and code, offset and entry place; the house, the entry place and the
-- code; the code
pub data Answered : Type 0 where
  booking : ℕ → List ℕ → Booked → Answered
  cancelling : ℕ → ℕ → ℕ → Answered
  collecting : ℕ → Answered

-- its code
abbrev pub answered_code : Answered → ℕ
answered_code (booking house segment answer) = answer.code
answered_code (cancelling house place code) = code
answered_code (collecting code) = code

-- a booked segment: whose it is, its T bytes, and the offset and the entry place where it is now
pub record BookedSegment : Type 0 where
  pub house : ℕ
  pub segment : List ℕ
  pub offset : ℕ
  pub place : ℕ

-- A, and the bytes of the deal that it takes up
abbrev pub area_booked : BookedSegment → ℕ
area_booked b = area (length b.segment)

abbrev pub range_booked : BookedSegment → Range
range_booked b = range b.offset (area_booked b)

-- what a booking answered 0 books: the house's segment, at the offset and the entry place of the answer
abbrev pub booked_with : ℕ → List ℕ → Booked → BookedSegment
booked_with house segment answer =
    record { house = house; segment = segment; offset = answer.offset; place = answer.place }

-- a booked segment is one of a list of them
abbrev pub Among : BookedSegment → List BookedSegment → Type 0
Among b [] = ⊥
Among b (one ∷ others) = (b ≡ one) ⊎ Among b others

-- the sum of a number that each of them has
unfoldable pub sum_of : (BookedSegment → ℕ) → List BookedSegment → ℕ
sum_of number [] = 0
sum_of number (b ∷ others) = number b + sum_of number others

-- a booked segment is a house's, at an entry place
abbrev pub is_at : ℕ → ℕ → BookedSegment → Bool
is_at house place b = eqb b.house house && eqb b.place place

-- those of a list that pass a test
unfoldable pub filter : (BookedSegment → Bool) → List BookedSegment → List BookedSegment
filter test [] = []
filter test (b ∷ others) = choose (test b) (b ∷ filter test others) (filter test others)

-- collection (request (viii)): "by falling A, equal ones by old offset, packed from 0, entries .. from the first slot
-- in that order". The sum of a number that those have which come before b in that order ..
abbrev pub before : (BookedSegment → ℕ) → List BookedSegment → BookedSegment → ℕ
before number bookings b =
    sum_of (λ other. choose (comes_first (range_booked other) (range_booked b)) (number other) 0) bookings

-- .. so b goes to the slot of how many they are, and to the offset that their areas sum up to, ..
abbrev pub moved_one : ℕ → List BookedSegment → BookedSegment → BookedSegment
moved_one d bookings b =
    record {
      house = b.house;
      segment = b.segment;
      offset = before area_booked bookings b;
      place = slot_place d (before (λ other. 1) bookings b);
    }

-- .. in a deal of d bytes, and so do all of them
unfoldable pub moved : ℕ → List BookedSegment → List BookedSegment
moved d bookings = map (moved_one d bookings) bookings

-- what is booked after one more call: a booking answered 0 is added, a cancellation answered 0 takes away what its
-- house has at its place, a collection answered 0 moves all; any other answer changes nothing
abbrev pub after_answer : ℕ → Answered → List BookedSegment → List BookedSegment
after_answer d (booking house segment answer) bookings =
    unless_refused answer.code (λ (code : ℕ). bookings) (booked_with house segment answer ∷ bookings)
after_answer d (cancelling house place code) bookings =
    unless_refused code (λ (c : ℕ). bookings) (filter (λ b. not (is_at house place b)) bookings)
after_answer d (collecting code) bookings = unless_refused code (λ (c : ℕ). bookings) (moved d bookings)

-- and after more calls in turn
unfoldable pub booked_from : ℕ → List BookedSegment → List Answered → List BookedSegment
booked_from d bookings [] = bookings
booked_from d bookings (answered ∷ later) = booked_from d (after_answer d answered bookings) later

-- "every booking answered 0 and not cancelled since .., at its booked place or where collections moved it", by the
-- history of a deal of d bytes from its first call on
abbrev pub uncancelled : ℕ → List Answered → List BookedSegment
uncancelled d history = booked_from d [] history

-- one booked segment through the history: a collection answered 0 moves it, and it is cancelled by its house's
-- cancellation answered 0 at the place where it is by then
abbrev pub moved_by : ℕ → Answered → List BookedSegment → BookedSegment → BookedSegment
moved_by d (booking house segment answer) bookings b = b
moved_by d (cancelling house place code) bookings b = b
moved_by d (collecting code) bookings b = unless_refused code (λ (c : ℕ). b) (moved_one d bookings b)

abbrev pub CancelsIt : BookedSegment → Answered → Type 0
CancelsIt b (booking house segment answer) = ⊥
CancelsIt b (cancelling house place code) = (code ≡ 0) × (is_at house place b ≡ true)
CancelsIt b (collecting code) = ⊥

-- where it is in the end, and that it is "not cancelled since"
unfoldable pub followed : ℕ → List BookedSegment → BookedSegment → List Answered → BookedSegment
followed d bookings b [] = b
followed d bookings b (answered ∷ later) =
    followed d (after_answer d answered bookings) (moved_by d answered bookings b) later

abbrev pub NeverCancelled : ℕ → List BookedSegment → BookedSegment → List Answered → Type 0
NeverCancelled d bookings b [] = Unit {0}
NeverCancelled d bookings b (answered ∷ later) =
    (CancelsIt b answered → ⊥)
    × NeverCancelled d (after_answer d answered bookings) (moved_by d answered bookings b) later

-- "the areas booked with 0"
abbrev pub area_added : Answered → ℕ
area_added (booking house segment answer) = unless_refused answer.code (λ (code : ℕ). 0) (area (length segment))
area_added (cancelling house place code) = 0
area_added (collecting code) = 0

unfoldable pub areas_booked : List Answered → ℕ
areas_booked [] = 0
areas_booked (answered ∷ later) = area_added answered + areas_booked later

-- "those cancelled with 0": the areas of what a house had booked and not cancelled before, at the places that it
-- cancels
abbrev pub area_taken : Answered → List BookedSegment → ℕ
area_taken (booking house segment answer) bookings = 0
area_taken (cancelling house place code) bookings =
    unless_refused code (λ (c : ℕ). 0) (sum_of area_booked (filter (is_at house place) bookings))
area_taken (collecting code) bookings = 0

unfoldable pub cancelled_from : ℕ → List BookedSegment → List Answered → ℕ
cancelled_from d bookings [] = 0
cancelled_from d bookings (answered ∷ later) =
    area_taken answered bookings + cancelled_from d (after_answer d answered bookings) later

abbrev pub areas_cancelled : ℕ → List Answered → ℕ
areas_cancelled d history = cancelled_from d [] history
