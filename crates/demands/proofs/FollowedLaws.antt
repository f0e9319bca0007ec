-- One booked segment through the history: a booking answered 0 is booked from then on, at its answered place or where
-- collections moved it, until its house cancels it with 0; and nothing else is booked.
use Rattle.std.specs.Prelude.{◌≡◌, refl, true, not, ◌⊎◌, ℕ, zero, suc, List, [], ◌∷◌}
use Rattle.std.proofs.Common.{sym, ap, ◌∙◌, true≢false, inl, inr, ⊎_elim}
use Rattle.std.proofs.lemmas.Bool.{not-true}
use Rattle.rules.specs.RefusalLaws.{not_passed}
use Rattle.rules.specs.Refusals.{unless_refused}
use Rattle.room.specs.declared.Booked.{Booked}
use Rattle.demands.specs.History.{Answered, booking, cancelling, collecting, BookedSegment, booked_with, Among}
use Rattle.demands.specs.History.{is_at, filter, moved_one, moved, after_answer, booked_from}
use Rattle.demands.specs.History.{moved_by, CancelsIt, followed, NeverCancelled}
use Rattle.demands.proofs.HistoryAmongLaws.{filter_among, among_filter}
use Rattle.demands.proofs.HistoryMovedLaws.{among_moved, moved_among}

-- an answer is that of a booking with 0, which is a booked segment's; or of a collection with 0
abbrev pub Books : BookedSegment → Answered → Type 0
Books b (booking house segment answer) = (answer.code ≡ 0) × (b ≡ booked_with house segment answer)
Books b (cancelling house place code) = ⊥
Books b (collecting code) = ⊥

abbrev pub CollectsAll : Answered → Type 0
CollectsAll (booking house segment answer) = ⊥
CollectsAll (cancelling house place code) = ⊥
CollectsAll (collecting code) = code ≡ 0

-- no answer of a history is that of a collection with 0
abbrev pub NoneCollects : List Answered → Type 0
NoneCollects [] = Unit {0}
NoneCollects (answered ∷ later) = (CollectsAll answered → ⊥) × NoneCollects later

-- what is booked after an answer came by it: it was booked before, or is that booking's, or was moved by that
-- collection
abbrev pub CameBy : ℕ → List BookedSegment → BookedSegment → Answered → Type 0
CameBy d bookings b answered =
    Among b bookings
    ⊎ (Books b answered
    ⊎ (CollectsAll answered × ((was : BookedSegment) × Among was bookings × (b ≡ moved_one d bookings was))))

-- a booking answered 0 is booked from then on, at the offset and the place of its answer
pub booked_then_lem : (d house : ℕ) (segment : List ℕ) (answer : Booked) (bookings : List BookedSegment)
    → answer.code ≡ 0
    → Among (booked_with house segment answer) (after_answer d (booking house segment answer) bookings)
booked_then_lem d house segment answer bookings e = rw e (inl refl)

-- what holds of the booked segments after an answer: what held of those before, or with 0 of what 0 leaves
by_code : (P : List BookedSegment → Type 0) (code : ℕ) (before done : List BookedSegment) → P before
    → (code ≡ 0 → P done) → P (unless_refused code (λ (c : ℕ). before) done)
by_code P zero before done p f = f refl
by_code P (suc code) before done p f = p

-- what is booked stays so through an answer that does not cancel it, where it was or where the answer moves it, ..
pub stays_booked : (d : ℕ) (b : BookedSegment) (answered : Answered) (bookings : List BookedSegment)
    → (CancelsIt b answered → ⊥) → Among b bookings
    → Among (moved_by d answered bookings b) (after_answer d answered bookings)
stays_booked d b (booking house segment answer) bookings n among =
    by_code (Among b) answer.code bookings (booked_with house segment answer ∷ bookings) among (λ e. inr among)
stays_booked d b (cancelling house place code) bookings n among =
    by_code (Among b) code bookings (filter (λ c. not (is_at house place c)) bookings) among
    (λ e.
    among_filter (λ c. not (is_at house place c)) b bookings among
    (ap not (not_passed (is_at house place b) (λ here. n (e, here)))))
stays_booked d b (collecting zero) bookings n among = among_moved d bookings b among
stays_booked d b (collecting (suc code)) bookings n among = among

-- .. and so through any history
pub followed_booked : (d : ℕ) (history : List Answered) (b : BookedSegment) (bookings : List BookedSegment)
    → NeverCancelled d bookings b history → Among b bookings
    → Among (followed d bookings b history) (booked_from d bookings history)
unfolding followed booked_from
followed_booked d [] b bookings n among = among
followed_booked d (answered ∷ later) b bookings n among =
    followed_booked d later (moved_by d answered bookings b) (after_answer d answered bookings) n.1
    (stays_booked d b answered bookings n.0 among)

-- it is the same house's and the same segment, ..
moved_same : (d : ℕ) (answered : Answered) (bookings : List BookedSegment) (b : BookedSegment)
    → ((moved_by d answered bookings b).house ≡ b.house) × ((moved_by d answered bookings b).segment ≡ b.segment)
moved_same d (booking house segment answer) bookings b = (refl, refl)
moved_same d (cancelling house place code) bookings b = (refl, refl)
moved_same d (collecting zero) bookings b = (refl, refl)
moved_same d (collecting (suc code)) bookings b = (refl, refl)

pub followed_same : (d : ℕ) (history : List Answered) (b : BookedSegment) (bookings : List BookedSegment)
    → ((followed d bookings b history).house ≡ b.house) × ((followed d bookings b history).segment ≡ b.segment)
unfolding followed
followed_same d [] b bookings = (refl, refl)
followed_same d (answered ∷ later) b bookings =
    let one = moved_same d answered bookings b in
    let rest = followed_same d later (moved_by d answered bookings b) (after_answer d answered bookings) in
    (rest.0 ∙ one.0, rest.1 ∙ one.1)

-- .. and at the place and the offset where it was, if no collection is answered 0
unmoved : (d : ℕ) (answered : Answered) (bookings : List BookedSegment) (b : BookedSegment)
    → (CollectsAll answered → ⊥) → moved_by d answered bookings b ≡ b
unmoved d (booking house segment answer) bookings b n = refl
unmoved d (cancelling house place code) bookings b n = refl
unmoved d (collecting zero) bookings b n = absurd (n refl)
unmoved d (collecting (suc code)) bookings b n = refl

pub followed_unmoved : (d : ℕ) (history : List Answered) (b : BookedSegment) (bookings : List BookedSegment)
    → NoneCollects history → followed d bookings b history ≡ b
unfolding followed
followed_unmoved d [] b bookings n = refl
followed_unmoved d (answered ∷ later) b bookings n =
    followed_unmoved d later (moved_by d answered bookings b) (after_answer d answered bookings) n.1
    ∙ unmoved d answered bookings b n.0

-- a cancellation answered 0 takes away what its house has at its place
pub cancelled_gone : (d house : ℕ) (b : BookedSegment) (place : ℕ) (bookings : List BookedSegment)
    → is_at house place b ≡ true → Among b (after_answer d (cancelling house place 0) bookings) → ⊥
cancelled_gone d house b place bookings here among =
    let left = (filter_among (λ c. not (is_at house place c)) b bookings among).1 in
    true≢false (sym here ∙ not-true (is_at house place b) left)

-- and nothing comes in but by a booking answered 0
pub only_booking_adds : (d : ℕ) (b : BookedSegment) (answered : Answered) (bookings : List BookedSegment)
    → Among b (after_answer d answered bookings) → CameBy d bookings b answered
only_booking_adds d b (booking house segment answer) bookings =
    by_code (λ now. Among b now → CameBy d bookings b (booking house segment answer)) answer.code bookings
    (booked_with house segment answer ∷ bookings) inl (λ e. ⊎_elim (λ new. inr (inl (e, new))) inl)
only_booking_adds d b (cancelling house place code) bookings =
    by_code (λ now. Among b now → CameBy d bookings b (cancelling house place code)) code bookings
    (filter (λ c. not (is_at house place c)) bookings) inl
    (λ e among. inl (filter_among (λ c. not (is_at house place c)) b bookings among).0)
only_booking_adds d b (collecting code) bookings =
    by_code (λ now. Among b now → CameBy d bookings b (collecting code)) code bookings (moved d bookings) inl
    (λ e among. inr (inr (e, moved_among d bookings b among)))
