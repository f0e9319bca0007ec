-- Lists of booked segments alone: sums over them, and which are among those that a collection moved.
use Rattle.std.specs.Prelude.{◌≡◌, ℕ, ◌+◌}
use Rattle.std.proofs.Math.Path.{refl, ap}
use Rattle.std.proofs.Common.{ap₂, inl, inr, ⊎_elim}
use mathlib.Core.List.{List, [], ◌∷◌, map}
use Rattle.demands.specs.History.{BookedSegment, Among, sum_of, moved_one, moved}

-- numbers that agree for each of a list sum up alike
pub sum_agrees : (f g : BookedSegment → ℕ) (bookings : List BookedSegment)
    → ((b : BookedSegment) → Among b bookings → f b ≡ g b) → sum_of f bookings ≡ sum_of g bookings
unfolding sum_of
sum_agrees f g [] same = refl
sum_agrees f g (b ∷ others) same =
    ap₂ ◌+◌ (same b (inl refl)) (sum_agrees f g others (λ other a. same other (inr a)))

-- a list with each of its segments changed
module _ (change : BookedSegment → BookedSegment) where
  sum_changed : (number : BookedSegment → ℕ) (bookings : List BookedSegment)
      → sum_of number (map change bookings) ≡ sum_of (λ b. number (change b)) bookings
  unfolding sum_of
  sum_changed number [] = refl
  sum_changed number (b ∷ others) = ap (λ (n : ℕ). number (change b) + n) (sum_changed number others)

  among_changed : (b : BookedSegment) (bookings : List BookedSegment) → Among b bookings
      → Among (change b) (map change bookings)
  among_changed b [] a = a
  among_changed b (one ∷ others) a = ⊎_elim (λ e. inl (ap change e)) (λ r. inr (among_changed b others r)) a

  changed_among : (c : BookedSegment) (bookings : List BookedSegment) → Among c (map change bookings)
      → (b : BookedSegment) × Among b bookings × (c ≡ change b)
  changed_among c [] a = absurd a
  changed_among c (one ∷ others) a =
      ⊎_elim (λ e. (one, inl refl, e))
      (λ r. let found = changed_among c others r in (found.0, inr found.1, found.2)) a

-- those that a collection moves
module _ (d : ℕ) (bookings : List BookedSegment) where
  -- a number sums up over all of them to what it is of each where it goes
  pub sum_moved : (number : BookedSegment → ℕ)
      → sum_of number (moved d bookings) ≡ sum_of (λ b. number (moved_one d bookings b)) bookings
  unfolding moved
  sum_moved number = sum_changed (moved_one d bookings) number bookings

  -- each goes along, and none comes in
  pub among_moved : (b : BookedSegment) → Among b bookings → Among (moved_one d bookings b) (moved d bookings)
  unfolding moved
  among_moved b = among_changed (moved_one d bookings) b bookings

  pub moved_among : (c : BookedSegment) → Among c (moved d bookings)
      → (b : BookedSegment) × Among b bookings × (c ≡ moved_one d bookings b)
  unfolding moved
  moved_among c = changed_among (moved_one d bookings) c bookings
