-- Those of a list of booked segments that pass a test: which they are, and what a number that each of them has sums up
-- to over these.
use Rattle.std.specs.Prelude.{◌≡◌, Bool}
use Rattle.std.proofs.Math.Path.{refl, ap, ap₂}
use Rattle.std.proofs.Common.{sym, ◌∙◌, true≢false}
use Rattle.std.proofs.Math.Bool.{true, false, not}
use Rattle.std.proofs.Math.Logic.{inl, inr, ⊎_elim}
use Prim.Native.Nat.{ℕ, ◌+◌}
use native.Mathlib.Omega.{arith}
use mathlib.Core.List.{List, [], ◌∷◌}
use Rattle.rules.specs.Choice.{choose}
use Rattle.demands.specs.History.{BookedSegment, Among, sum_of, filter}

module _ (test : BookedSegment → Bool) where
  -- those that pass are among all of them ..
  pub filter_among : (b : BookedSegment) (bookings : List BookedSegment) → Among b (filter test bookings)
      → Among b bookings × (test b ≡ true)
  unfolding filter
  filter_among b [] among = absurd among
  filter_among b (one ∷ others) among =
      go (test one) refl (λ among. let p = filter_among b others among in (inr p.0, p.1)) among
    where
      go : (passes : Bool) → test one ≡ passes
          → (Among b (filter test others) → Among b (one ∷ others) × (test b ≡ true))
          → Among b (choose passes (one ∷ filter test others) (filter test others))
          → Among b (one ∷ others) × (test b ≡ true)
      go true e later = ⊎_elim (λ same. (inl same, ap test same ∙ e)) later
      go false e later = later

  -- .. and all that pass are among those
  pub among_filter : (b : BookedSegment) (bookings : List BookedSegment) → Among b bookings → test b ≡ true
      → Among b (filter test bookings)
  unfolding filter
  among_filter b [] among t = absurd among
  among_filter b (one ∷ others) among t = go (test one) refl (λ later. among_filter b others later t)
    where
      go : (passes : Bool) → test one ≡ passes → (Among b others → Among b (filter test others))
          → Among b (choose passes (one ∷ filter test others) (filter test others))
      go true e rest = ⊎_elim (λ same. inl same) (λ later. inr (rest later)) among
      go false e rest = ⊎_elim (λ same. absurd (true≢false (sym t ∙ ap test same ∙ e))) rest among

  -- a number that those which do not pass have not: its sum over all of them is that over those which do
  pub sum_filter : (number all : BookedSegment → ℕ) (bookings : List BookedSegment)
      → ((b : BookedSegment) → Among b bookings → test b ≡ false → all b ≡ 0)
      → ((b : BookedSegment) → Among b bookings → test b ≡ true → number b ≡ all b)
      → sum_of number (filter test bookings) ≡ sum_of all bookings
  unfolding sum_of filter
  sum_filter number all [] out taken = refl
  sum_filter number all (b ∷ others) out taken =
      go (test b) refl (sum_filter number all others (λ c m. out c (inr m)) (λ c m. taken c (inr m)))
    where
      go : (passes : Bool) → test b ≡ passes → sum_of number (filter test others) ≡ sum_of all others
          → sum_of number (choose passes (b ∷ filter test others) (filter test others)) ≡ all b + sum_of all others
      go true e rest = ap₂ ◌+◌ (taken b (inl refl) e) rest
      go false e rest = omega (arith, rest, out b (inl refl) e)

  -- a sum over those that pass and over those that do not is the sum over all
  pub sum_of_both : (number : BookedSegment → ℕ) (bookings : List BookedSegment)
      → sum_of number (filter (λ b. not (test b)) bookings) + sum_of number (filter test bookings)
      ≡ sum_of number bookings
  unfolding sum_of filter
  sum_of_both number [] = refl
  sum_of_both number (b ∷ others) = go (test b) (sum_of_both number others)
    where
      go : (passes : Bool)
          → sum_of number (filter (λ c. not (test c)) others) + sum_of number (filter test others)
          ≡ sum_of number others
          → sum_of number
          (choose (not passes) (b ∷ filter (λ c. not (test c)) others) (filter (λ c. not (test c)) others))
          + sum_of number (choose passes (b ∷ filter test others) (filter test others))
          ≡ number b + sum_of number others
      go true e = omega arith
      go false e = omega arith
