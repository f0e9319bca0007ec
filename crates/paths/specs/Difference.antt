-- The first difference of two lists of strings (document 01, "Booking, finding, building, settling": settle).
use Rattle.std.specs.Prelude.{ℕ, List, [], ◌∷◌}
use Rattle.rules.specs.Choice.{choose}
use Rattle.octets.specs.Equality.{same_bytes}

pub data Difference : Type 0 where
  same : Difference
  differ : List ℕ → List ℕ → Difference

-- the two strings at the first place where the lists differ
unfoldable pub first_difference : List (List ℕ) → List (List ℕ) → Difference
first_difference [] ws = same
first_difference (v ∷ vs) [] = same
first_difference (v ∷ vs) (w ∷ ws) = choose (same_bytes v w) (first_difference vs ws) (differ v w)
