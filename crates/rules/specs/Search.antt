-- The lowest number of a range that passes a test, and how many pass.
use Rattle.std.specs.Prelude.{ℕ, zero, suc, ◌+◌, Bool, true, false}
use Rattle.rules.specs.Choice.{choose}
use Rattle.std.specs.Prelude.{Option}
use Rattle.std.specs.Prelude.{Some, None}

-- the lowest of the n numbers from i that passes
abbrev pub lowest : (ℕ → Bool) → ℕ → ℕ → Option ℕ
lowest p i zero = None
lowest p i (suc n) = choose (p i) (Some i) (lowest p (suc i) n)

abbrev pub one : Bool → ℕ
one true = 1
one false = 0

-- how many of the n numbers from i pass
abbrev pub count : (ℕ → Bool) → ℕ → ℕ → ℕ
count p i zero = 0
count p i (suc n) = one (p i) + count p (suc i) n
