-- Building writes exactly a record.
use Rattle.std.specs.Prelude.{◌≡◌, ℕ, ◌≤◌, List, length}
use Rattle.octets.specs.Splice.{splice}
use Rattle.lent.specs.LentDeal.{LentDeal}
use Rattle.builder.specs.Build.{build_answer, build_output}

-- given enough output, building with the deal's number at an entry place answers 0 and writes exactly the record r; the
-- rest of the output stays
abbrev pub BuildsExactly : LentDeal → ℕ → ℕ → List ℕ → Type 0
BuildsExactly deal number place r =
    (out : List ℕ) → length r ≤ length out
    → (build_answer deal number place out ≡ record { code = 0; length = length r })
    × (build_output deal number place out ≡ splice out 0 r)
