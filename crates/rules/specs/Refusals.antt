-- Refusals in the order of document 01, "Codes and their order": a list of rules, read from the top.
use Rattle.std.specs.Prelude.{Bool, true, false, ℕ, zero, suc, List, [], ◌∷◌}

-- a test, and the code that is given where it is not passed
pub record Rule : Type 0 where
  pub passed : Bool
  pub code : ℕ

abbrev pub rule : Bool → ℕ → Rule
rule passed code = record { passed = passed; code = code }

-- the code of this rule, or of the first that fails among the later ones
abbrev pub first_of : Bool → ℕ → ℕ → ℕ
first_of true code later = later
first_of false code later = code

-- the code of the first rule that fails, and 0 where all are passed
abbrev pub first_refusal : List Rule → ℕ
first_refusal [] = 0
first_refusal (r ∷ rs) = first_of r.passed r.code (first_refusal rs)

-- the answer for a code: what is done with code 0, a refusal with any other
abbrev pub unless_refused : {A : Type 0} → ℕ → (ℕ → A) → A → A
unless_refused zero refused done = done
unless_refused (suc code) refused done = refused (suc code)
