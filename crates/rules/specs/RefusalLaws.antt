-- The first refusal: 0 exactly where every rule is passed.
use Rattle.std.specs.Prelude.{◌≡◌, refl, Bool, true, false, ◌&&◌, ℕ, ◌<◌, List, [], ◌∷◌, ◌++◌}
use Rattle.std.proofs.Common.{arith}
use Rattle.rules.specs.Refusals.{Rule, first_of, first_refusal}

-- every rule of a list is passed
abbrev pub AllPassed : List Rule → Type 0
AllPassed [] = Unit {0}
AllPassed (r ∷ rs) = (r.passed ≡ true) × AllPassed rs

-- no rule of a list has the code 0
abbrev pub Codes : List Rule → Type 0
Codes [] = Unit {0}
Codes (r ∷ rs) = (0 < r.code) × Codes rs

-- a rule at the head of a list from which nothing is refused
pub first_passed : (passed : Bool) (code later : ℕ) → 0 < code → first_of passed code later ≡ 0
    → (passed ≡ true) × (later ≡ 0)
first_passed true code later h e = (refl, e)
first_passed false code later h e = absurd (omega arith)

pub none_refused : (rs : List Rule) → Codes rs → first_refusal rs ≡ 0 → AllPassed rs
none_refused [] c e = tt
none_refused (r ∷ rs) c e =
    let p = first_passed r.passed r.code (first_refusal rs) c.0 e in
    (p.0, none_refused rs c.1 p.1)

pub all_passed : (rs : List Rule) → AllPassed rs → first_refusal rs ≡ 0
all_passed [] p = refl
all_passed (r ∷ rs) p = rw p.0 (all_passed rs p.1)

-- a list in two parts: the second is reached where nothing in the first fails
pub refused_append : (rs ss : List Rule) → first_refusal rs ≡ 0 → Codes rs → first_refusal (rs ++ ss) ≡ first_refusal ss
refused_append [] ss e c = refl
refused_append (r ∷ rs) ss e c =
    let p = first_passed r.passed r.code (first_refusal rs) c.0 e in
    rw p.0 (refused_append rs ss p.1 c.1)

-- the two parts of a test that both have to be passed
pub and_left : (a b : Bool) → (a && b) ≡ true → a ≡ true
and_left true b e = refl
and_left false b e = e

pub and_right : (a b : Bool) → (a && b) ≡ true → b ≡ true
and_right true b e = e
and_right false b e = cc

pub and_both : (a b : Bool) → a ≡ true → b ≡ true → (a && b) ≡ true
and_both a b e f = rw (e, f)

-- the second part of a test matters only where the first is passed
pub and_same : (a b c : Bool) → (a ≡ true → b ≡ c) → (a && b) ≡ (a && c)
and_same true b c f = f refl
and_same false b c f = refl

-- a test that cannot be passed fails
pub not_passed : (b : Bool) → (b ≡ true → ⊥) → b ≡ false
not_passed true h = absurd (h refl)
not_passed false h = refl
