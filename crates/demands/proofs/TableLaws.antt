-- Codes 21 and 4 to 6 of the check, for a commitment of 32 bytes, an allowed deal size and a record in form: where the
-- check answers them, and where it does not.
use Rattle.std.specs.Prelude.{◌≡◌, refl, Bool, true, false, not, ◌&&◌, ◌||◌, ◌≢◌, ℕ, List, [], ◌∷◌, length, eqb}
use Rattle.std.proofs.Common.{sym, ◌∙◌, arith, eq-eqb, ne_eqb}
use Rattle.rules.specs.Refusals.{Rule, first_of, first_refusal}
use Rattle.sizes.specs.Sizes.{deal_size_allowed, segment_size_allowed, offset_allowed, place_allowed}
use Rattle.record.specs.Form.{Fields, parsed, parse}
use Rattle.record.specs.Check.{deal_terms, judgement, check_of}

or_right : (a b : Bool) → b ≡ true → (a || b) ≡ true
or_right true b e = refl
or_right false b e = e

-- whether a rule with this code fails; for code 0 the list's end counts
abbrev fails : ℕ → List Rule → Bool
fails code [] = eqb code 0
fails code (r ∷ rs) = (eqb r.code code && not r.passed) || fails code rs

-- only the code of a rule that fails is answered
answered_fails : (code : ℕ) (rs : List Rule) → first_refusal rs ≡ code → fails code rs ≡ true
answered_fails code [] e = eq-eqb code 0 (sym e)
answered_fails code (r ∷ rs) e = by_test r.passed (answered_fails code rs) e
  where
    by_test : (t : Bool) → (first_refusal rs ≡ code → fails code rs ≡ true)
        → first_of t r.code (first_refusal rs) ≡ code
        → ((eqb r.code code && not t) || fails code rs) ≡ true
    by_test true later f = or_right (eqb r.code code && false) (fails code rs) (later f)
    by_test false later f = rw (eq-eqb r.code code f)

module _ (d : ℕ) (allowed : deal_size_allowed d ≡ true) (commitment : List ℕ) (number : ℕ) (r : List ℕ) (x : Fields)
    (l : length commitment ≡ 32) (p : parse r ≡ parsed x) where
  abbrev answer : ℕ
  answer = check_of (deal_terms commitment d number) r

  abbrev rules : List Rule
  rules = judgement (deal_terms commitment d number) (parsed x)

  -- the check comes to its judgement over the fields
  judged : answer ≡ first_refusal rules
  unfolding check_of
  judged = rw (eq-eqb (length commitment) 32 l, allowed, p)

  -- a record that names another deal number than the caller's
  pub answers_21 : x.number ≢ number → answer ≡ 21
  answers_21 n = judged ∙ rw (ne_eqb x.number number n)

  -- a record that names the caller's
  module _ (n : x.number ≡ number) where
    pub answers_4 : segment_size_allowed d x.size ≡ false → answer ≡ 4
    answers_4 s = judged ∙ rw (eq-eqb x.number number n, s)

    module _ (s : segment_size_allowed d x.size ≡ true) where
      pub answers_5 : offset_allowed d x.offset x.size ≡ false → answer ≡ 5
      answers_5 o = judged ∙ rw (eq-eqb x.number number n, s, o)

      pub answers_6 : offset_allowed d x.offset x.size ≡ true → place_allowed d x.place ≡ false → answer ≡ 6
      answers_6 o e = judged ∙ rw (eq-eqb x.number number n, s, o, e)

  other : (code : ℕ) → fails code rules ≡ false → answer ≡ code → ⊥
  other code a e =
      let f = answered_fails code rules (sym judged ∙ e) in
      let z : ◌≡◌ {A = ℕ} 0 1 = cc in
      omega arith

  pub never_4 : segment_size_allowed d x.size ≡ true → answer ≡ 4 → ⊥
  never_4 s = other 4 (rw s)

  pub never_5 : offset_allowed d x.offset x.size ≡ true → answer ≡ 5 → ⊥
  never_5 o = other 5 (rw o)

  pub never_6 : place_allowed d x.place ≡ true → answer ≡ 6 → ⊥
  never_6 q = other 6 (rw q)
