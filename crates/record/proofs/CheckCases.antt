-- The ways through the check, one law for each answer of the code.
use mathlib.Core.Path.{◌≡◌, ◌∙◌}
use mathlib.Core.Bool.{true, false}
use Prim.Native.Nat.{ℕ}
use mathlib.Core.List.{List}
use lib.ListN.{length}
use borrow.Author.Tests.{eq-eqb, ne_eqb}
use Rattle.rules.specs.Refusals.{first_refusal}
use Rattle.sizes.specs.Sizes.{deal_size_allowed}
use Rattle.record.specs.Form.{Fields, parsed, broken, parse}
use Rattle.record.specs.Check.{deal_terms, judgement, check_of}

module _ (commitment : List ℕ) (d number : ℕ) (r : List ℕ) where
  pub wrong_commitment : (length commitment ≡ 32 → ⊥) → 1 ≡ check_of (deal_terms commitment d number) r
  unfolding check_of
  wrong_commitment h = rw (ne_eqb (length commitment) 32 h)

  module _ (l : length commitment ≡ 32) where
    pub wrong_deal_size : deal_size_allowed d ≡ false → 2 ≡ check_of (deal_terms commitment d number) r
    unfolding check_of
    wrong_deal_size e = rw (eq-eqb (length commitment) 32 l, e)

    module _ (s : deal_size_allowed d ≡ true) where
      pub malformed : broken ≡ parse r → 3 ≡ check_of (deal_terms commitment d number) r
      unfolding check_of
      malformed h = rw (eq-eqb (length commitment) 32 l, s, ← h)

      pub well_formed_lem : {answer : ℕ} {x : Fields} → parsed x ≡ parse r
          → answer ≡ first_refusal (judgement (deal_terms commitment d number) (parsed x))
          → answer ≡ check_of (deal_terms commitment d number) r
      unfolding check_of
      well_formed_lem e j = j ∙ rw (eq-eqb (length commitment) 32 l, s, ← e)
