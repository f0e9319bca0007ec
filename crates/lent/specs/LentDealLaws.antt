-- What it means that a lent deal is refused or not, and what it is for an answer behind these rules.
use Rattle.std.specs.Prelude.{◌≡◌, refl, Bool, true, false, ◌≢◌, List, [], ◌∷◌, ◌++◌, ℕ, zero, suc}
use Rattle.std.proofs.Common.{sym}
use native.Mathlib.Omega.{arith}
use Rattle.rules.specs.Refusals.{Rule, first_of, first_refusal, unless_refused}
use Rattle.rules.specs.RefusalLaws.{none_refused, all_passed, refused_append}
use Rattle.stray.specs.StrayBits.{no_stray_bits}
use Rattle.sizes.specs.Sizes.{lent_size_allowed}
use Rattle.lent.specs.LentDeal.{LentDeal, deal_size, deal_rules, deal_refusal}
use Rattle.lent.specs.Usable.{Usable}

-- the first part of a list of rules refuses
first_of_lem : (passed : Bool) (code here later : ℕ) → first_of passed code here ≢ 0 → (here ≢ 0 → later ≡ here)
    → first_of passed code later ≡ first_of passed code here
first_of_lem true code here later h f = f h
first_of_lem false code here later h f = refl

first_part : (rs ss : List Rule) → first_refusal rs ≢ 0 → first_refusal (rs ++ ss) ≡ first_refusal rs
first_part [] ss h = absurd (h refl)
first_part (r ∷ rs) ss h =
    first_of_lem r.passed r.code (first_refusal rs) (first_refusal (rs ++ ss)) h (first_part rs ss)

-- any code but 0 is answered by the refusal
pub answer_refused : {A : Type 0} (refused : ℕ → A) (done : A) (code : ℕ) → code ≢ 0
    → unless_refused code refused done ≡ refused code
answer_refused refused done zero h = absurd (h refl)
answer_refused refused done (suc code) h = refl

module _ (deal : LentDeal) where
  -- 0 exactly where the size is allowed, no node has stray bits, and a tree has the length that the deal asks
  pub refusal_none : deal_refusal deal ≡ 0
      → (lent_size_allowed (deal_size deal) ≡ true) × (no_stray_bits deal.bytes ≡ true) × (deal.tree_sized ≡ true)
  unfolding deal_refusal
  refusal_none e =
      let p = none_refused (deal_rules deal) (omega arith, (omega arith, (omega arith, tt))) e in
      (p.0, p.1.0, p.1.1.0)

  pub none_refusal : lent_size_allowed (deal_size deal) ≡ true → no_stray_bits deal.bytes ≡ true
      → deal.tree_sized ≡ true → deal_refusal deal ≡ 0
  unfolding deal_refusal
  none_refusal l c t = all_passed (deal_rules deal) (l, (c, (t, tt)))

  pub refusal_size : lent_size_allowed (deal_size deal) ≡ false → deal_refusal deal ≡ 2
  unfolding deal_refusal
  refusal_size l = rw l

  pub refusal_stray : lent_size_allowed (deal_size deal) ≡ true → no_stray_bits deal.bytes ≡ false
      → deal_refusal deal ≡ 11
  unfolding deal_refusal
  refusal_stray l c = rw (l, c)

  pub refusal_tree : lent_size_allowed (deal_size deal) ≡ true → no_stray_bits deal.bytes ≡ true
      → deal.tree_sized ≡ false → deal_refusal deal ≡ 12
  unfolding deal_refusal
  refusal_tree l c t = rw (l, c, t)

  -- the nodes of a deal that is not refused may be looked up
  pub usable : deal_refusal deal ≡ 0 → Usable deal
  unfolding deal_refusal
  usable e =
      let p = none_refused (deal_rules deal) (omega arith, (omega arith, (omega arith, tt))) e in
      record { size_allowed = p.0; tree_sized_lem = p.1.1.0 }

  -- later rules are reached where none of these refuses
  module _ (later : List Rule) where
    pub deal_refused : deal_refusal deal ≢ 0 → first_refusal (deal_rules deal ++ later) ≡ deal_refusal deal
    unfolding deal_refusal
    deal_refused h = first_part (deal_rules deal) later h

    pub deal_passed : deal_refusal deal ≡ 0 → first_refusal (deal_rules deal ++ later) ≡ first_refusal later
    unfolding deal_refusal
    deal_passed e = refused_append (deal_rules deal) later e (omega arith, (omega arith, (omega arith, tt)))

    -- the answers of a routine with these rules
    module _ {A : Type 0} (refused : ℕ → A) (done : A) where
      pub refused_answer : (code : ℕ) → code ≡ deal_refusal deal → code ≢ 0
          → refused code ≡ unless_refused (first_refusal (deal_rules deal ++ later)) refused done
      refused_answer code e h =
          rw (deal_refused (rw (← e) h), ← e) (sym (answer_refused refused done code h))

      pub passed_answer : deal_refusal deal ≡ 0
          → unless_refused (first_refusal later) refused done
          ≡ unless_refused (first_refusal (deal_rules deal ++ later)) refused done
      passed_answer e = rw (deal_passed e)
