-- What cancelling answers and leaves: the code by the tests on the way, and the deal, the tree beside it and the table
-- of owners afterwards.
use mathlib.Core.Path.{◌≡◌, refl, sym, ap, ap₂, ◌∙◌}
use mathlib.Core.Bool.{Bool, true, false, ◌&&◌, not}
use mathlib.Core.Logic.{◌≢◌}
use Prim.Native.Nat.{ℕ, ◌+◌, ◌≤◌}
use native.Mathlib.Omega.{arith}
use mathlib.Core.List.{List, [], ◌∷◌, ◌++◌}
use lib.ListN.{length, replicate}
use Rattle.std.specs.Prelude.{Option, Some, None}
use Rattle.std.specs.Prelude.{is_some}
use Rattle.std.proofs.Common.{true≢false}
use Rattle.rules.specs.Answers.{number}
use Rattle.rules.specs.declared.Refusal.{Refusal}
use Rattle.rules.specs.Refusals.{Rule, rule, first_of, first_refusal}
use Rattle.rules.specs.RefusalLaws.{none_refused}
use Rattle.octets.specs.SpliceLaws.{length_splice}
use Rattle.sizes.specs.Sizes.{lent_size_allowed, place_allowed, deal_level}
use Rattle.sizes.specs.SizesLaws.{entry_place}
use Rattle.entries.specs.declared.Fields.{Fields}
use Rattle.tree.specs.Renewed.{renewed}
use Rattle.lent.specs.LentDeal.{LentDeal, tree_deal, deal_size, deal_rules, deal_refusal}
use Rattle.lent.specs.LentDealLaws as L
use Rattle.lent.specs.LentDealLaws.{usable, deal_passed}
use Rattle.lent.specs.Usable.{Usable}
use Rattle.lent.specs.UsableLaws.{usable_size, usable_same}
use Rattle.index.specs.Slots.{entry_at, standing, row_as, row_of}
use Rattle.index.specs.SlotsLaws.{answer_free, answer_stands}
use Rattle.index.specs.Written.{slot_of}
use Rattle.houses.specs.Houses.{house_allowed, table_sized, house_rules, owned, with_owner}
use Rattle.cancel.specs.Cancel.{
  stands_own,
  cancel_code,
  without_entry,
  cancelled_deal,
  cancelled_table,
  cancelled_tree,
}
use Rattle.cancel.specs.Cancels.{Cancels}
use Rattle.cancel.proofs.CancelLaws.{cancels, refused_same, cancelled_sized, cancelled_at}
use Rattle.cancel.proofs.OwnerCancelLaws.{not_own, refused_table, table_is}
use Rattle.cancel.proofs.TreeCancelLaws.{refused_tree, tree_is}

-- the rules of the house come first
house_first : (allowed lent sized : Bool) (later : ℕ) → first_of allowed 23 (first_of lent 2 (first_of sized 23 0)) ≢ 0
    → first_of allowed 23 (first_of lent 2 (first_of sized 23 0))
    ≡ first_of allowed 23 (first_of lent 2 (first_of sized 23 later))
house_first false lent sized later h = refl
house_first true false sized later h = refl
house_first true true false later h = refl
house_first true true true later h = absurd (h refl)

-- a refusal's number is not 0
some_number : (r : Refusal) → number r ≢ 0
some_number r = grind arith

-- what the entry that was read at a place says of it
module _ (d : ℕ) (entry : List ℕ) where
  pub read_free : (read : Option Fields) (none : Bool) → row_as read ≡ row_of d entry → is_some read ≡ not none
      → none ≡ true → standing d entry ≡ false
  read_free None none e n t = answer_free d entry (row_as None) e refl
  read_free (Some fields) true e n t = absurd (true≢false n)
  read_free (Some fields) false e n t = absurd (true≢false (sym t))

  pub read_stands : (read : Option Fields) (none : Bool) → row_as read ≡ row_of d entry → is_some read ≡ not none
      → none ≡ false → standing d entry ≡ true
  read_stands None true e n t = absurd (true≢false t)
  read_stands None false e n t = absurd (true≢false (sym n))
  read_stands (Some fields) none e n t = (answer_stands d entry (row_as (Some fields)) e refl).is_standing

-- the code, by the tests
module _ (deal : LentDeal) (table : List ℕ) (house place : ℕ) where
  abbrev d : ℕ
  d = deal_size deal

  pub house_refused : (r : Refusal) → number r ≡ first_refusal (house_rules (deal_size deal) table house)
      → number r ≡ cancel_code deal table house place
  unfolding cancel_code
  house_refused r e =
      e
      ∙ house_first (house_allowed house) (lent_size_allowed d) (table_sized d table) _ (λ z. some_number r (e ∙ z))

  -- the house, the deal's size and the table are not refused
  module _ (housed : 0 ≡ first_refusal (house_rules (deal_size deal) table house)) where
    passed : (house_allowed house ≡ true) × (lent_size_allowed d ≡ true) × (table_sized d table ≡ true)
    passed =
        let p = none_refused (house_rules d table house) (omega arith, (omega arith, (omega arith, tt))) (sym housed) in
        (p.0, p.1.0, p.1.1.0)

    abbrev place_rules : List Rule
    place_rules = rule (place_allowed d place) 6 ∷ rule (stands_own deal table house place) 16 ∷ []

    code_is : cancel_code deal table house place ≡ first_refusal (deal_rules deal ++ place_rules)
    unfolding cancel_code
    code_is = rw (passed.0, passed.1, passed.2)

    pub table_fits : table_sized (deal_size deal) table ≡ true
    table_fits = passed.2

    pub deal_refused : (r : Refusal) → number r ≡ deal_refusal deal → number r ≡ cancel_code deal table house place
    deal_refused r e =
        e ∙ sym (L.deal_refused deal place_rules (λ z. some_number r (e ∙ z))) ∙ sym code_is

    -- the deal is not refused
    module _ (e : 0 ≡ deal_refusal deal) where
      pub deal_fits : Usable deal
      deal_fits = usable deal (sym e)

      pub place_refused : place_allowed (deal_size deal) place ≡ false → 6 ≡ cancel_code deal table house place
      place_refused p = rw (code_is, deal_passed deal place_rules (sym e), p)

      module _ (p : place_allowed (deal_size deal) place ≡ true) where
        pub place_within : place + 64 ≤ deal_size deal
        place_within = (entry_place d place (usable_size deal_fits).deal p).in_deal

        -- no entry stands there, or it is not the house's
        not_own_refused : stands_own deal table house place ≡ false → 16 ≡ cancel_code deal table house place
        not_own_refused s = sym (not_own deal table house place passed.0 (sym e) passed.2 p s)

        pub free_refused : standing (deal_size deal) (entry_at deal.bytes place) ≡ false
            → 16 ≡ cancel_code deal table house place
        free_refused s = not_own_refused (ap (λ (b : Bool). b && owned table house (slot_of d place)) s)

        module _ (s : standing (deal_size deal) (entry_at deal.bytes place) ≡ true) where
          pub other_refused : owned table house (slot_of (deal_size deal) place) ≡ false
              → 16 ≡ cancel_code deal table house place
          other_refused o = not_own_refused (ap₂ (λ (a b : Bool). a && b) s o)

          pub none_refuses : owned table house (slot_of (deal_size deal) place) ≡ true
              → 0 ≡ cancel_code deal table house place
          none_refuses o =
              sym ((cancels deal table house place).1 (record {
                house_allowed_lem = passed.0;
                not_refused = sym e;
                table_sized_lem = passed.2;
                place_allowed_lem = p;
                stands_there = s;
                owned_there = o;
              }))

  -- a refusal leaves deal and table
  module _ (r : Refusal) (e : number r ≡ cancel_code deal table house place) where
    pub deal_kept : deal.bytes ≡ cancelled_deal deal table house place
    deal_kept = sym (refused_same deal table house place (λ z. some_number r (e ∙ z)))

    pub table_kept : table ≡ cancelled_table deal table house place
    table_kept = sym (refused_table deal table house place (λ z. some_number r (e ∙ z)))

  -- without one the entry is cancelled
  module _ (e : 0 ≡ cancel_code deal table house place) where
    facts : Cancels deal table house place
    facts = (cancels deal table house place).0 (sym e)

    pub entry_within : place + 64 ≤ deal_size deal
    entry_within =
        (entry_place d place (cancelled_sized deal table house place (sym e)) facts.place_allowed_lem).in_deal

    module _ (new : List ℕ) (w : new ≡ without_entry deal.bytes place) where
      pub new_length : length new ≡ deal_size deal
      new_length = ap length w ∙ length_splice deal.bytes place (replicate 64 0) entry_within

      pub new_within : place + 64 ≤ length new
      new_within = omega (arith, new_length, entry_within)

      pub owner_fits : ((lent_size_allowed (length new) ≡ true) × (place_allowed (length new) place ≡ true))
          × (table_sized (length new) table ≡ true)
      owner_fits = (
        (
          ap lent_size_allowed new_length ∙ (usable deal facts.not_refused).size_allowed,
          ap (λ (n : ℕ). place_allowed n place) new_length ∙ facts.place_allowed_lem,
        ),
        ap (λ (n : ℕ). table_sized n table) new_length ∙ facts.table_sized_lem,
      )

      pub deal_cancelled : new ≡ cancelled_deal deal table house place
      deal_cancelled = w ∙ sym (cancelled_at deal table house place (sym e))

      pub table_cancelled : with_owner table (slot_of (length new) place) 0 ≡ cancelled_table deal table house place
      table_cancelled =
          ap (λ (n : ℕ). with_owner table (slot_of n place) 0) new_length
          ∙ sym (table_is deal table house place (sym e))

-- the tree beside the deal
module _ (deal tree table : List ℕ) (house place : ℕ) where
  pub tree_kept : (r : Refusal) → number r ≡ cancel_code (tree_deal deal tree) table house place
      → tree ≡ cancelled_tree deal tree table house place
  tree_kept r e = sym (refused_tree deal tree table house place (λ z. some_number r (e ∙ z)))

  module _ (e : 0 ≡ cancel_code (tree_deal deal tree) table house place) (new : List ℕ)
      (w : new ≡ without_entry deal place) where
    size_same : length new ≡ length deal
    size_same = new_length (tree_deal deal tree) table house place e new w

    pub new_usable : Usable (tree_deal new tree)
    new_usable =
        usable_same deal (Some tree) new (Some tree) size_same refl
        (usable (tree_deal deal tree) (facts (tree_deal deal tree) table house place e).not_refused)

    pub tree_renewed : renewed (deal_level (length new)) new tree place 64 ≡ cancelled_tree deal tree table house place
    tree_renewed =
        ap₂ (λ (n : ℕ) (x : List ℕ). renewed (deal_level n) x tree place 64) size_same w
        ∙ sym (tree_is deal tree table house place (sym e))
