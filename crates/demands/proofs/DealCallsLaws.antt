-- What holds after calls that change a deal: a step for each kind of call, and a run by its steps. The deal's length
-- stays.
use Rattle.std.specs.Prelude.{◌≡◌, refl, ◌≢◌, ℕ, List, [], ◌∷◌, length}
use Rattle.std.proofs.Common.{sym, ap, ◌∙◌, subst, subst₂}
use Rattle.std.proofs.Math.Decide.{ℕ_discrete}
use Rattle.lent.specs.LentDeal.{LentDeal}
use Rattle.lent.specs.LentDealLaws.{answer_refused}
use Rattle.collect.specs.Collect.{collected_deal, collected_table}
use Rattle.collect.proofs.CollectLaws.{collected_length}
use Rattle.collect.proofs.CodeLaws.{collects}
use Rattle.collect.specs.Collectable.{Collects}
use Rattle.collect.specs.AnswerLaws.{deal_collected, owners_collected}
use Rattle.demands.specs.Calls.{DealAndTable}
use Rattle.demands.proofs.CallsLaws.{after_length}
use Rattle.demands.specs.DealCalls.{TreeLent, no_tree, tree_in, lent_beside, DealCall, on_deal, collect_into}
use Rattle.demands.specs.DealCalls.{collecting_code, second_ones, after_deal_call, run_deal_calls}

-- the deal is the same, whatever is lent beside it
pub same_bytes_lem : (tree : TreeLent) (deal : List ℕ) → (lent_beside tree deal).bytes ≡ deal
same_bytes_lem no_tree deal = refl
same_bytes_lem (tree_in buffer) deal = refl

-- a collection leaves deal and table as they were, or with code 0 the collected ones take their place
module _ (second : DealAndTable) (tree : TreeLent) (was : DealAndTable) where
  abbrev into : LentDeal
  into = lent_beside tree second.deal

  pub by_collecting_code : (P : ℕ → DealAndTable → Type 0) → ((code : ℕ) → code ≢ 0 → P code was)
      → (Collects was.deal was.table (lent_beside tree second.deal) second.table
      → P 0 (record { deal = collected_deal was.deal; table = collected_table was.deal was.table }))
      → P (collecting_code second tree was) (after_deal_call (collect_into second tree) was)
  by_collecting_code P same moved =
      elim (ℕ_discrete (collecting_code second tree was) 0) [
        | yes e ↦
            rw e
            (subst₂ (λ (x y : List ℕ). P 0 (record { deal = x; table = y }))
            (sym (deal_collected was.deal was.table into second.table e))
            (sym (owners_collected was.deal was.table into second.table e))
            (moved ((collects was.deal was.table into second.table).0 e)))
        | no r ↦
            let code : ℕ = collecting_code second tree was in
            subst (P code)
            (sym (answer_refused (λ (k : ℕ). was) (second_ones second tree was) code r)) (same code r)
      ]

  pub by_collecting : (P : DealAndTable → Type 0) → P was
      → (Collects was.deal was.table (lent_beside tree second.deal) second.table
      → P (record { deal = collected_deal was.deal; table = collected_table was.deal was.table }))
      → P (after_deal_call (collect_into second tree) was)
  by_collecting P same moved = by_collecting_code (λ code now. P now) (λ code r. same) moved

-- what every call leaves true, every run does
pub by_calls : (P : DealAndTable → Type 0)
    → ((call : DealCall) (was : DealAndTable) → P was → P (after_deal_call call was))
    → (calls : List DealCall) (was : DealAndTable) → P was → P (run_deal_calls was calls)
unfolding run_deal_calls
by_calls P step [] was p = p
by_calls P step (call ∷ later) was p = by_calls P step later (after_deal_call call was) (step call was p)

-- the deal is as long as it was
pub deal_call_length : (call : DealCall) (was : DealAndTable)
    → length (after_deal_call call was).deal ≡ length was.deal
deal_call_length (on_deal call tree) was =
    after_length call (lent_beside tree was.deal) was.table ∙ ap length (same_bytes_lem tree was.deal)
deal_call_length (collect_into second tree) was =
    by_collecting second tree was (λ now. length now.deal ≡ length was.deal) refl
    (λ c. collected_length c.collectable)

pub deal_run_length : (calls : List DealCall) (was : DealAndTable)
    → length (run_deal_calls was calls).deal ≡ length was.deal
deal_run_length calls was =
    by_calls (λ now. length now.deal ≡ length was.deal)
    (λ call then same. deal_call_length call then ∙ same) calls was refl
