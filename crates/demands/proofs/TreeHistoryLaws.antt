-- The premise of request (vii): the history gives the state, and calls with the tree in hand keep it.
use Rattle.std.specs.Prelude.{◌≡◌, refl, ℕ, ◌-◌, List, [], ◌∷◌, ◌++◌, length, eqb}
use Rattle.std.proofs.Common.{sym, ap, ap₂, ◌∙◌, subst}
use Rattle.std.proofs.Math.Decide.{ℕ_discrete}
use Rattle.sizes.specs.Sizes.{lent_size_allowed, deal_level}
use Rattle.tree.specs.TreeNodes.{FilledFor}
use Rattle.tree.specs.Filled.{filled}
use Rattle.lent.specs.LentDeal.{lent_deal, tree_deal, deal_refusal}
use Rattle.lent.specs.LentDealLaws.{none_refusal}
use Rattle.lent.specs.FilledTree.{filled_tree}
use Rattle.lent.specs.FilledTreeLaws.{is_filled}
use Rattle.collect.specs.Collect.{collected_deal, collect_code, second_deal, second_tree}
use Rattle.collect.proofs.CollectLaws.{collected_length}
use Rattle.collect.proofs.CollectClear.{collected_clear}
use Rattle.collect.proofs.CodeLaws.{collects}
use Rattle.collect.specs.AnswerLaws.{deal_collected, tree_collected}
use Rattle.demands.specs.Calls.{Call, book_segment, cancel_place, DealAndTable, answer_in}
use Rattle.demands.specs.Calls.{deal_after_call, table_after_call, run_calls}
use Rattle.demands.proofs.TreeForms.{filling_leaves_the_nodes, refused_filling}
use Rattle.demands.proofs.TreeForms.{same_booking, same_booked_deal, same_booked_table, booking_leaves_the_nodes}
use Rattle.demands.proofs.TreeForms.{same_cancelled_deal, same_cancelled_table, cancelling_leaves_the_nodes}
use Rattle.demands.specs.TreeHistory.{DealTreeTable, plain_of, answer_with, TreeCall, fill_tree, with_tree}
use Rattle.demands.specs.TreeHistory.{after_call, after_calls, plain_calls}
use Rattle.demands.specs.TreeHistory.{Step, DealAndTree, lent_table, after_step, after_steps, TreeHistory}

-- a call with the tree in hand leaves the premise true, whatever table it is lent
pub call_filled : (call : TreeCall) (was : DealTreeTable) → FilledFor was.deal was.tree
    → FilledFor (after_call call was).deal (after_call call was).tree
call_filled fill_tree was f =
    let deal = was.deal in
    let tree = was.tree in
    elim (ℕ_discrete (deal_refusal (tree_deal deal tree)) 0) [
      | yes z ↦ filling_leaves_the_nodes deal tree z
      | no h ↦ subst (FilledFor deal) (sym (refused_filling deal tree h)) f
    ]
call_filled (with_tree (book_segment house segment)) was f =
    booking_leaves_the_nodes was.deal was.tree f was.table house segment
call_filled (with_tree (cancel_place house place)) was f =
    cancelling_leaves_the_nodes was.deal was.tree f was.table house place

pub calls_filled : (calls : List TreeCall) (was : DealTreeTable) → FilledFor was.deal was.tree
    → FilledFor (after_calls calls was).deal (after_calls calls was).tree
unfolding after_calls
calls_filled [] was f = f
calls_filled (call ∷ later) was f = calls_filled later (after_call call was) (call_filled call was f)

steps_filled : (steps : List Step) (was : DealAndTree) → FilledFor was.deal was.tree
    → FilledFor (after_steps steps was).deal (after_steps steps was).tree
unfolding after_steps
steps_filled [] was f = f
steps_filled (step ∷ later) was f =
    steps_filled later (after_step step was) (call_filled step.call (lent_table was step.table) f)

-- The history gives the state.
pub history_filled : (deal tree : List ℕ) → TreeHistory deal tree → FilledFor deal tree
history_filled deal tree h =
    subst (λ (now : DealAndTree). FilledFor now.deal now.tree) h.leads_here
    (steps_filled h.steps (record { deal = h.start; tree = filled_tree h.start h.buffer })
    (filling_leaves_the_nodes h.start h.buffer h.filling_answers_0))

-- A history starts by a filling that answers 0, and goes on by any call with the tree in hand, whatever table is lent.
pub history_starts : (deal buffer : List ℕ) → deal_refusal (tree_deal deal buffer) ≡ 0
    → TreeHistory deal (filled_tree deal buffer)
unfolding after_steps
history_starts deal buffer e =
    record { start = deal; buffer = buffer; filling_answers_0 = e; steps = []; leads_here = refl }

-- So does a collection with a tree beside the second deal that answers 0: it fills the tree for the deal that it
-- writes.
pub collection_starts_a_history : (deal table second tree second_table : List ℕ)
    → collect_code deal table (tree_deal second tree) second_table ≡ 0
    → TreeHistory (second_deal deal table (tree_deal second tree) second_table)
    (second_tree deal table second tree second_table)
collection_starts_a_history deal table second tree second_table e =
    let new = collected_deal deal in
    let p = (collects deal table (tree_deal second tree) second_table).0 e in
    let same = collected_length p.collectable in
    let z : deal_refusal (tree_deal new tree) ≡ 0 =
    none_refusal (tree_deal new tree) (ap lent_size_allowed same ∙ p.collectable.lent)
    (collected_clear p.collectable p.clear)
    (ap (λ (d : ℕ). eqb (length tree) (d - 32)) (same ∙ sym p.second_length) ∙ p.tree_sized_lem) in
    let nodes : filled_tree new tree ≡ second_tree deal table second tree second_table =
    is_filled new tree z
    ∙ ap (λ (d : ℕ). filled (deal_level d) new) same
    ∙ sym (tree_collected deal table second tree second_table e) in
    subst (λ (x : List ℕ). TreeHistory x (second_tree deal table second tree second_table))
    (sym (deal_collected deal table (tree_deal second tree) second_table e))
    (subst (TreeHistory new) nodes (history_starts new tree z))

one_more : (steps : List Step) (step : Step) (was : DealAndTree)
    → after_steps (steps ++ (step ∷ [])) was ≡ after_step step (after_steps steps was)
unfolding after_steps
one_more [] step was = refl
one_more (first ∷ later) step was = one_more later step (after_step first was)

pub history_goes_on : (was : DealTreeTable) → TreeHistory was.deal was.tree → (call : TreeCall)
    → TreeHistory (after_call call was).deal (after_call call was).tree
history_goes_on was h call =
    let first : DealAndTree = record { deal = h.start; tree = filled_tree h.start h.buffer } in
    let step : Step = record { table = was.table; call = call } in
    record {
      start = h.start;
      buffer = h.buffer;
      filling_answers_0 = h.filling_answers_0;
      steps = h.steps ++ (step ∷ []);
      leads_here = one_more h.steps step first ∙ ap (after_step step) h.leads_here;
    }

-- A call with the tree in hand leaves the deal and the table that the plain form leaves, ..
same_call : (call : Call) (deal tree : List ℕ) → FilledFor deal tree → (table : List ℕ)
    → deal_after_call call (tree_deal deal tree) table ≡ deal_after_call call (lent_deal deal) table
same_call (book_segment house segment) deal tree f table = same_booked_deal deal tree f table house segment
same_call (cancel_place house place) deal tree f table = same_cancelled_deal deal tree f table house place

same_call_table : (call : Call) (deal tree : List ℕ) → FilledFor deal tree → (table : List ℕ)
    → table_after_call call (tree_deal deal tree) table ≡ table_after_call call (lent_deal deal) table
same_call_table (book_segment house segment) deal tree f table = same_booked_table deal tree f table house segment
same_call_table (cancel_place house place) deal tree f table = same_cancelled_table deal tree f table house place

-- .. so calls with it in hand lead to the deal and the table that the same calls by the plain forms lead to, ..
pub same_run : (calls : List TreeCall) (was : DealTreeTable) → FilledFor was.deal was.tree
    → plain_of (after_calls calls was) ≡ run_calls (plain_of was) (plain_calls calls)
unfolding after_calls run_calls
same_run [] was f = refl
same_run (fill_tree ∷ later) was f = same_run later (after_call fill_tree was) (call_filled fill_tree was f)
same_run (with_tree call ∷ later) was f =
    same_run later (after_call (with_tree call) was) (call_filled (with_tree call) was f)
    ∙ ap₂ (λ (x y : List ℕ). run_calls (record { deal = x; table = y }) (plain_calls later))
    (same_call call was.deal was.tree f was.table)
    (same_call_table call was.deal was.tree f was.table)

-- .. and booking with the tree then answers what the plain form answers there.
pub same_run_answer : (calls : List TreeCall) (was : DealTreeTable) → FilledFor was.deal was.tree
    → (house : ℕ) (segment : List ℕ)
    → answer_with (after_calls calls was) house segment
    ≡ answer_in (run_calls (plain_of was) (plain_calls calls)) house segment
same_run_answer calls was f house segment =
    let now = after_calls calls was in
    same_booking now.deal now.tree (calls_filled calls was f) now.table house segment
    ∙ ap (λ (there : DealAndTable). answer_in there house segment) (same_run calls was f)
