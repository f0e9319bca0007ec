-- The audit as a whole: when its code is 0, and what the lent buffer holds afterwards.
use Rattle.std.specs.Prelude.{◌≡◌, refl, true, ◌↔◌, ◌≢◌, ℕ, zero, suc, ◌+◌, ◌≤◌, ◌<◌, List, [], ◌∷◌, length, get_or}
use Rattle.std.specs.Prelude.{leb}
use Rattle.std.proofs.Common.{sym, ap, ◌∙◌, ⊎_elim, eq-or-lt_of_le, zero-add, length-append, get_or-append-add}
use Rattle.std.proofs.Math.Decide.{ℕ_discrete}
use native.Mathlib.Omega.{arith}
use Rattle.std.proofs.Math.ListN.{get_or-append}
use borrow.Author.Tests.{leb-true, le-leb, lt-leb}
use Rattle.rules.specs.Refusals.{rule}
use Rattle.rules.specs.RefusalLaws.{none_refused, all_passed}
use Rattle.octets.specs.Splice.{splice}
use Rattle.octets.specs.SpliceLaws.{length_splice, splice_inside, splice_after}
use Rattle.stray.specs.StrayBits.{no_stray_bits}
use Rattle.sizes.specs.Sizes.{lent_size_allowed, entry_count}
use Rattle.lent.specs.LentDeal.{lent_deal, deal_refusal}
use Rattle.lent.specs.LentDealLaws.{answer_refused, deal_refused, deal_passed}
use Rattle.audit.specs.Audit.{slot_state, slot_states, audit_rules, audit_code, audited_states}

-- one state for each of the first n slots, and each is that of its slot
pub states_length : (deal : List ℕ) (n : ℕ) → length (slot_states deal n) ≡ n
unfolding slot_states
states_length deal zero = refl
states_length deal (suc n) =
    omega (arith, length-append (slot_states deal n) (slot_state deal n ∷ []), states_length deal n)

pub state_at : (deal : List ℕ) (n i : ℕ) → i < n → get_or (slot_states deal n) i 0 ≡ slot_state deal i
unfolding slot_states
state_at deal zero i h = absurd (omega arith)
state_at deal (suc n) i h =
    let before = slot_states deal n in
    let l : length before ≡ n = states_length deal n in
    let within : i ≤ n = omega arith in
    ⊎_elim
    (λ same.
    let e : i ≡ length before + 0 = omega arith in
    ap (λ (j : ℕ). get_or (slot_states deal (suc n)) j 0) e
    ∙ get_or-append-add before (slot_state deal n ∷ []) 0 0
    ∙ ap (slot_state deal) (sym same))
    (λ less. get_or-append before (slot_state deal n ∷ []) 0 i (omega arith) ∙ state_at deal n i less)
    (eq-or-lt_of_le within)

-- a deal that is audited into a buffer
pub record Audits (deal states : List ℕ) : Type 0 where
  pub lent : lent_size_allowed (length deal) ≡ true
  pub clear : no_stray_bits deal ≡ true
  pub room : entry_count (length deal) ≤ length states

module _ (deal states : List ℕ) where
  abbrev slots : ℕ
  slots = entry_count (length deal)

  abbrev written : List ℕ
  written = slot_states deal slots

  -- the code is 0 exactly then; else it is that of the deal, and 12 for too short a buffer
  pub audits : (audit_code deal states ≡ 0) ↔ Audits deal states
  unfolding audit_code
  audits = (
    λ e.
        let p = none_refused (audit_rules deal states)
        (omega arith, (omega arith, (omega arith, (omega arith, tt)))) e in
        record { lent = p.0; clear = p.1.0; room = leb-true slots (length states) p.1.1.1.0 },
    λ a.
        let room = le-leb slots (length states) a.room in
        all_passed (audit_rules deal states) (a.lent, (a.clear, (refl, (room, tt)))),
  )

  pub audit_refused : deal_refusal (lent_deal deal) ≢ 0 → audit_code deal states ≡ deal_refusal (lent_deal deal)
  unfolding audit_code
  audit_refused h = deal_refused (lent_deal deal) (rule (leb slots (length states)) 12 ∷ []) h

  pub audit_short : deal_refusal (lent_deal deal) ≡ 0 → length states < entry_count (length deal)
      → audit_code deal states ≡ 12
  unfolding audit_code
  audit_short e h =
      deal_passed (lent_deal deal) (rule (leb slots (length states)) 12 ∷ []) e
      ∙ rw (lt-leb slots (length states) h)

  -- what is left in the buffer
  pub states_left : audit_code deal states ≢ 0 → audited_states deal states ≡ states
  unfolding audited_states
  states_left h = answer_refused (λ (code : ℕ). states) (splice states 0 written) (audit_code deal states) h

  pub states_written : audit_code deal states ≡ 0
      → audited_states deal states ≡ splice states 0 (slot_states deal (entry_count (length deal)))
  unfolding audited_states
  states_written e = rw e

  written_ends : audit_code deal states ≡ 0 → 0 + length written ≤ length states
  written_ends e = let h = (audits.0 e).room in omega (arith, states_length deal slots)

  pub audited_at : audit_code deal states ≡ 0 → (i : ℕ) → i < entry_count (length deal)
      → get_or (audited_states deal states) i 0 ≡ slot_state deal i
  audited_at e i h =
      let l = states_length deal slots in
      ap (λ (s : List ℕ). get_or s i 0) (states_written e)
      ∙ ap (λ (j : ℕ). get_or (splice states 0 written) j 0) (sym (zero-add i))
      ∙ splice_inside states 0 written (written_ends e) i (omega arith)
      ∙ state_at deal slots i h

  pub audited_after : audit_code deal states ≡ 0 → (i : ℕ) → entry_count (length deal) ≤ i
      → get_or (audited_states deal states) i 0 ≡ get_or states i 0
  audited_after e i h =
      let l = states_length deal slots in
      ap (λ (s : List ℕ). get_or s i 0) (states_written e)
      ∙ splice_after states 0 written (written_ends e) i (omega arith)

  -- its length stays
  pub audited_length : length (audited_states deal states) ≡ length states
  audited_length =
      elim (ℕ_discrete (audit_code deal states) 0) [
        | yes e ↦ ap length (states_written e) ∙ length_splice states 0 written (written_ends e)
        | no ne ↦ ap length (states_left ne)
      ]
