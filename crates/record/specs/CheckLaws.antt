-- What an accepted record is.
use Rattle.std.specs.Prelude.{◌≡◌, refl, true, ◌&&◌, ℕ, ◌*◌, List, ◌∷◌, length, eqb}
use Rattle.std.proofs.Common.{arith, eqb-true, eq-eqb}
use Rattle.rules.specs.Refusals.{rule, first_refusal}
use Rattle.rules.specs.RefusalLaws.{Codes, first_passed, none_refused, all_passed, and_left, and_right, and_both}
use Rattle.octets.specs.EqualityLaws.{same_true, same_of}
use Rattle.stray.specs.StrayBits.{clear_node, no_stray_bits}
use Rattle.sizes.specs.Sizes.{deal_size_allowed, segment_size_allowed, offset_allowed, place_allowed, segment_path_levels}
use Rattle.sizes.specs.Sizes.{entry_path_levels}
use Rattle.record.specs.Form.{Fields, Parsed, parsed, broken, parse}
use Rattle.record.specs.Check.{DealTerms, well_formed, segment_path_root, entry_path_root, judgement, check_of}

-- all that the demands use of a record that is accepted
pub record Accepted (terms : DealTerms) (x : Fields) : Type 0 where
  pub number_same : x.number ≡ terms.number
  pub size_allowed : segment_size_allowed terms.size x.size ≡ true
  pub offset_allowed_lem : offset_allowed terms.size x.offset x.size ≡ true
  pub place_allowed_lem : place_allowed terms.size x.place ≡ true
  pub segment_path_length : length x.segment_path ≡ 32 * segment_path_levels terms.size x.size
  pub entry_path_length : length x.entry_path ≡ 32 * entry_path_levels terms.size
  pub commitment_clear : clear_node x.commitment ≡ true
  pub segment_path_clear : no_stray_bits x.segment_path ≡ true
  pub entry_path_clear : no_stray_bits x.entry_path ≡ true
  pub segment_path_leads : segment_path_root terms.size x ≡ terms.commitment
  pub entry_path_leads : entry_path_root terms.size x ≡ terms.commitment

codes : (terms : DealTerms) (x : Fields) → Codes (judgement terms (parsed x))
codes terms x = (
  omega arith,
  (
    omega arith,
    (omega arith, (omega arith, (omega arith, (omega arith, (omega arith, (omega arith, (omega arith, tt))))))),
  ),
)

-- each fact is looked for among those of the rules that were passed, wherever its rule stands
judged : (terms : DealTerms) (x : Fields) → first_refusal (judgement terms (parsed x)) ≡ 0 → Accepted terms x
judged terms x e =
    let a = none_refused (judgement terms (parsed x)) (codes terms x) e in
    let u = eqb (length x.segment_path) (32 * segment_path_levels terms.size x.size) in
    let v = eqb (length x.entry_path) (32 * entry_path_levels terms.size) in
    let sized : (u && v) ≡ true = cc in
    let clear : (no_stray_bits x.segment_path && no_stray_bits x.entry_path) ≡ true = cc in
    record {
      number_same = eqb-true x.number terms.number (cc);
      size_allowed = cc;
      offset_allowed_lem = cc;
      place_allowed_lem = cc;
      segment_path_length = eqb-true (length x.segment_path) (32 * segment_path_levels terms.size x.size)
          (and_left u v sized);
      entry_path_length = eqb-true (length x.entry_path) (32 * entry_path_levels terms.size) (and_right u v sized);
      commitment_clear = cc;
      segment_path_clear = and_left (no_stray_bits x.segment_path) (no_stray_bits x.entry_path) clear;
      entry_path_clear = and_right (no_stray_bits x.segment_path) (no_stray_bits x.entry_path) clear;
      segment_path_leads = same_true (segment_path_root terms.size x) terms.commitment (cc);
      entry_path_leads = same_true (entry_path_root terms.size x) terms.commitment (cc);
    }

judges : (terms : DealTerms) (x : Fields) → Accepted terms x → first_refusal (judgement terms (parsed x)) ≡ 0
judges terms x a =
    let u = eqb (length x.segment_path) (32 * segment_path_levels terms.size x.size) in
    let v = eqb (length x.entry_path) (32 * entry_path_levels terms.size) in
    let number = eq-eqb x.number terms.number a.number_same in
    let sized = and_both u v
    (eq-eqb (length x.segment_path) (32 * segment_path_levels terms.size x.size) a.segment_path_length)
    (eq-eqb (length x.entry_path) (32 * entry_path_levels terms.size) a.entry_path_length) in
    let clear = and_both (no_stray_bits x.segment_path) (no_stray_bits x.entry_path) a.segment_path_clear
    a.entry_path_clear in
    let segment_leads = same_of (segment_path_root terms.size x) terms.commitment a.segment_path_leads in
    let entry_leads = same_of (entry_path_root terms.size x) terms.commitment a.entry_path_leads in
    all_passed (judgement terms (parsed x)) (cc, (cc, (cc, (cc, (cc, (cc, (cc, (cc, (cc, tt)))))))))

-- the first two tests are passed, and the rest too
passes : (terms : DealTerms) (r : List ℕ) → check_of terms r ≡ 0
    → (length terms.commitment ≡ 32) × (deal_size_allowed terms.size ≡ true)
    × (first_refusal (rule (well_formed (parse r)) 3 ∷ judgement terms (parse r)) ≡ 0)
unfolding check_of
passes terms r e =
    let rest = first_refusal (rule (well_formed (parse r)) 3 ∷ judgement terms (parse r)) in
    let a = first_passed (eqb (length terms.commitment) 32) 1
    (first_refusal (rule (deal_size_allowed terms.size) 2 ∷ rule (well_formed (parse r)) 3 ∷ judgement terms
    (parse r))) (omega arith) e in
    let b = first_passed (deal_size_allowed terms.size) 2 rest (omega arith) a.1 in
    (eqb-true (length terms.commitment) 32 a.0, b.0, b.1)

-- an accepted record is well formed, and its fields are accepted
pub check_means : (terms : DealTerms) (r : List ℕ) → check_of terms r ≡ 0
    → (x : Fields) × (parse r ≡ parsed x) × Accepted terms x
check_means terms r e = go (parse r) refl (passes terms r e).2
  where
    go : (f : Parsed) → parse r ≡ f → first_refusal (rule (well_formed f) 3 ∷ judgement terms f) ≡ 0
        → (x : Fields) × (parse r ≡ parsed x) × Accepted terms x
    go (parsed x) p h = (x, p, judged terms x h)
    go broken p h = absurd (omega arith)

-- and the terms are allowed
pub check_terms : (terms : DealTerms) (r : List ℕ) → check_of terms r ≡ 0
    → (length terms.commitment ≡ 32) × (deal_size_allowed terms.size ≡ true)
check_terms terms r e = let a = passes terms r e in (a.0, a.1)

pub means_check : (terms : DealTerms) (r : List ℕ) (x : Fields) → length terms.commitment ≡ 32
    → deal_size_allowed terms.size ≡ true → parse r ≡ parsed x → Accepted terms x
    → check_of terms r ≡ 0
unfolding check_of
means_check terms r x l o p a = rw (eq-eqb (length terms.commitment) 32 l, o, p) (judges terms x a)
