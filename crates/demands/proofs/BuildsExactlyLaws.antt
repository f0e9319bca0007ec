-- Building writes exactly a record where that is the record at the place, with the deal's number.
use Rattle.std.specs.Prelude.{◌≡◌, refl, Bool, true, false, ℕ, zero, suc, List, length, leb}
use Rattle.std.proofs.Common.{sym, ap, ◌∙◌, arith, le-leb}
use Rattle.rules.specs.Choice.{choose}
use Rattle.rules.specs.Refusals.{first_refusal, unless_refused}
use Rattle.octets.specs.Splice.{splice}
use Rattle.octets.specs.SpliceLaws.{splice_whole}
use Rattle.index.specs.Slots.{entry_at}
use Rattle.record.specs.Form.{encode}
use Rattle.lent.specs.LentDeal.{LentDeal}
use Rattle.builder.specs.Build.{fields_for, built, not_built, build_rules, record_at}
use Rattle.builder.specs.Build.{answer_for, output_for, build_answer, build_output}
use Rattle.builder.specs.Build.{BuildAnswer}
use Rattle.demands.specs.BuildsExactly.{BuildsExactly}

pub builds_exactly : (deal : LentDeal) (number place : ℕ) (r : List ℕ) → record_at deal number place ≡ built r
    → BuildsExactly deal number place r
unfolding build_answer build_output
builds_exactly deal number place r e out h = rw (e, le-leb (length r) (length out) h) (refl, refl)

chosen : (b : Bool) (r s : List ℕ)
    → choose {A = BuildAnswer} b (record { code = 0; length = length s }) (record { code = 12; length = 0 })
    ≡ record { code = 0; length = length r }
    → choose b (splice r 0 s) r ≡ splice r 0 r → s ≡ r
chosen true r s e f =
    let l : length s ≡ length r = ap (λ (a : BuildAnswer). a.length) e in
    sym (splice_whole r s (sym l)) ∙ f ∙ splice_whole r r refl
chosen false r s e f = let z : ◌≡◌ {A = ℕ} 12 0 = ap (λ (a : BuildAnswer). a.code) e in absurd (omega arith)

pub exactly_builds : (deal : LentDeal) (number place : ℕ) (r : List ℕ) → BuildsExactly deal number place r
    → record_at deal number place ≡ built r
unfolding build_answer build_output record_at
exactly_builds deal number place r b =
    go (first_refusal (build_rules deal place)) (b r (omega arith)).0 (b r (omega arith)).1
  where
    s : List ℕ
    s = encode (fields_for deal number (entry_at deal.bytes place) place)

    go : (code : ℕ) → answer_for (unless_refused code not_built (built s)) r ≡ record { code = 0; length = length r }
        → output_for (unless_refused code not_built (built s)) r ≡ splice r 0 r
        → unless_refused code not_built (built s) ≡ built r
    go zero e f = ap built (chosen (leb (length s) (length r)) r s e f)
    go (suc code) e f = let z : suc code ≡ 0 = ap (λ (a : BuildAnswer). a.code) e in absurd (omega arith)
