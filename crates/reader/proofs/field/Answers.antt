-- A turn passes one field, or meets the refusal, which is then each later field.
use Rattle.std.proofs.Common.{◌≡◌, ℕ, zero, suc, ◌+◌, ◌-◌, ◌≤◌, ◌<◌, List, refl, sym, ap, ◌∙◌, arith}
use Rattle.std.proofs.Math.Nat.{sub-zero}
use Rattle.rules.specs.Answers.{number, code_of}
use Rattle.rules.specs.AnswerLaws.{answer_passed_on, code_passed_on}
use Rattle.rules.specs.Refusals.{first_refusal}
use Rattle.fields.specs.FieldAt.{Field, Content, Refused, content, field_at, field_rules}
use Rattle.reader.specs.Reader.{next_place, place_after}
use Rattle.reader.proofs.field.Goals as goal

-- no field is left to pass
none_left : (number counter : ℕ) (r : List ℕ) (at : ℕ) → number ≤ counter → place_after (number - counter) r at ≡ at
unfolding place_after
none_left number counter r at h = let z : number - counter ≡ 0 = omega arith in ap (λ (n : ℕ). place_after n r at) z

-- one field is passed
one_passed : (number counter : ℕ) (r : List ℕ) (at : ℕ) → counter < number
    → place_after (number - (counter + 1)) r (next_place (field_at r at) at) ≡ place_after (number - counter) r at
unfolding place_after
one_passed number counter r at h =
    let s : suc (number - (counter + 1)) ≡ number - counter = omega arith in
    ap (λ (n : ℕ). place_after n r at) s

-- after the refusal every field is that refusal
stays_refused : (n : ℕ) (r : List ℕ) (at : ℕ) → field_at r at ≡ Refused → place_after n r at ≡ at
unfolding place_after
stays_refused zero r at e = refl
stays_refused (suc n) r at e = ap (λ (x : Field). place_after n r (next_place x at)) e ∙ stays_refused n r at e

pub loop-init : goal.loop-init
loop-init c =
    let a = c.args in
    let e = c.new-reader.ensures in
    rw e (refl, ap (λ (n : ℕ). place_after n a.bytes.now 0) (sub-zero a.number))

pub returns-in_err-next_field : goal.returns-in_err-next_field
returns-in_err-next_field c =
    let a = c.args in
    let l = c.loop in
    let e = c.in_err-next_field.ensures.0 in
    let f : field_at a.bytes.now l.reader.place ≡ Refused = sym (rw l.invariant.0 at e) in
    let code : number c.in_err-next_field.field-0.0 ≡ first_refusal (field_rules a.bytes.now l.reader.place) =
    rw l.invariant.0 at c.in_err-next_field.ensures.1 in
    let there = sym (stays_refused (a.number - l.counter) a.bytes.now l.reader.place f) ∙ l.invariant.1 in (
      answer_passed_on c.from_residual.result c.in_err-next_field.field-0.0 content (λ code. Refused) c.from_residual.ensures.1
          ∙ sym f
          ∙ ap (field_at a.bytes.now) there,
      code_passed_on c.from_residual.result c.in_err-next_field.field-0.0 c.from_residual.ensures.1
          ∙ code
          ∙ ap (λ (at : ℕ). first_refusal (field_rules a.bytes.now at)) there,
    )

pub loop-preserved : goal.loop-preserved
loop-preserved c =
    let a = c.args in
    let l = c.loop in
    let m = c.in_ok-next_field.ensures.2 in (
      rw m l.invariant.0,
      rw (m, l.invariant.0)
          (one_passed a.number l.counter a.bytes.now l.reader.place c.loop-test.true ∙ l.invariant.1),
    )

pub returns : goal.returns
returns c =
    let a = c.args in
    let l = c.loop in
    let there =
    sym (none_left a.number l.counter a.bytes.now l.reader.place (omega arith)) ∙ l.invariant.1 in
    let code : code_of c.next_field-2.result ≡ first_refusal (field_rules a.bytes.now l.reader.place) =
    rw l.invariant.0 at c.next_field-2.ensures.1 in (
      rw l.invariant.0 at c.next_field-2.ensures.0 ∙ ap (field_at a.bytes.now) there,
      code ∙ ap (λ (at : ℕ). first_refusal (field_rules a.bytes.now at)) there,
    )
