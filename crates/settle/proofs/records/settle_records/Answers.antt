-- The first record's refusal, the second's, 18 for different places; then the entry parts decide where they differ, and
-- else the segment parts.
use mathlib.Core.Path.{◌≡◌, sym, ap, ◌∙◌}
use Prim.Native.Nat.{ℕ}
use native.Mathlib.Omega.{arith}
use mathlib.Core.List.{List}
use Rattle.octets.specs.Bytes.{bytes_of_slice}
use Rattle.rules.specs.AnswerLaws.{passed_on, number_some}
use Rattle.paths.specs.declared.Compared.{Compared}
use Rattle.sizes.specs.Sizes.{entry_position}
use Rattle.record.specs.Form.{Fields, parsed, parse}
use Rattle.record.specs.Answers.{read_fields}
use Rattle.record.specs.Check.{DealTerms, deal_terms, entry_for, check_of}
use Rattle.settle.specs.Answers.{settled_answer}
use Rattle.settle.specs.AcceptedRecord.{AcceptedRecord}
use Rattle.settle.specs.Comparing.{entries_compared, segments_compared}
use Rattle.settle.proofs.Answers.{some_differs, none_differs}
use Rattle.settle.proofs.RecordsCases.{first_refused, second_refused, other_place, entry_paths, area_there, entries_differ}
use Rattle.settle.proofs.RecordsCases.{segment_paths, entries_same}
use Rattle.settle.proofs.records.settle_records.Goals as goal

-- a record that was accepted
taken : {terms : DealTerms} {r : List ℕ} {x : Fields} → 0 ≡ check_of terms r → parse r ≡ parsed x
    → AcceptedRecord terms r x
taken e p = record { parsed_is = p; checked = sym e }

-- what was found, by the fields of the two records
found_is : (x y : Fields) {found : Compared} {e f : List ℕ}
    → found ≡ entries_compared (entry_position x.place) e x.entry_path f y.entry_path
    → e ≡ entry_for x → f ≡ entry_for y
    → found ≡ entries_compared (entry_position x.place) (entry_for x) x.entry_path (entry_for y) y.entry_path
found_is x y found e f =
    found ∙ (λ i. entries_compared (entry_position x.place) (e i) x.entry_path (f i) y.entry_path)

pub returns-in_err-x : goal.returns-in_err-x
returns-in_err-x c =
    let a = c.args in
    ap settled_answer (passed_on _ _ c.from_residual.ensures.1)
    ∙ first_refused (deal_terms a.commitment.now a.size a.number) a.first.now a.second.now c.in_err-x.ensures.code
    (λ z. let s = number_some c.in_err-x.field-0.0 in absurd (omega arith))

pub returns-in_err-y : goal.returns-in_err-y
returns-in_err-y c =
    let a = c.args in
    ap settled_answer (passed_on _ _ c.from_residual-in_err-y.ensures.1)
    ∙ second_refused (deal_terms a.commitment.now a.size a.number) a.first.now a.second.now
    (sym c.in_ok-x.ensures.code) c.in_err-y.ensures.code
    (λ z. let s = number_some c.in_err-y.field-0.0 in absurd (omega arith))

pub returns-then-x-y : goal.returns-then-x-y
returns-then-x-y c =
    let p = taken c.in_ok-x.ensures.code c.in_ok-x.ensures.fields in
    let q = taken c.in_ok-y.ensures.code c.in_ok-y.ensures.fields in
    other_place p q c.if-x-y.true

pub compare_entries-found-requires : goal.compare_entries-found-requires
compare_entries-found-requires c =
    let p = taken c.in_ok-x.ensures.code c.in_ok-x.ensures.fields in
    let q = taken c.in_ok-y.ensures.code c.in_ok-y.ensures.fields in
    entry_paths p q

pub returns-then-is_some : goal.returns-then-is_some
returns-then-is_some c =
    let p = taken c.in_ok-x.ensures.code c.in_ok-x.ensures.fields in
    let q = taken c.in_ok-y.ensures.code c.in_ok-y.ensures.fields in
    let x = read_fields c.in_ok-x.x in
    let y = read_fields c.in_ok-y.y in
    let found = found_is x y c.compare_entries-found.ensures c.entry_for-entry.ensures c.entry_for-other.ensures in
    entries_differ p q c.if-x-y.false _ found (some_differs _ (sym c.is_some.ensures ∙ c.if-is_some.true))

pub segment_position-position-requires : goal.segment_position-position-requires
segment_position-position-requires c =
    let p = taken c.in_ok-x.ensures.code c.in_ok-x.ensures.fields in
    let q = taken c.in_ok-y.ensures.code c.in_ok-y.ensures.fields in
    area_there p q

pub compare_segments-requires : goal.compare_segments-requires
compare_segments-requires c =
    let a = c.args in
    let p = taken c.in_ok-x.ensures.code c.in_ok-x.ensures.fields in
    let q = taken c.in_ok-y.ensures.code c.in_ok-y.ensures.fields in
    let x = read_fields c.in_ok-x.x in
    let y = read_fields c.in_ok-y.y in
    let found = found_is x y c.compare_entries-found.ensures c.entry_for-entry.ensures c.entry_for-other.ensures in
    segment_paths p q c.if-x-y.false _ found (bytes_of_slice a.first.now c.type_inv.first)
    (bytes_of_slice a.second.now c.type_inv.second) (none_differs _ (sym c.is_some.ensures ∙ c.if-is_some.false))

pub returns : goal.returns
returns c =
    let a = c.args in
    let p = taken c.in_ok-x.ensures.code c.in_ok-x.ensures.fields in
    let q = taken c.in_ok-y.ensures.code c.in_ok-y.ensures.fields in
    let x = read_fields c.in_ok-x.x in
    let y = read_fields c.in_ok-y.y in
    let found = found_is x y c.compare_entries-found.ensures c.entry_for-entry.ensures c.entry_for-other.ensures in
    entries_same p q c.if-x-y.false _ found (bytes_of_slice a.first.now c.type_inv.first)
    (bytes_of_slice a.second.now c.type_inv.second) (none_differs _ (sym c.is_some.ensures ∙ c.if-is_some.false))
    (c.compare_segments.ensures
    ∙ (λ i. segments_compared (c.segment_position-position.ensures i) x.commitment x.segment_path y.commitment
    y.segment_path))
