-- A field that is not there is a refusal; with all there and nothing after them the answer has their contents.
use mathlib.Core.Path.{refl, sym, ap}
use Prim.Native.Nat.{ℕ, ◌+◌}
use native.Mathlib.Omega.{arith}
use Rattle.rules.specs.AnswerLaws.{passed_on}
use Rattle.record.proofs.ParseCases.{no_field, not_there, then_not, refused_code, no_record, one_more, placed, back}
use Rattle.record.proofs.ParseCases.{entry_path_after, record_there}
use Rattle.record.proofs.form.parse.Goals as goal

pub returns-in_err-commitment : goal.returns-in_err-commitment
returns-in_err-commitment c =
    let r = c.args.record.now in
    let n = no_field r c.args.record (passed_on _ _ c.from_residual.ensures.1) (refused_code r _ _
    c.in_err-commitment.ensures.0 c.in_err-commitment.ensures.1) (not_there r _ _ _ c.in_err-commitment.ensures.0) in
    record { places = n.0; contents = n.1; segment_path_in = n.2; entry_path_in = n.3 }

pub returns-in_err-offset : goal.returns-in_err-offset
returns-in_err-offset c =
    let r = c.args.record.now in
    let n = no_field r c.args.record (passed_on _ _ c.from_residual-in_err-offset.ensures.1) (refused_code r _ _
    c.in_err-offset.ensures.0 c.in_err-offset.ensures.1) (then_not r _ _ _ c.in_ok-commitment.ensures.0 (not_there r
    _ _ _ c.in_err-offset.ensures.0)) in
    record { places = n.0; contents = n.1; segment_path_in = n.2; entry_path_in = n.3 }

pub returns-in_err-size : goal.returns-in_err-size
returns-in_err-size c =
    let r = c.args.record.now in
    let n = no_field r c.args.record (passed_on _ _ c.from_residual-in_err-size.ensures.1) (refused_code r _ _
    c.in_err-size.ensures.0 c.in_err-size.ensures.1) (then_not r _ _ _ c.in_ok-commitment.ensures.0 (then_not r _ _
    _ c.in_ok-offset.ensures.0 (not_there r _ _ _ c.in_err-size.ensures.0))) in
    record { places = n.0; contents = n.1; segment_path_in = n.2; entry_path_in = n.3 }

pub returns-in_err-place : goal.returns-in_err-place
returns-in_err-place c =
    let r = c.args.record.now in
    let n = no_field r c.args.record (passed_on _ _ c.from_residual-in_err-place.ensures.1) (refused_code r _ _
    c.in_err-place.ensures.0 c.in_err-place.ensures.1) (then_not r _ _ _ c.in_ok-commitment.ensures.0 (then_not r _
    _ _ c.in_ok-offset.ensures.0 (then_not r _ _ _ c.in_ok-size.ensures.0 (not_there r _ _ _
    c.in_err-place.ensures.0)))) in
    record { places = n.0; contents = n.1; segment_path_in = n.2; entry_path_in = n.3 }

pub returns-in_err-segment_path : goal.returns-in_err-segment_path
returns-in_err-segment_path c =
    let r = c.args.record.now in
    let n = no_field r c.args.record (passed_on _ _ c.from_residual-in_err-segment_path.ensures.1) (refused_code r _ _
    c.in_err-segment_path.ensures.0 c.in_err-segment_path.ensures.1) (then_not r _ _ _ c.in_ok-commitment.ensures.0
    (then_not r _ _ _ c.in_ok-offset.ensures.0 (then_not r _ _ _ c.in_ok-size.ensures.0 (then_not r _ _ _
    c.in_ok-place.ensures.0 (not_there r _ _ _ c.in_err-segment_path.ensures.0))))) in
    record { places = n.0; contents = n.1; segment_path_in = n.2; entry_path_in = n.3 }

pub returns-in_err-entry_path : goal.returns-in_err-entry_path
returns-in_err-entry_path c =
    let r = c.args.record.now in
    let n = no_field r c.args.record (passed_on _ _ c.from_residual-in_err-entry_path.ensures.1) (refused_code r _ _
    c.in_err-entry_path.ensures.0 c.in_err-entry_path.ensures.1) (then_not r _ _ _ c.in_ok-commitment.ensures.0
    (then_not r _ _ _ c.in_ok-offset.ensures.0 (then_not r _ _ _ c.in_ok-size.ensures.0 (then_not r _ _ _
    c.in_ok-place.ensures.0 (then_not r _ _ _ c.in_ok-segment_path.ensures.0 (not_there r _ _ _
    c.in_err-entry_path.ensures.0)))))) in
    record { places = n.0; contents = n.1; segment_path_in = n.2; entry_path_in = n.3 }

pub returns-in_err-number : goal.returns-in_err-number
returns-in_err-number c =
    let r = c.args.record.now in
    let n = no_field r c.args.record (passed_on _ _ c.from_residual-in_err-number.ensures.1) (refused_code r _ _
    c.in_err-number.ensures.0 c.in_err-number.ensures.1) (then_not r _ _ _ c.in_ok-commitment.ensures.0 (then_not r
    _ _ _ c.in_ok-offset.ensures.0 (then_not r _ _ _ c.in_ok-size.ensures.0 (then_not r _ _ _
    c.in_ok-place.ensures.0 (then_not r _ _ _ c.in_ok-segment_path.ensures.0 (then_not r _ _ _
    c.in_ok-entry_path.ensures.0 (not_there r _ _ _ c.in_err-number.ensures.0))))))) in
    record { places = n.0; contents = n.1; segment_path_in = n.2; entry_path_in = n.3 }

pub returns-then-number-record : goal.returns-then-number-record
returns-then-number-record c =
    let r = c.args.record.now in
    let n = no_record r refl (one_more r c.in_ok-commitment.ensures.0 c.in_ok-offset.ensures.0
    c.in_ok-size.ensures.0 c.in_ok-place.ensures.0 c.in_ok-segment_path.ensures.0 c.in_ok-entry_path.ensures.0
    c.in_ok-number.ensures.0 c.if-number-record.true) in
    record { places = n.0; contents = n.1; segment_path_in = tt; entry_path_in = tt }

pub array_at-requires : goal.array_at-requires
array_at-requires c = (
  omega arith,
  (placed c.args.record.now c.in_ok-commitment.ensures.0 c.in_ok-offset.ensures.0
      c.in_ok-size.ensures.0 c.in_ok-place.ensures.0 c.in_ok-segment_path.ensures.0 c.in_ok-entry_path.ensures.0
      c.in_ok-number.ensures.0).commitment_within,
)

pub read_u64-requires : goal.read_u64-requires
read_u64-requires c = (placed c.args.record.now c.in_ok-commitment.ensures.0 c.in_ok-offset.ensures.0
    c.in_ok-size.ensures.0 c.in_ok-place.ensures.0 c.in_ok-segment_path.ensures.0 c.in_ok-entry_path.ensures.0
    c.in_ok-number.ensures.0).offset_within

pub read_u64-requires-2 : goal.read_u64-requires-2
read_u64-requires-2 c = (placed c.args.record.now c.in_ok-commitment.ensures.0 c.in_ok-offset.ensures.0
    c.in_ok-size.ensures.0 c.in_ok-place.ensures.0 c.in_ok-segment_path.ensures.0 c.in_ok-entry_path.ensures.0
    c.in_ok-number.ensures.0).size_within

pub read_u64-requires-3 : goal.read_u64-requires-3
read_u64-requires-3 c = (placed c.args.record.now c.in_ok-commitment.ensures.0 c.in_ok-offset.ensures.0
    c.in_ok-size.ensures.0 c.in_ok-place.ensures.0 c.in_ok-segment_path.ensures.0 c.in_ok-entry_path.ensures.0
    c.in_ok-number.ensures.0).place_within

pub read_u64-requires-4 : goal.read_u64-requires-4
read_u64-requires-4 c = (placed c.args.record.now c.in_ok-commitment.ensures.0 c.in_ok-offset.ensures.0
    c.in_ok-size.ensures.0 c.in_ok-place.ensures.0 c.in_ok-segment_path.ensures.0 c.in_ok-entry_path.ensures.0
    c.in_ok-number.ensures.0).number_within

pub slice_bounds-result-count : goal.slice_bounds-result-count
slice_bounds-result-count c = let p = placed c.args.record.now c.in_ok-commitment.ensures.0 c.in_ok-offset.ensures.0
    c.in_ok-size.ensures.0 c.in_ok-place.ensures.0 c.in_ok-segment_path.ensures.0 c.in_ok-entry_path.ensures.0
    c.in_ok-number.ensures.0 in omega arith

pub slice_bounds-result-start : goal.slice_bounds-result-start
slice_bounds-result-start c = let p = placed c.args.record.now c.in_ok-commitment.ensures.0 c.in_ok-offset.ensures.0
    c.in_ok-size.ensures.0 c.in_ok-place.ensures.0 c.in_ok-segment_path.ensures.0 c.in_ok-entry_path.ensures.0
    c.in_ok-number.ensures.0 in omega arith

pub slice_bounds-result-count-2 : goal.slice_bounds-result-count-2
slice_bounds-result-count-2 c = let p = placed c.args.record.now c.in_ok-commitment.ensures.0
    c.in_ok-offset.ensures.0 c.in_ok-size.ensures.0 c.in_ok-place.ensures.0 c.in_ok-segment_path.ensures.0
    c.in_ok-entry_path.ensures.0 c.in_ok-number.ensures.0 in omega arith

pub slice_bounds-result-start-2 : goal.slice_bounds-result-start-2
slice_bounds-result-start-2 c = let p = placed c.args.record.now c.in_ok-commitment.ensures.0
    c.in_ok-offset.ensures.0 c.in_ok-size.ensures.0 c.in_ok-place.ensures.0 c.in_ok-segment_path.ensures.0
    c.in_ok-entry_path.ensures.0 c.in_ok-number.ensures.0 in omega arith

pub returns : goal.returns
returns c =
    let r = c.args.record.now in
    let at = c.args.record.ref_ptr.1 in
    let p = record_there r c.in_ok-commitment.ensures.0 c.in_ok-offset.ensures.0
    c.in_ok-size.ensures.0 c.in_ok-place.ensures.0 c.in_ok-segment_path.ensures.0 c.in_ok-entry_path.ensures.0
    c.in_ok-number.ensures.0 c.if-number-record.false c.array_at.ensures c.read_u64.ensures
    c.read_u64-2.ensures c.read_u64-3.ensures (back _ at) refl (back _ at) refl c.read_u64-4.ensures in
    let q = placed r c.in_ok-commitment.ensures.0 c.in_ok-offset.ensures.0
    c.in_ok-size.ensures.0 c.in_ok-place.ensures.0 c.in_ok-segment_path.ensures.0 c.in_ok-entry_path.ensures.0
    c.in_ok-number.ensures.0 in
    let after = entry_path_after r c.in_ok-commitment.ensures.0 c.in_ok-offset.ensures.0
    c.in_ok-size.ensures.0 c.in_ok-place.ensures.0 c.in_ok-segment_path.ensures.0 c.in_ok-entry_path.ensures.0
    c.in_ok-number.ensures.0 in
    record {
      places = p.0;
      contents = p.1;
      segment_path_in = (refl, ap (λ (k : ℕ). k + at) (sym q.segment_path_at));
      entry_path_in = (refl, ap (λ (k : ℕ). k + at) after);
    }
