-- Parsing field by field: the refusal at a field that is not there, and the answer where all are.
use mathlib.Core.Path.{◌≡◌, sym, ap, ◌∙◌}
use Prim.Native.Nat.{ℕ, ◌+◌, ◌-◌, ◌≤◌, ◌<◌}
use native.Mathlib.Omega.{arith}
use mathlib.Core.List.{List, [], ◌∷◌}
use lib.ListN.{length, take, drop}
use borrow.Author.Tests.{eqb-true, le-leb, lt-leb}
use Rattle.std.specs.Prelude.{Result, Err, IfOk}
use Rattle.std.specs.Borrow.{Bor}
use Rattle.rules.specs.Answers.{number}
use Rattle.rules.specs.Refusals.{first_refusal}
use Rattle.rules.specs.declared.Refusal.{Refusal}
use Rattle.octets.specs.LittleEndian.{number_of}
use Rattle.octets.specs.Splice.{part}
use Rattle.octets.specs.SpliceLaws.{part_length, part_range}
use Rattle.fields.specs.FieldAt.{Content, Refused, field_for, field_code, row_rules}
use Rattle.fields.specs.FieldAtLaws.{is_field, row_code_lem}
use Rattle.fields.specs.Spans.{spans, misplaced, spans_from}
use Rattle.fields.specs.declared.FieldRule.{FieldRule}
use Rattle.record.specs.Form.{layout, table_row, parsed, broken, parse, fields}
use Rattle.record.specs.ParsedRecord.{ParsedRecord, unread, read_at, parsed_record}
use Rattle.record.specs.Answers.{parsed_of, record_answer, SegmentPathIn, EntryPathIn}
use Rattle.record.specs.declared.ParsedRecord.{ParsedRecord as Read}
use Rattle.record.specs.ParsedRecordLaws.{fields_at, record_read, not_read}

-- a place counted from where the lent bytes begin
pub back : (n at : ℕ) → (n + at) - at ≡ n
back n at = omega arith

module _ (r : List ℕ) where
  -- the first field of a table, with the spans of the others
  module _ (f : FieldRule) (fs : List FieldRule) (at : ℕ) where
    pub not_there : Refused ≡ field_for f r at → spans_from (f ∷ fs) r at ≡ misplaced
    unfolding spans_from
    not_there e = rw (← e)

    module _ {tag start n next : ℕ} (e : Content tag start n next ≡ field_for f r at) where
      pub then_not : spans_from fs r next ≡ misplaced → spans_from (f ∷ fs) r at ≡ misplaced
      unfolding spans_from
      then_not h = rw (← e, h)

      pub then_there : {ss ns : List ℕ} → spans_from fs r next ≡ spans ss ns
          → spans_from (f ∷ fs) r at ≡ spans (start ∷ ss) (n ∷ ns)
      unfolding spans_from
      then_there h = rw (← e, h)

  pub nothing_after : {at : ℕ} → length r ≤ at → spans_from [] r at ≡ spans [] []
  unfolding spans_from
  nothing_after {at} h = rw (le-leb (length r) at h)

  pub more_after : {at : ℕ} → at < length r → spans_from [] r at ≡ misplaced
  unfolding spans_from
  more_after {at} h = rw (lt-leb (length r) at h)

  -- the number of a field's refusal
  pub refused_code : (f : FieldRule) (at : ℕ) {code : ℕ} → Refused ≡ field_for f r at
      → code ≡ first_refusal (row_rules f r at) → code ≡ 3
  refused_code f at e j = j ∙ sym (row_code_lem f r at) ∙ ap field_code (sym e)

  -- a refusal
  pub no_record : {code : ℕ} → code ≡ 3 → spans_from layout r 0 ≡ misplaced
      → (unread code ≡ parsed_record r) × (broken ≡ parse r)
  unfolding parsed_record
  no_record {code} c m =
      let u : read_at r (spans_from layout r 0) ≡ unread 3 = ap (read_at r) m in
      let p : parsed_record r ≡ unread 3 = u in
      (ap unread c ∙ sym u, sym (not_read r (λ z. absurd (omega (arith, ap (λ (y : ParsedRecord). y.code) p)))).1)

  -- the refusal of a field, passed on
  pub no_field : (lent : Bor (List ℕ)) {x : Result Read Refusal} {e : Refusal} → x ≡ Err e → number e ≡ 3
      → spans_from layout r 0 ≡ misplaced
      → (record_answer lent x ≡ parsed_record r) × (parsed_of x ≡ parse r)
      × IfOk x (λ y. SegmentPathIn lent y) × IfOk x (λ y. EntryPathIn lent y)
  no_field lent p c m = let n = no_record c m in rw p (n.0, n.1, tt, tt)

  -- all fields, one behind another
  module _ {t0 s0 n0 x0 t1 s1 n1 x1 t2 s2 n2 x2 t3 s3 n3 x3 t4 s4 n4 x4 t5 s5 n5 x5 t6 s6 n6 x6 : ℕ}
      (e0 : Content t0 s0 n0 x0 ≡ field_for (table_row 0) r 0)
      (e1 : Content t1 s1 n1 x1 ≡ field_for (table_row 1) r x0)
      (e2 : Content t2 s2 n2 x2 ≡ field_for (table_row 2) r x1)
      (e3 : Content t3 s3 n3 x3 ≡ field_for (table_row 3) r x2)
      (e4 : Content t4 s4 n4 x4 ≡ field_for (table_row 4) r x3)
      (e5 : Content t5 s5 n5 x5 ≡ field_for (table_row 5) r x4)
      (e6 : Content t6 s6 n6 x6 ≡ field_for (table_row 6) r x5) where
    pub all_there : length r ≤ x6 → spans_from layout r 0
        ≡ spans (s0 ∷ s1 ∷ s2 ∷ s3 ∷ s4 ∷ s5 ∷ s6 ∷ []) (n0 ∷ n1 ∷ n2 ∷ n3 ∷ n4 ∷ n5 ∷ n6 ∷ [])
    all_there h =
        then_there _ _ _ e0 (then_there _ _ _ e1 (then_there _ _ _ e2 (then_there _ _ _ e3 (then_there _ _ _ e4
        (then_there _ _ _ e5 (then_there _ _ _ e6 (nothing_after h)))))))

    pub one_more : x6 < length r → spans_from layout r 0 ≡ misplaced
    one_more h =
        then_not _ _ _ e0 (then_not _ _ _ e1 (then_not _ _ _ e2 (then_not _ _ _ e3 (then_not _ _ _ e4
        (then_not _ _ _ e5 (then_not _ _ _ e6 (more_after h)))))))

    pub record Placed : Type 0 where
      pub commitment_32 : n0 ≡ 32
      pub offset_8 : n1 ≡ 8
      pub size_8 : n2 ≡ 8
      pub place_8 : n3 ≡ 8
      pub number_8 : n6 ≡ 8
      pub commitment_within : s0 + 32 ≤ length r
      pub offset_within : s1 + 8 ≤ length r
      pub size_within : s2 + 8 ≤ length r
      pub place_within : s3 + 8 ≤ length r
      pub number_within : s6 + 8 ≤ length r
      pub segment_path_at : 71 ≡ s4
      pub segment_path_end : x4 ≡ s4 + n4
      pub segment_path_within : s4 + n4 ≤ length r
      pub entry_path_at : 74 + n4 ≡ s5
      pub entry_path_end : x5 ≡ s5 + n5
      pub entry_path_within : s5 + n5 ≤ length r

    pub placed : Placed
    placed =
        let f0 = is_field (table_row 0) r 0 t0 s0 n0 x0 (sym e0) in
        let f1 = is_field (table_row 1) r x0 t1 s1 n1 x1 (sym e1) in
        let f2 = is_field (table_row 2) r x1 t2 s2 n2 x2 (sym e2) in
        let f3 = is_field (table_row 3) r x2 t3 s3 n3 x3 (sym e3) in
        let f4 = is_field (table_row 4) r x3 t4 s4 n4 x4 (sym e4) in
        let f5 = is_field (table_row 5) r x4 t5 s5 n5 x5 (sym e5) in
        let f6 = is_field (table_row 6) r x5 t6 s6 n6 x6 (sym e6) in
        let l0 : n0 ≡ 32 = eqb-true n0 32 f0.length_allowed_lem in
        let l1 : n1 ≡ 8 = eqb-true n1 8 f1.length_allowed_lem in
        let l2 : n2 ≡ 8 = eqb-true n2 8 f2.length_allowed_lem in
        let l3 : n3 ≡ 8 = eqb-true n3 8 f3.length_allowed_lem in
        let l6 : n6 ≡ 8 = eqb-true n6 8 f6.length_allowed_lem in
        record {
          commitment_32 = l0;
          offset_8 = l1;
          size_8 = l2;
          place_8 = l3;
          number_8 = l6;
          commitment_within = omega (arith, f0.next_is, f0.within);
          offset_within = omega (arith, f1.next_is, f1.within);
          size_within = omega (arith, f2.next_is, f2.within);
          place_within = omega (arith, f3.next_is, f3.within);
          number_within = omega (arith, f6.next_is, f6.within);
          segment_path_at = omega (
            arith,
            f0.next_is,
            f1.next_is,
            f2.next_is,
            f3.next_is,
            f0.start_is,
            f1.start_is,
            f2.start_is,
            f3.start_is,
            f4.start_is,
          );
          segment_path_end = f4.next_is;
          segment_path_within = omega (arith, f4.next_is, f4.within);
          entry_path_at = omega (
            arith,
            f0.next_is,
            f1.next_is,
            f2.next_is,
            f3.next_is,
            f0.start_is,
            f1.start_is,
            f2.start_is,
            f3.start_is,
            f4.start_is,
            f4.next_is,
            f5.start_is,
          );
          entry_path_end = f5.next_is;
          entry_path_within = omega (arith, f5.next_is, f5.within);
        }

    -- the bytes of the segment path, and the place of the entry path behind them
    segment_path_part : take (x4 - s4) (drop s4 r) ≡ part r s4 n4
    segment_path_part = ap (λ (k : ℕ). take (k - s4) (drop s4 r)) placed.segment_path_end ∙ part_range r s4 n4

    segment_path_length : length (take (x4 - s4) (drop s4 r)) ≡ n4
    segment_path_length = ap length segment_path_part ∙ part_length r s4 n4 placed.segment_path_within

    pub entry_path_after : s5 ≡ 74 + length (take (x4 - s4) (drop s4 r))
    entry_path_after = omega (arith, placed.entry_path_at, segment_path_length)

    pub record_there : {commitment u v : List ℕ} {offset size place number at_u at_v : ℕ} → length r ≤ x6
        → commitment ≡ part r s0 32 → offset ≡ number_of (part r s1 8) → size ≡ number_of (part r s2 8)
        → place ≡ number_of (part r s3 8) → at_u ≡ s4 → u ≡ take (x4 - s4) (drop s4 r) → at_v ≡ s5
        → v ≡ take (x5 - s5) (drop s5 r) → number ≡ number_of (part r s6 8)
        → (◌≡◌ {A = ParsedRecord}
        (record {
          code = 0;
          commitment = commitment;
          offset = offset;
          size = size;
          place = place;
          segment_path = at_u;
          segment_path_length = length u;
          entry_path = at_v;
          entry_path_length = length v;
          number = number;
        })
        (parsed_record r))
        × (parsed (fields commitment offset size place u v number) ≡ parse r)
    unfolding parsed_record
    record_there {commitment} {u} {v} {offset} {size} {place} {number} h ec eo es ep au eu av ev en =
        let p = placed in
        let q : parsed_record r ≡ read_at r
        (spans (s0 ∷ s1 ∷ s2 ∷ s3 ∷ s4 ∷ s5 ∷ s6 ∷ []) (n0 ∷ n1 ∷ n2 ∷ n3 ∷ n4 ∷ n5 ∷ n6 ∷ [])) =
        ap (read_at r) (all_there h) in
        let c : commitment ≡ part r s0 n0 = ec ∙ ap (part r s0) (sym p.commitment_32) in
        let o : offset ≡ number_of (part r s1 n1) = eo ∙ ap (λ (k : ℕ). number_of (part r s1 k)) (sym p.offset_8) in
        let s : size ≡ number_of (part r s2 n2) = es ∙ ap (λ (k : ℕ). number_of (part r s2 k)) (sym p.size_8) in
        let a : place ≡ number_of (part r s3 n3) = ep ∙ ap (λ (k : ℕ). number_of (part r s3 k)) (sym p.place_8) in
        let m : number ≡ number_of (part r s6 n6) = en ∙ ap (λ (k : ℕ). number_of (part r s6 k)) (sym p.number_8) in
        let pu : u ≡ part r s4 n4 = eu ∙ segment_path_part in
        let pv : v ≡ part r s5 n5 =
        ev ∙ ap (λ (k : ℕ). take (k - s5) (drop s5 r)) p.entry_path_end ∙ part_range r s5 n5 in
        let lu : length u ≡ n4 = ap length eu ∙ segment_path_length in
        let lv : length v ≡ n5 = ap length pv ∙ part_length r s5 n5 p.entry_path_within in
        let z : (parsed_record r).code ≡ 0 = ap (λ (y : ParsedRecord). y.code) q in (
          (λ i. record {
            code = 0;
            commitment = c i;
            offset = o i;
            size = s i;
            place = a i;
            segment_path = au i;
            segment_path_length = lu i;
            entry_path = av i;
            entry_path_length = lv i;
            number = m i;
          }) ∙ sym q,
          (λ i. parsed (fields (c i) (o i) (s i) (a i) (pu i) (pv i) (m i)))
              ∙ ap (λ (y : ParsedRecord). parsed (fields_at r y)) (sym q) ∙ sym (record_read r z),
        )
