-- Reading by places is reading in turn, for any table; and where the spans lie.
use Rattle.std.specs.Prelude.{◌≡◌, refl, Bool, true, false, ℕ, zero, suc, ◌+◌, ◌≤◌, ◌<◌, length, drop, get_or, eqb, leb}
use Rattle.std.proofs.Common.{sym, ap₂, ◌∙◌, arith, length-drop, drop-cons, eq-eqb, ne_eqb, leb-true, leb-false}
use Rattle.std.proofs.Math.Path.{ap}
use mathlib.Core.List.{List, [], ◌∷◌, ◌++◌, append_assoc}
use Rattle.rules.specs.Choice.{choose}
use Rattle.octets.specs.Splice.{part}
use Rattle.fields.specs.Table.{length_allowed, Contents, contents, malformed, add_content, on_taken}
use Rattle.fields.specs.Table.{read_contents}
use Rattle.fields.specs.FieldAt.{field_for}
use Rattle.fields.specs.FieldAtLaws.{taken_at, field_at_lem, is_field}
use Rattle.fields.specs.Spans.{Spans, spans, misplaced, before, on_field, spans_from, parts_of, contents_at}
use Rattle.fields.specs.declared.FieldRule.{FieldRule}
use Rattle.fields.specs.FieldAt.{Field}
use Rattle.fields.specs.FieldAt.{Content, Refused}

-- nothing after the last field
ends : (r : List ℕ) (at : ℕ) → eqb (length (drop at r)) 0 ≡ leb (length r) at
ends r at = go (leb (length r) at) refl
  where
    go : (t : Bool) → leb (length r) at ≡ t → eqb (length (drop at r)) 0 ≡ t
    go true q = let k : length r ≤ at = leb-true (length r) at q in
        eq-eqb (length (drop at r)) 0 (simp length-drop (omega arith))
    go false q = let k : at < length r = leb-false (length r) at q in
        ne_eqb (length (drop at r)) 0 (λ z. omega (arith, length-drop at r))

-- reading by places is reading in turn
pub contents_spans : (fs : List FieldRule) (r : List ℕ) (at : ℕ)
    → read_contents fs (drop at r) ≡ contents_at r (spans_from fs r at)
unfolding read_contents spans_from
contents_spans [] r at = rw (ends r at) (go (leb (length r) at))
  where
    go : (t : Bool) → choose t (contents []) malformed ≡ contents_at r (choose t (spans [] []) misplaced)
    go true = refl
    go false = refl
contents_spans (f ∷ fs) r at = rw (field_at_lem f r at) (go (λ next. contents_spans fs r next) (field_for f r at))
  where
    add : (start n : ℕ) (k : Contents) (x : Spans) → k ≡ contents_at r x
        → add_content (part r start n) k ≡ contents_at r (before (start ∷ []) (n ∷ []) x)
    add start n k (spans ss ns) e = rw e
    add start n k misplaced e = rw e

    go : ((next : ℕ) → read_contents fs (drop next r) ≡ contents_at r (spans_from fs r next)) → (x : Field)
        → on_taken (taken_at r x) (read_contents fs)
        ≡ contents_at r (on_field x (λ start n next. before (start ∷ []) (n ∷ []) (spans_from fs r next)))
    go later (Content tag start n next) = add start n (read_contents fs (drop next r)) (spans_from fs r next) (later next)
    go later Refused = refl

-- one field more
pub before_one : (ss ns : List ℕ) (start n : ℕ) (x : Spans)
    → before ss ns (before (start ∷ []) (n ∷ []) x) ≡ before (ss ++ (start ∷ [])) (ns ++ (n ∷ [])) x
before_one ss ns start n (spans ts ms) =
    ap₂ spans (sym (append_assoc ss (start ∷ []) ts)) (sym (append_assoc ns (n ∷ []) ms))
before_one ss ns start n misplaced = refl

module _ (fs : List FieldRule) (r : List ℕ) where
  pub spans_step : (row : FieldRule) (i at : ℕ) {tag start n next : ℕ} → i < length fs
      → field_for (get_or fs i row) r at ≡ Content tag start n next
      → spans_from (drop i fs) r at ≡ before (start ∷ []) (n ∷ []) (spans_from (drop (suc i) fs) r next)
  unfolding spans_from
  spans_step row i at h e = ap (λ (gs : List FieldRule). spans_from gs r at) (drop-cons fs i row h) ∙ rw e

  pub spans_refused : (row : FieldRule) (i at : ℕ) → i < length fs → field_for (get_or fs i row) r at ≡ Refused
      → spans_from (drop i fs) r at ≡ misplaced
  unfolding spans_from
  spans_refused row i at h e = ap (λ (gs : List FieldRule). spans_from gs r at) (drop-cons fs i row h) ∙ rw e

-- each span lies within the bytes, and has a length that its row allows
pub record Lies (f : FieldRule) (r : List ℕ) (start n : ℕ) : Type 0 where
  pub within : start + n ≤ length r
  pub allowed : length_allowed f.length n ≡ true

never_spans : {A : Type 0} {ss ns : List ℕ} → misplaced ≡ spans ss ns → A
never_spans e = let z : ◌≡◌ {A = ℕ} 0 1 = cc in absurd (omega arith)

abbrev Later : List FieldRule → List ℕ → FieldRule → Type 0
Later fs r row = (at : ℕ) (ss ns : List ℕ) → spans_from fs r at ≡ spans ss ns → (i : ℕ) → i < length fs
    → Lies (get_or fs i row) r (get_or ss i 0) (get_or ns i 0)

module _ (f : FieldRule) (fs : List FieldRule) (r : List ℕ) (row : FieldRule)
    (later : Later fs r row) {ss ns : List ℕ} where
  lies_after : (start n next : ℕ) → start + n ≤ length r → length_allowed f.length n ≡ true → (x : Spans)
      → spans_from fs r next ≡ x
      → before (start ∷ []) (n ∷ []) x ≡ spans ss ns → (i : ℕ) → i < length (f ∷ fs)
      → Lies (get_or (f ∷ fs) i row) r (get_or ss i 0) (get_or ns i 0)
  lies_after start n next w a misplaced q u i k = never_spans u
  lies_after start n next w a (spans ts ms) q u zero k =
      let us : start ∷ ts ≡ ss = cc in
      let un : n ∷ ms ≡ ns = cc in
      rw (← us, ← un) (record { within = w; allowed = a })
  lies_after start n next w a (spans ts ms) q u (suc i) k =
      let us : start ∷ ts ≡ ss = cc in
      let un : n ∷ ms ≡ ns = cc in
      rw (← us, ← un) (later next ts ms q i (omega arith))

  lies_from : (at : ℕ) (x : Field) → field_for f r at ≡ x
      → on_field x (λ start n next. before (start ∷ []) (n ∷ []) (spans_from fs r next)) ≡ spans ss ns
      → (i : ℕ) → i < length (f ∷ fs) → Lies (get_or (f ∷ fs) i row) r (get_or ss i 0) (get_or ns i 0)
  lies_from at Refused q u i k = never_spans u
  lies_from at (Content tag start n next) q u i k =
      let g = is_field f r at tag start n next q in
      let x : next ≡ start + n = g.next_is in
      let y : next ≤ length r = g.within in
      lies_after start n next (omega arith) g.length_allowed_lem (spans_from fs r next) refl u i k

pub span_lies : (fs : List FieldRule) (r : List ℕ) (row : FieldRule) (at : ℕ) (ss ns : List ℕ)
    → spans_from fs r at ≡ spans ss ns → (i : ℕ) → i < length fs
    → Lies (get_or fs i row) r (get_or ss i 0) (get_or ns i 0)
unfolding spans_from
span_lies [] r row at ss ns e i h = absurd (omega arith)
span_lies (f ∷ fs) r row at ss ns e i h =
    lies_from f fs r row (λ next. span_lies fs r row next) at (field_for f r at) refl e i h

-- one span for each row
abbrev Counted : List FieldRule → List ℕ → Type 0
Counted fs r = (at : ℕ) (ss ns : List ℕ) → spans_from fs r at ≡ spans ss ns
    → (length ss ≡ length fs) × (length ns ≡ length fs)

none_counted : (t : Bool) (ss ns : List ℕ) → choose t (spans [] []) misplaced ≡ spans ss ns
    → (length ss ≡ 0) × (length ns ≡ 0)
none_counted true ss ns u =
    let us : [] ≡ ss = cc in
    let un : [] ≡ ns = cc in
    (sym (ap length us), sym (ap length un))
none_counted false ss ns u = never_spans u

module _ (f : FieldRule) (fs : List FieldRule) (r : List ℕ) (later : Counted fs r) {ss ns : List ℕ} where
  counted_after : (start n next : ℕ) (x : Spans) → spans_from fs r next ≡ x
      → before (start ∷ []) (n ∷ []) x ≡ spans ss ns
      → (length ss ≡ length (f ∷ fs)) × (length ns ≡ length (f ∷ fs))
  counted_after start n next misplaced q u = never_spans u
  counted_after start n next (spans ts ms) q u =
      let us : start ∷ ts ≡ ss = cc in
      let un : n ∷ ms ≡ ns = cc in
      let l = later next ts ms q in
      rw (← us, ← un) (ap suc l.0, ap suc l.1)

  counted_from : (x : Field) → on_field x (λ start n next. before (start ∷ []) (n ∷ []) (spans_from fs r next))
      ≡ spans ss ns
      → (length ss ≡ length (f ∷ fs)) × (length ns ≡ length (f ∷ fs))
  counted_from Refused u = never_spans u
  counted_from (Content tag start n next) u = counted_after start n next (spans_from fs r next) refl u

pub spans_counted : (fs : List FieldRule) (r : List ℕ) (at : ℕ) (ss ns : List ℕ) → spans_from fs r at ≡ spans ss ns
    → (length ss ≡ length fs) × (length ns ≡ length fs)
unfolding spans_from
spans_counted [] r at ss ns e = none_counted (leb (length r) at) ss ns e
spans_counted (f ∷ fs) r at ss ns e = counted_from f fs r (λ next. spans_counted fs r next) (field_for f r at) e

-- the content of a span
pub parts_at : (r ss ns : List ℕ) (i : ℕ) → i < length ss
    → get_or (parts_of r ss ns) i [] ≡ part r (get_or ss i 0) (get_or ns i 0)
unfolding part
parts_at r [] ns i h = absurd (omega arith)
parts_at r (s ∷ ss) [] zero h = refl
parts_at r (s ∷ ss) [] (suc i) h = refl
parts_at r (s ∷ ss) (n ∷ ns) zero h = refl
parts_at r (s ∷ ss) (n ∷ ns) (suc i) h = parts_at r ss ns i (omega arith)
