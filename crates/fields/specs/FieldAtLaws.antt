-- A field at a place is the one that reading in turn takes there; and the code of the refusal is 3.
use Rattle.std.specs.Prelude.{◌≡◌, Bool, true, false, ◌&&◌, length, eqb, leb}
use Rattle.std.proofs.Math.Path.{refl, ap}
use Rattle.std.proofs.Common.{sym, ◌∙◌, eqb-true, leb-true, leb-false, le-leb}
use Prim.Native.Nat.{ℕ, suc, ◌+◌, ◌-◌, ◌≤◌, ◌<◌}
use native.Mathlib.Omega.{arith}
use mathlib.Core.List.{List, [], ◌∷◌}
use Rattle.std.proofs.Math.ListN.{drop, get_or, length-drop}
use Rattle.std.proofs.Math.Seq.{drop-cons, drop-drop}
use Rattle.std.proofs.lemmas.Bool.{lt-leb}
use Rattle.rules.specs.Choice.{choose}
use Rattle.rules.specs.Refusals.{first_of, first_refusal}
use Rattle.octets.specs.Splice.{part}
use Rattle.fields.specs.Table.{length_allowed, Taken, taken, refused, take_field}
use Rattle.fields.specs.FieldAt.{length_at, field_at, asked, field_for, field_code, field_rules, row_rules}
use Rattle.fields.specs.declared.FieldRule.{FieldRule}
use Rattle.fields.specs.FieldAt.{Field}
use Rattle.fields.specs.FieldAt.{Content, Refused}

-- room for a bytes after b of c
room : (a b c : ℕ) → b ≤ c → leb a (c - b) ≡ leb (b + a) c
room a b c h = go (leb a (c - b)) refl
  where
    go : (t : Bool) → leb a (c - b) ≡ t → t ≡ leb (b + a) c
    go true e = let k : a ≤ c - b = leb-true a (c - b) e in sym (le-leb (b + a) c (omega arith))
    go false e = let k : c - b < a = leb-false a (c - b) e in sym (lt-leb (b + a) c (omega arith))

-- the content and the rest that a field's places name
abbrev pub taken_at : List ℕ → Field → Taken
taken_at r (Content tag start n next) = taken (part r start n) (drop next r)
taken_at r Refused = refused

module _ (f : FieldRule) (r : List ℕ) (at : ℕ) where
  three : (l : List ℕ) → length l < 3 → take_field f l ≡ refused
  unfolding take_field
  three [] h = refl
  three (a ∷ []) h = refl
  three (a ∷ b ∷ []) h = refl
  three (a ∷ b ∷ c ∷ l) h = absurd (omega arith)

  field_short : length r < at + 3 → take_field f (drop at r) ≡ refused
  field_short h = three (drop at r) (simp length-drop (omega arith))

  field_here : at + 3 ≤ length r → (n : ℕ) → n ≡ length_at r at
      → take_field f (drop at r) ≡ choose
      (eqb (get_or r at 0) f.tag && (leb n (length r - (at + 3)) && length_allowed f.length n))
      (taken (part r (at + 3) n) (drop (at + 3 + n) r)) refused
  unfolding take_field part
  field_here h n e =
      let a : suc at ≡ at + 1 = omega arith in
      let b : suc (at + 1) ≡ at + 2 = omega arith in
      let c : suc (at + 2) ≡ at + 3 = omega arith in
      let l : drop at r ≡ get_or r at 0 ∷ get_or r (at + 1) 0 ∷ get_or r (at + 2) 0 ∷ drop (at + 3) r =
      drop-cons r at 0 (omega arith)
      ∙ ap (λ (m : ℕ). get_or r at 0 ∷ drop m r) a
      ∙ ap (λ (z : List ℕ). get_or r at 0 ∷ z)
      (drop-cons r (at + 1) 0 (omega arith) ∙ ap (λ (m : ℕ). get_or r (at + 1) 0 ∷ drop m r) b
      ∙ ap (λ (z : List ℕ). get_or r (at + 1) 0 ∷ z)
      (drop-cons r (at + 2) 0 (omega arith) ∙ ap (λ (m : ℕ). get_or r (at + 2) 0 ∷ drop m r) c)) in
      ap (take_field f) l ∙ rw (← e, length-drop (at + 3) r, drop-drop n (at + 3) r)

  choices : (t u w : Bool) (x : Field)
      → choose (t && (u && w)) (taken_at r x) refused ≡ taken_at r (choose u (choose (t && w) x Refused) Refused)
  choices true true true x = refl
  choices true true false x = refl
  choices true false w x = refl
  choices false true w x = refl
  choices false false w x = refl

  asked_choice : (u : Bool) (tag start n next : ℕ)
      → asked f (choose u (Content tag start n next) Refused)
      ≡ choose u (choose (eqb tag f.tag && length_allowed f.length n) (Content tag start n next) Refused) Refused
  asked_choice true tag start n next = refl
  asked_choice false tag start n next = refl

  -- reading at a place is reading in turn
  pub field_at_lem : take_field f (drop at r) ≡ taken_at r (field_for f r at)
  unfolding field_for field_at
  field_at_lem = go (leb (at + 3) (length r)) refl
    where
      n : ℕ
      n = length_at r at

      go : (b : Bool) → leb (at + 3) (length r) ≡ b
          → take_field f (drop at r) ≡ taken_at r
          (asked f (choose b (choose (leb (at + 3 + n) (length r))
          (Content (get_or r at 0) (at + 3) n (at + 3 + n)) Refused) Refused))
      go true e =
          let h : at + 3 ≤ length r = leb-true (at + 3) (length r) e in
          field_here h n refl
          ∙ ap (λ (u : Bool). choose (eqb (get_or r at 0) f.tag && (u && length_allowed f.length n))
          (taken (part r (at + 3) n) (drop (at + 3 + n) r)) refused) (room n (at + 3) (length r) h)
          ∙ choices (eqb (get_or r at 0) f.tag) (leb (at + 3 + n) (length r)) (length_allowed f.length n)
          (Content (get_or r at 0) (at + 3) n (at + 3 + n))
          ∙ ap (taken_at r) (sym (asked_choice (leb (at + 3 + n) (length r)) (get_or r at 0) (at + 3) n (at + 3 + n)))
      go false e = field_short (leb-false (at + 3) (length r) e)

  -- what a field that the table asks for is
  pub record IsField (tag start n next : ℕ) : Type 0 where
    pub tag_is : tag ≡ f.tag
    pub start_is : start ≡ at + 3
    pub length_allowed_lem : length_allowed f.length n ≡ true
    pub next_is : next ≡ start + n
    pub within : next ≤ length r

  pub is_field : (tag start n next : ℕ) → field_for f r at ≡ Content tag start n next → IsField tag start n next
  unfolding field_for field_at
  is_field tag start n next e = go (leb (at + 3) (length r)) refl (leb (at + 3 + m) (length r)) refl
      (eqb (get_or r at 0) f.tag) refl (length_allowed f.length m) refl e
    where
      m : ℕ
      m = length_at r at

      never : {A : Type 0} → Refused ≡ Content tag start n next → A
      never q = let z : ◌≡◌ {A = ℕ} 0 1 = cc in absurd (omega arith)

      go : (b : Bool) → leb (at + 3) (length r) ≡ b → (c : Bool) → leb (at + 3 + m) (length r) ≡ c → (t : Bool)
          → eqb (get_or r at 0) f.tag ≡ t → (w : Bool) → length_allowed f.length m ≡ w
          → asked f (choose b (choose c (Content (get_or r at 0) (at + 3) m (at + 3 + m)) Refused) Refused)
          ≡ Content tag start n next → IsField tag start n next
      go false eb c ec t et w ew q = never q
      go true eb false ec t et w ew q = never q
      go true eb true ec false et w ew q = never (rw et at q)
      go true eb true ec true et false ew q = never (rw (et, ew) at q)
      go true eb true ec true et true ew q =
          let u : Content (get_or r at 0) (at + 3) m (at + 3 + m) ≡ Content tag start n next = rw (et, ew) at q in
          let ut : get_or r at 0 ≡ tag = cc in
          let us : at + 3 ≡ start = cc in
          let un : m ≡ n = cc in
          let ux : at + 3 + m ≡ next = cc in
          let k : at + 3 + m ≤ length r = leb-true (at + 3 + m) (length r) ec in
          record {
            tag_is = sym ut ∙ eqb-true (get_or r at 0) f.tag et;
            start_is = sym us;
            length_allowed_lem = ap (length_allowed f.length) (sym un) ∙ ew;
            next_is = omega arith;
            within = omega arith;
          }

-- the refusal is 3: where the field does not lie within the bytes
pub field_code_lem : (r : List ℕ) (at : ℕ) → field_code (field_at r at) ≡ first_refusal (field_rules r at)
unfolding field_at
field_code_lem r at = go (leb (at + 3) (length r)) (leb (at + 3 + length_at r at) (length r))
    (Content (get_or r at 0) (at + 3) (length_at r at) (at + 3 + length_at r at)) refl
  where
    go : (b c : Bool) (x : Field) → field_code x ≡ 0
        → field_code (choose b (choose c x Refused) Refused) ≡ first_of b 3 (first_of c 3 0)
    go true true x e = e
    go true false x e = refl
    go false c x e = refl

-- and where it is not the one that a row of a table asks for
pub row_code_lem : (f : FieldRule) (r : List ℕ) (at : ℕ) → field_code (field_for f r at) ≡ first_refusal (row_rules f r at)
unfolding field_for field_at
row_code_lem f r at = go (leb (at + 3) (length r)) (leb (at + 3 + length_at r at) (length r))
    (eqb (get_or r at 0) f.tag) refl (length_allowed f.length (length_at r at)) refl
  where
    go : (b c t : Bool) → eqb (get_or r at 0) f.tag ≡ t → (w : Bool) → length_allowed f.length (length_at r at) ≡ w
        → field_code (asked f (choose b (choose c
        (Content (get_or r at 0) (at + 3) (length_at r at) (at + 3 + length_at r at)) Refused) Refused))
        ≡ first_of b 3 (first_of c 3 (first_of t 3 (first_of w 3 0)))
    go false c t et w ew = refl
    go true false t et w ew = refl
    go true true false et w ew = rw et
    go true true true et false ew = rw (et, ew)
    go true true true et true ew = rw (et, ew)
